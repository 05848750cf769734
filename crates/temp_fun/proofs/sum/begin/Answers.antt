use Rattle.std.proofs.Common.{refl}
use Rattle.temp_fun.proofs.Choosing.{chosen_fine}
use Rattle.temp_fun.proofs.Sums.{sum_start, outside_stops}
use Rattle.temp_fun.proofs.sum.begin.Goals as goal

pub read_products-requires-clause-sum : goal.read_products-requires-clause-sum
read_products-requires-clause-sum c = sum_start c.args.reader.now.functions.now.entries c.args.reader.now.t c.as_slice-in-Sum.result.now _ refl refl

pub read_products-requires-clause-products : goal.read_products-requires-clause-products
read_products-requires-clause-products c = chosen_fine c.args.reader.now.t c.args.ranged.now c.as_slice.result.now c.chosen.result.now c.in-Sum.products _ c.requires.ranged c.as_slice.ensures c.chosen.ensures c.in-Sum.is c.as_slice-in-Sum.ensures

pub returns-in-Unsupported : goal.returns-in-Unsupported
returns-in-Unsupported c = λ followed are. outside_stops c.args.reader.now.functions.now.entries c.args.reader.now.t followed c.args.ranged.now c.as_slice.result.now c.chosen.result.now c.as_slice.ensures c.chosen.ensures c.in-Unsupported.is
