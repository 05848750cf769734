use Rattle.std.proofs.Common.{◌≡◌, ◌-◌}
use Rattle.std.specs.Prelude.{map}
use Rattle.tdb_expr.specs.Parts.{part_of}
use Rattle.tdb_expr.specs.Reading.{product_at}
use Rattle.tdb_expr.proofs.Loops.{with_parts}
use Rattle.tdb_expr.proofs.sum.product.Given as goal

abbrev pub invariant-factors : goal.invariant-factors
invariant-factors l = with_parts (map part_of l.all) (product_at (16 - l.counter) l.rest) ≡ product_at 16 l.fn.text
