use Rattle.std.proofs.Common.{SFits, rules}
use Rattle.std.specs.Int.{w128}
use Rattle.std.specs.Int.RustNames.{int_div}
use Rattle.std.proofs.lemmas.Int.{to_z-of_z, quot_fits}
use Rattle.cal_whole.proofs.Quotients.{quotient_exact}
use Rattle.cal_whole.proofs.arithmetic.exact_quotient.Goals as goal

pub returns : goal.returns
returns c =
    let fits_a = c.ranges.a in
    let fits_d = c.ranges.d in
    let fits : SFits w128 (int_div c.args.a c.args.d) = quot_fits w128 c.args.a c.args.d c.ranges.a (search rules) in
    simp to_z-of_z (quotient_exact c.args.a c.args.d c.requires.divides.0 c.requires.divisor c.requires.divides.1)
