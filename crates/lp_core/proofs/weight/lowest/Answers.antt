use Rattle.std.proofs.Common.{arith, refl}
use Rattle.cal_math.proofs.Divisors.{factor_above}
use Rattle.lp_core.proofs.Divisors.{IsLowest-from_gcd}
use Rattle.lp_core.proofs.weight.lowest.Goals as goal

pub nonzero_div-result : goal.nonzero_div-result
nonzero_div-result c = omega (arith, factor_above c.gcd-shared.result c.args.below c.requires c.gcd-shared.ensures.0)

pub nonzero_div-result-2 : goal.nonzero_div-result-2
nonzero_div-result-2 c = omega (arith, factor_above c.gcd-shared.result c.args.below c.requires c.gcd-shared.ensures.0)

pub returns : goal.returns
returns c = IsLowest-from_gcd c.args.above c.args.below c.gcd-shared.result _ c.requires c.gcd-shared.ensures refl refl
