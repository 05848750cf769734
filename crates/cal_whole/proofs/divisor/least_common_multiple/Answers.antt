use Rattle.std.proofs.Common.{arith}
use Rattle.cal_math.proofs.Divisors.{factor_above}
use Rattle.cal_whole.proofs.Multiples.{IsLeastMultiple-from_gcd}
use Rattle.cal_whole.proofs.divisor.least_common_multiple.Goals as goal

pub nonzero_div-result : goal.nonzero_div-result
nonzero_div-result c = omega (arith, factor_above c.gcd.result c.args.b c.requires.second c.gcd.ensures.0)

pub returns : goal.returns
returns c = IsLeastMultiple-from_gcd c.args.a c.args.b c.gcd.result c.requires.first c.requires.second c.gcd.ensures
