use Rattle.std.proofs.Common.{arith}
use Rattle.cal_dec.specs.Tens.{ten-pow-pos, ten-pow-le}
use Rattle.cal_dec.proofs.scaling.small_power_of_ten.Goals as goal

pub pow-requires : goal.pow-requires
pow-requires c = omega (arith, ten-pow-le c.args.places 17 c.requires)

pub returns : goal.returns
returns c = record { power = c.pow.ensures; least = omega (arith, c.pow.ensures, ten-pow-pos c.args.places); greatest = omega (arith, c.pow.ensures, ten-pow-le c.args.places 17 c.requires) }
