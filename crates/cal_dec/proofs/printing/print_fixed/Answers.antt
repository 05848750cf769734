use Rattle.std.proofs.Common.{arith}
use Rattle.cal_dec.specs.Tens.{ten-pow-pos}
use Rattle.cal_dec.proofs.printing.print_fixed.Goals as goal

pub nonzero_div-whole : goal.nonzero_div-whole
nonzero_div-whole c = omega (arith, c.pow.ensures, ten-pow-pos c.args.places)
