use Rattle.std.proofs.Common.{arith}
use Rattle.lp_core.proofs.Weighing.{common_none, common_more, common_small}
use Rattle.lp_core.proofs.weight.parts_of.Goals as goal

pub fractions-init : goal.fractions-init
fractions-init c = record { common = common_none c.args.fractions.now; small = omega arith }

pub fractions-preserved : goal.fractions-preserved
fractions-preserved c =
    let next = common_more c.args.fractions.now c.fractions.j c.fractions.parts c.least_common_multiple-parts.result (record { numerator = 0; denominator = 0 }) c.fractions-test.true c.fractions.invariant.common c.least_common_multiple-parts.ensures in
    record { common = next; small = common_small c.args.fractions.now _ c.least_common_multiple-parts.result c.requires (omega (arith, c.fractions-test.true)) next }
