use Rattle.std.proofs.Common.{arith}
use Rattle.cal_scheil.proofs.Totals.{left_within}
use Rattle.cal_scheil.proofs.left.left_of.Goals as goal

pub returns-clause-within : goal.returns-clause-within
returns-clause-within c =
    left_within c.args.system.now c.args.liquid.now c.args.report.now c.components.left c.requires.holds.0 c.components.component c.requires.holds.1 c.components.invariant.same
    (omega (arith, c.components-test.false, c.components.auto.component-end, c.len-component-end.ensures)) c.components.invariant.are
