use Rattle.cal_check.proofs.summing.are_solids.Goals as goal
use Rattle.std.proofs.Common.{arith, rules, ap, length}

pub solid_sum-sum-requires-clause-each : goal.solid_sum-sum-requires-clause-each
solid_sum-sum-requires-clause-each c =
    rw c.as_slice-steps.ensures (c.requires.each c.components.component (omega (arith, c.components-test.true, ap length c.as_slice-solids.ensures)))
