use Rattle.cal_check.proofs.summing.are_lost.Goals as goal
use Rattle.std.proofs.Common.{arith, rules, ap, length}

pub lost_sum-sum-requires-clause-each : goal.lost_sum-sum-requires-clause-each
lost_sum-sum-requires-clause-each c =
    rw c.as_slice-steps.ensures (c.requires.each c.components.component (omega (arith, c.components-test.true, ap length c.as_slice-lost.ensures)))
