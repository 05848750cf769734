use Rattle.std.proofs.Common.{length}
use Rattle.cal_check.proofs.summing.+lost_sum.Given as goal

abbrev pub decreases-lost_sum : goal.decreases-lost_sum
decreases-lost_sum l = length l.steps.now
