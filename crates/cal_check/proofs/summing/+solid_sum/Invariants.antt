use Rattle.std.proofs.Common.{length}
use Rattle.cal_check.proofs.summing.+solid_sum.Given as goal

abbrev pub decreases-solid_sum : goal.decreases-solid_sum
decreases-solid_sum l = length l.steps.now
