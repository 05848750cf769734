use Rattle.std.proofs.Common.{◌≡◌, ℕ, ◌<◌}
use Rattle.cal_math.specs.Sums.{sum_of}
use Rattle.cal_math.specs.Vectors.{at}
use Rattle.cal_check.specs.Workings.{lost_in}
use Rattle.cal_check.proofs.summing.are_lost.Given as goal

abbrev pub invariant-components : goal.invariant-components
invariant-components l = (c : ℕ) → c < l.component → at l.path.lost c ≡ sum_of (lost_in c) l.path.steps
