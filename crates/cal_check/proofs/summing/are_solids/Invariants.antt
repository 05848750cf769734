use Rattle.std.proofs.Common.{◌≡◌, ℕ, ◌<◌}
use Rattle.cal_math.specs.Sums.{sum_of}
use Rattle.cal_math.specs.Vectors.{at}
use Rattle.cal_check.specs.Workings.{solid_in}
use Rattle.cal_check.proofs.summing.are_solids.Given as goal

abbrev pub invariant-components : goal.invariant-components
invariant-components l = (c : ℕ) → c < l.component → at l.path.solids c ≡ sum_of (solid_in c) l.path.steps
