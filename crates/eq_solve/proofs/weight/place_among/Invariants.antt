use Rattle.std.proofs.Common.{ℕ, ◌<◌, ◌≤◌, get_or}
use Rattle.lp_core.specs.Plans.{Weight}
use Rattle.eq_solve.proofs.weight.place_among.Given as goal

abbrev pub invariant-weights : goal.invariant-weights
invariant-weights l = (k : ℕ) (d : Weight) → k < l.place → (get_or l.weights k d).0 ≤ l.column
