use Rattle.std.proofs.Common.{◌≡◌, ℕ, ◌<◌, ◌*ℤ◌}
use Rattle.cal_math.specs.Vectors.{at}
use Rattle.lp_stage.proofs.leaving.is_before.Given as goal

abbrev pub invariant-places : goal.invariant-places
invariant-places l = (j : ℕ) → j < l.k → l.a *ℤ at l.second j ≡ l.b *ℤ at l.first j
