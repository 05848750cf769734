use Rattle.std.proofs.Common.{ℕ, suc}
use Rattle.std.specs.Prelude.{ℤ}
use Rattle.cal_math.specs.Vectors.{at}
use Rattle.lp_basis.specs.Potentials.{CanPrice, IsPotentials}
use Rattle.lp_basis.proofs.Pricing.{front}
use Rattle.lp_basis.proofs.potential.potentials_of.Given as goal

abbrev pub invariant-places : goal.invariant-places
invariant-places l = (b w s : ℕ) (columns : ℕ → ℕ → ℤ) → CanPrice b w s columns l.rows l.costs → IsPotentials (suc b) columns (front l.j (at l.costs)) l.sum
