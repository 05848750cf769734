-- What amounts are worth where there is one component.
use Rattle.std.proofs.Common.{◌≡◌, ℕ, [], ◌∷◌, arith}
use Rattle.std.specs.Prelude.{ℤ, pos, ◌+ℤ◌, ◌*ℤ◌}
use Rattle.std.proofs.lemmas.Int.{ints}
use Rattle.cal_math.specs.Vectors.{dot}
use Rattle.cef_core.specs.Worth.{worth}

pub worth-one : (m : ℤ) (amounts : ℕ → ℤ) → worth (m ∷ []) amounts ≡ m *ℤ amounts 0
unfolding dot
worth-one m amounts = omega (arith, ints)
