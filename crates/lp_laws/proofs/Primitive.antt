-- A row without a common divisor takes the value 1.
use Rattle.std.proofs.Common.{◌≡◌, ℕ, ap, ◌∙◌}
use Rattle.std.specs.Prelude.{ℤ, pos}
use Rattle.cal_math.specs.Vectors.{dot}
use Rattle.cal_math.proofs.Bezout.{Greatest, greatest}
use Rattle.lp_laws.specs.Bases.{IsPrimitive}

pub one_from_primitive : (n : ℕ) (row : ℕ → ℤ) → IsPrimitive n row → (z : ℕ → ℤ) × (dot n row z ≡ pos 1)
unfolding IsPrimitive
one_from_primitive n row h =
    let all : Greatest n row = greatest n row in
    (all.z, all.exact.combined ∙ ap pos (h all.g all.exact.divides))
