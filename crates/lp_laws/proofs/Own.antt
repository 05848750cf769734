-- A row's product with a column, and so its own product, is at most the greatest magnitude of its numbers times the column's sum.
use Rattle.std.proofs.Common.{ℕ, suc, ◌*◌, ◌^◌, ◌<◌, ◌≤◌, arith, ap}
use Rattle.std.specs.Prelude.{ℤ, pos, ◌≤ℤ◌, unsigned_abs}
use Rattle.std.proofs.lemmas.Int.{ints}
use Rattle.std.proofs.Math.Nat.{pow-suc, mul-le-mul_left}
use Rattle.cal_math.proofs.Vectors.{dot_bounded}
use Rattle.lp_laws.proofs.Bounds.{number-le}
use Rattle.cal_math.specs.Vectors.{sum_to}
use Rattle.lp_laws.specs.Bases.{IsBasis, IsPrimitive, IsPlain}

pub own-le : (b w : ℕ) (columns rows : ℕ → ℕ → ℤ) (own : ℕ → ℤ) → IsBasis (suc b) (suc b) columns rows own → IsPlain (suc b) (suc b) w columns →
    (j : ℕ) → j < suc b → IsPrimitive (suc b) (rows j) → own j ≤ℤ pos (w ^ suc b)
own-le b w columns rows own basis is j lt primitive =
    let h = dot_bounded (suc b) (w ^ b) (rows j) (columns j) (λ c less. number-le b w columns rows own basis is j c lt less primitive) (λ c less. is.least j c lt less) in
    let sum : unsigned_abs (sum_to (suc b) (columns j)) ≤ w = omega (arith, ints, is.sums j lt, h.0) in
    let size : unsigned_abs (own j) ≤ w ^ b * w = omega (arith, ap unsigned_abs (basis.owns j lt), h.1, mul-le-mul_left (w ^ b) sum) in
    rw (pow-suc w b) (omega (arith, ints, size, basis.above j lt))
