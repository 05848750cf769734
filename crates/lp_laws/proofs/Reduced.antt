-- Potentials over their least denominator, and the bounds of them.
use Rattle.std.proofs.Common.{◌≡◌, ℕ, zero, suc, ◌*◌, ◌^◌, ◌<◌, ◌≤◌, arith, ap, ◌∙◌}
use Rattle.std.specs.Prelude.{ℤ, pos, negsuc, ◌-ℤ◌, ◌*ℤ◌, unsigned_abs}
use Rattle.std.proofs.lemmas.Int.{ints}
use Rattle.cal_math.specs.Whole.{*ℤ--ℤ}
use Rattle.lp_laws.proofs.Skip.{put_same, put_other}
use Rattle.cal_math.specs.Vectors.{dot}
use Rattle.lp_laws.proofs.Primitive.{one_from_primitive}
use Rattle.lp_laws.proofs.Potentials.{wide_row, denominator-le, potential-le}
use Rattle.lp_laws.proofs.Unique.{zero_row}
use Rattle.lp_laws.specs.Bases.{IsBasis, IsPrimitive, IsPlain, IsPriced, IsReduced}

primitive_from_reduced : (n : ℕ) (numbers : ℕ → ℤ) (denominator : ℕ) → IsReduced n numbers denominator → IsPrimitive (suc n) (wide_row n numbers denominator)
unfolding IsReduced IsPrimitive wide_row
primitive_from_reduced n numbers denominator h g divides =
    h g
    ((divides n (omega arith)).0, (divides n (omega arith)).1 ∙ put_same n (pos denominator) (λ c. negsuc 0 *ℤ numbers c))
    (λ c lt. (
      pos 0 -ℤ (divides c (omega arith)).0,
      omega (arith, ints, *ℤ--ℤ (pos g) (pos 0) (divides c (omega arith)).0, (divides c (omega arith)).1, put_other n (pos denominator) (λ c. negsuc 0 *ℤ numbers c) c (λ e. omega arith)),
    ))

one_from_reduced : (n : ℕ) (numbers : ℕ → ℤ) (denominator : ℕ) → IsReduced n numbers denominator → (z : ℕ → ℤ) × (dot (suc n) (wide_row n numbers denominator) z ≡ pos 1)
one_from_reduced n numbers denominator h = one_from_primitive (suc n) (wide_row n numbers denominator) (primitive_from_reduced n numbers denominator h)

pub reduced_denominator-le : (n w : ℕ) (columns rows : ℕ → ℕ → ℤ) (own costs numbers : ℕ → ℤ) (denominator : ℕ) → IsBasis n n columns rows own → IsPlain n n w columns →
    IsPriced n n columns costs numbers denominator → IsReduced n numbers denominator → denominator ≤ w ^ n
reduced_denominator-le n w columns rows own costs numbers denominator basis is priced reduced =
    let one = one_from_reduced n numbers denominator reduced in
    denominator-le n w columns rows own costs numbers denominator basis is priced one.0 one.1

no_cost : (d : ℤ) (z : ℤ) → unsigned_abs z ≤ 0 → d *ℤ z ≡ pos 0
no_cost d z h = let e : z ≡ pos 0 = omega (arith, ints) in ap (λ (v : ℤ). d *ℤ v) e ∙ omega (arith, ints)

pub reduced_potential-le : (b w s : ℕ) (columns rows : ℕ → ℕ → ℤ) (own costs numbers : ℕ → ℤ) (denominator : ℕ) → b < 8 → IsBasis (suc b) (suc b) columns rows own → IsPlain (suc b) (suc b) w columns →
    IsPriced (suc b) (suc b) columns costs numbers denominator → IsReduced (suc b) numbers denominator → ((j : ℕ) → j < suc b → unsigned_abs (costs j) ≤ s) →
    (k : ℕ) → k < suc b → unsigned_abs (numbers k) ≤ 3 * suc b * s * w ^ b
reduced_potential-le b w zero columns rows own costs numbers denominator few basis is priced reduced small k lt =
    let e : numbers k ≡ pos 0 = zero_row (suc b) (suc b) columns rows own numbers basis (λ j less. priced.meets j less ∙ no_cost (pos denominator) (costs j) (small j less)) k lt in
    rw e (omega arith)
reduced_potential-le b w (suc s) columns rows own costs numbers denominator few basis is priced reduced small k lt =
    let one = one_from_reduced (suc b) numbers denominator reduced in
    potential-le b w (suc s) columns rows own costs numbers denominator basis is priced small one.0 one.1 few (omega arith) k lt
