-- The list of a basis's costs as one number, which falls with each step.
use Rattle.std.proofs.Common.{◌≡◌, ℕ, zero, suc, ◌+◌, ◌*◌, ◌<◌, ◌≤◌, ◌≢◌, refl, arith, ap, sym, ◌∙◌, inl, inr}
use Rattle.std.specs.Prelude.{ℤ, pos, ◌+ℤ◌, ◌-ℤ◌, ◌*ℤ◌, ◌≤ℤ◌, ◌<ℤ◌, unsigned_abs}
use Rattle.std.proofs.lemmas.Int.{ints}
use Rattle.std.proofs.lemmas.Bool.{cases_eq}
use Rattle.std.proofs.Math.Nat.{mul-le-mul_left}
use Rattle.cal_math.specs.Whole.{*ℤ_assoc, *ℤ--ℤ}
use Rattle.lp_laws.proofs.Pigeon.{code}
use Rattle.lp_laws.proofs.Lexicographic.{code_falls}
use Rattle.lp_laws.proofs.Falling.{prices_fall}
use Rattle.lp_laws.specs.Orders.{IsLexAbove}
use Rattle.cal_math.specs.Vectors.{dot}
use Rattle.cal_math.proofs.Products.{one-le-*ℤ}
use Rattle.cal_math.proofs.Vectors.{dot_same, dot_scaled}
use Rattle.lp_laws.specs.Bases.{IsBasis, IsPriced}

-- ---- a multiple of all numbers up to n

pub multiple_of : ℕ → ℕ
multiple_of zero = 1
multiple_of (suc n) = multiple_of n * suc n

pub multiple_some : (n : ℕ) → 1 ≤ multiple_of n
unfolding multiple_of
multiple_some zero = omega arith
multiple_some (suc n) = omega (arith, mul-le-mul_left (multiple_of n) (one n), multiple_some n)
  where
    one : (n : ℕ) → 1 ≤ suc n
    one n = omega arith

pub multiple_is : (n d : ℕ) → 1 ≤ d → d ≤ n → (t : ℕ) × (t * d ≡ multiple_of n)
unfolding multiple_of
multiple_is zero d h k = absurd (omega arith)
multiple_is (suc n) d h k =
    elim (cases_eq d (suc n)) [
      | inl e ↦ (multiple_of n, ap (λ (v : ℕ). multiple_of n * v) e)
      | inr ne ↦
          let before = multiple_is n d h (omega arith) in
          (before.0 * suc n, omega (arith, ap (λ (v : ℕ). v * suc n) before.1))
    ]

-- ---- a list of whole numbers of magnitudes at most `most` as one number

pub measure_of : (size most : ℕ) → (ℕ → ℤ) → ℕ
measure_of size most f = code size (λ k. most + most + 1) (λ k. unsigned_abs (f k +ℤ pos most))

pub measure_falls : (size most : ℕ) (old new : ℕ → ℤ) → ((k : ℕ) → k < size → unsigned_abs (old k) ≤ most) → ((k : ℕ) → k < size → unsigned_abs (new k) ≤ most) →
    IsLexAbove size (λ k. old k -ℤ new k) → measure_of size most new < measure_of size most old
unfolding measure_of
measure_falls size most old new h k fall =
    code_falls size (λ c. most + most + 1) (λ c. unsigned_abs (new c +ℤ pos most)) (λ c. unsigned_abs (old c +ℤ pos most))
    (λ c lt. inside (new c) most (k c lt)) fall.place fall.within
    (λ c lt. let e : new c ≡ old c = omega (arith, ints, fall.zeros c lt) in ap (λ (z : ℤ). unsigned_abs (z +ℤ pos most)) e)
    (lower (old fall.place) (new fall.place) most (h fall.place fall.within) (k fall.place fall.within) fall.above)
  where
    inside : (z : ℤ) (most : ℕ) → unsigned_abs z ≤ most → unsigned_abs (z +ℤ pos most) < most + most + 1
    inside z most h = omega (arith, ints)

    lower : (a b : ℤ) (most : ℕ) → unsigned_abs a ≤ most → unsigned_abs b ≤ most → pos 1 ≤ℤ (a -ℤ b) → unsigned_abs (b +ℤ pos most) < unsigned_abs (a +ℤ pos most)
    lower a b most p q h = omega (arith, ints)

-- ---- a step

-- with prices of denominators that divide `all`, the column that enters having a cost below its price
pub step_falls : (n : ℕ) (columns columns' rows' : ℕ → ℕ → ℤ) (own' : ℕ → ℤ) → IsBasis n n columns' rows' own' → (i : ℕ) → i < n → (costs costs' numbers numbers' : ℕ → ℤ) (denominator denominator' all t t' : ℕ) →
    IsPriced n n columns costs numbers denominator → IsPriced n n columns' costs' numbers' denominator' →
    ((j : ℕ) → j < n → j ≢ i → (c : ℕ) → c < n → columns' j c ≡ columns j c) → ((j : ℕ) → j < n → j ≢ i → costs' j ≡ costs j) →
    1 ≤ all → t * denominator ≡ all → t' * denominator' ≡ all →
    (pos denominator *ℤ costs' i) <ℤ dot n numbers (columns' i) →
    (size most : ℕ) (starts : ℕ → ℕ → ℤ) → IsLexAbove size (λ k. dot n (rows' i) (starts k)) →
    ((k : ℕ) → k < size → unsigned_abs (pos t *ℤ dot n numbers (starts k)) ≤ most) → ((k : ℕ) → k < size → unsigned_abs (pos t' *ℤ dot n numbers' (starts k)) ≤ most) →
    measure_of size most (λ k. pos t' *ℤ dot n numbers' (starts k)) < measure_of size most (λ k. pos t *ℤ dot n numbers (starts k))
step_falls n columns columns' rows' own' basis i lt costs costs' numbers numbers' denominator denominator' all t t' priced priced' same_columns same_costs some t_is t'_is less size most starts above old_small new_small =
    measure_falls size most (λ k. pos t *ℤ dot n numbers (starts k)) (λ k. pos t' *ℤ dot n numbers' (starts k)) old_small new_small
    (moved (prices_fall n n columns' rows' own' basis old new i lt same lower size starts above))
  where
    old : ℕ → ℤ
    old c = pos t *ℤ numbers c

    new : ℕ → ℤ
    new c = pos t' *ℤ numbers' c

    old_is : (x : ℕ → ℤ) → dot n old x ≡ pos t *ℤ dot n numbers x
    old_is x = dot_scaled n (pos t) numbers old x (λ c less. refl)

    new_is : (x : ℕ → ℤ) → dot n new x ≡ pos t' *ℤ dot n numbers' x
    new_is x = dot_scaled n (pos t') numbers' new x (λ c less. refl)

    whole : (a b d : ℕ) (z : ℤ) → a * d ≡ b → pos a *ℤ (pos d *ℤ z) ≡ pos b *ℤ z
    whole a b d z e = sym (*ℤ_assoc (pos a) (pos d) z) ∙ ap (λ (v : ℕ). pos v *ℤ z) e

    new_at : (j : ℕ) → j < n → dot n new (columns' j) ≡ pos all *ℤ costs' j
    new_at j q = new_is (columns' j) ∙ ap (λ (z : ℤ). pos t' *ℤ z) (priced'.meets j q) ∙ whole t' all denominator' (costs' j) t'_is

    same : (j : ℕ) → j < n → j ≢ i → dot n new (columns' j) ≡ dot n old (columns' j)
    same j q ne =
        new_at j q ∙ ap (λ (z : ℤ). pos all *ℤ z) (same_costs j q ne) ∙ sym (whole t all denominator (costs j) t_is) ∙ ap (λ (z : ℤ). pos t *ℤ z) (sym (priced.meets j q)) ∙ sym (old_is (columns j))
        ∙ dot_same n old (columns j) old (columns' j) (λ c r. refl) (λ c r. sym (same_columns j q ne c r))

    t_some : (t d : ℕ) → 1 ≤ t * d → 1 ≤ t
    t_some zero d h = absurd (omega arith)
    t_some (suc t) d h = omega arith

    lower : dot n new (columns' i) <ℤ dot n old (columns' i)
    lower =
        let gap : pos 1 ≤ℤ (dot n numbers (columns' i) -ℤ pos denominator *ℤ costs' i) = omega (arith, ints, less) in
        let one : 1 ≤ t = t_some t denominator (omega (arith, t_is, some)) in
        omega (
          arith,
          ints,
          new_at i lt,
          old_is (columns' i),
          sym (whole t all denominator (costs' i) t_is),
          *ℤ--ℤ (pos t) (dot n numbers (columns' i)) (pos denominator *ℤ costs' i),
          one-le-*ℤ (pos t) (dot n numbers (columns' i) -ℤ pos denominator *ℤ costs' i) (omega (arith, ints, one)) gap,
        )

    moved : IsLexAbove size (λ k. dot n old (starts k) -ℤ dot n new (starts k)) → IsLexAbove size (λ k. pos t *ℤ dot n numbers (starts k) -ℤ pos t' *ℤ dot n numbers' (starts k))
    moved h = record {
      place = h.place;
      within = h.within;
      zeros = λ c q. omega (arith, ints, h.zeros c q, old_is (starts c), new_is (starts c));
      above = omega (arith, ints, h.above, old_is (starts h.place), new_is (starts h.place));
    }
