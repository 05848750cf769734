-- The first of a list at which a function is greatest.
use Rattle.std.proofs.Common.{◌≡◌, ℕ, zero, suc, ◌<◌, List, [], ◌∷◌, arith, refl, inl, inr, subst, sym, cond, Some, slice_get}
use Rattle.std.specs.Prelude.{ℤ, pos, ◌+ℤ◌, ◌-ℤ◌, ◌*ℤ◌, ◌≤ℤ◌, ◌<ℤ◌, ◌⊎◌}
use Rattle.std.specs.Int.{int_div_euclid}
use Rattle.std.specs.Int.Signed.{≤ℤ_refl, lt_z}
use Rattle.std.proofs.lemmas.Int.{ints, by_lt_z}
use Rattle.cal_math.specs.Whole.{*ℤ-+ℤ, *ℤ--ℤ, *ℤ_comm, *ℤ-≤, floor-le, lt-floor}
use Rattle.cef_phase.specs.Choosing.{IsFirstGreatest}
use Rattle.cef_phase.specs.Firsts.{first_greatest}

some_is : (x y : ℤ) → Some x ≡ Some y → x ≡ y
some_is x y e = cc

chosen_yes : (a b x y : ℤ) → a <ℤ b → cond (lt_z a b) y x ≡ y
chosen_yes a b x y lt = grind (arith, ints)

chosen_no : (a b x y : ℤ) → b ≤ℤ a → cond (lt_z a b) y x ≡ x
chosen_no a b x y le = grind (arith, ints)

pub picked_yes : (f : ℤ → ℤ) (x y : ℤ) → f x <ℤ f y → cond (lt_z (f x) (f y)) y x ≡ y
picked_yes f x y lt = chosen_yes (f x) (f y) x y lt

pub picked_no : (f : ℤ → ℤ) (x y : ℤ) → f y ≤ℤ f x → cond (lt_z (f x) (f y)) y x ≡ x
picked_no f x y le = chosen_no (f x) (f y) x y le

picked : (f : ℤ → ℤ) (x y : ℤ) → (cond (lt_z (f x) (f y)) y x ≡ y × (f x <ℤ f y)) ⊎ (cond (lt_z (f x) (f y)) y x ≡ x × (f y ≤ℤ f x))
picked f x y = by_lt_z (f x) (f y) (λ lt. inl (picked_yes f x y lt, lt)) (λ le. inr (picked_no f x y le, le))

kept_at : (f : ℤ → ℤ) (x y best : ℤ) (ys : List ℤ) (place : ℕ) → f y ≤ℤ f x → slice_get (x ∷ ys) place ≡ Some best →
    ((i : ℕ) (z : ℤ) → slice_get (x ∷ ys) i ≡ Some z → f z ≤ℤ f best) → ((i : ℕ) (z : ℤ) → slice_get (x ∷ ys) i ≡ Some z → i < place → f z <ℤ f best) →
    IsFirstGreatest f (x ∷ y ∷ ys) best
kept_at f x y best ys zero le there most before = record { place = 0; there = there; greatest = greatest; first = λ i z e l. absurd (omega arith) }
  where
    top : f x ≤ℤ f best
    top = most 0 x refl

    greatest : (i : ℕ) (z : ℤ) → slice_get (x ∷ y ∷ ys) i ≡ Some z → f z ≤ℤ f best
    greatest zero z e = most 0 z e
    greatest (suc zero) z e = let same : y ≡ z = some_is y z e in rw (← same) (omega (arith, ints, le, top))
    greatest (suc (suc i)) z e = most (suc i) z e
kept_at f x y best ys (suc place) le there most before = record { place = suc (suc place); there = there; greatest = greatest; first = first }
  where
    top : f x ≤ℤ f best
    top = most 0 x refl

    above : f x <ℤ f best
    above = before 0 x refl (omega arith)

    greatest : (i : ℕ) (z : ℤ) → slice_get (x ∷ y ∷ ys) i ≡ Some z → f z ≤ℤ f best
    greatest zero z e = most 0 z e
    greatest (suc zero) z e = let same : y ≡ z = some_is y z e in rw (← same) (omega (arith, ints, le, top))
    greatest (suc (suc i)) z e = most (suc i) z e

    first : (i : ℕ) (z : ℤ) → slice_get (x ∷ y ∷ ys) i ≡ Some z → i < suc (suc place) → f z <ℤ f best
    first zero z e l = before 0 z e (omega arith)
    first (suc zero) z e l = let same : y ≡ z = some_is y z e in rw (← same) (omega (arith, ints, le, above))
    first (suc (suc i)) z e l = before (suc i) z e (omega arith)

-- it is the first at which f is greatest
pub first_greatest_is : (f : ℤ → ℤ) (x : ℤ) (ys : List ℤ) → IsFirstGreatest f (x ∷ ys) (first_greatest f x ys)
first_greatest_is f x [] = record { place = 0; there = refl; greatest = greatest; first = λ i y e lt. absurd (omega arith) }
  where
    greatest : (i : ℕ) (y : ℤ) → slice_get (x ∷ []) i ≡ Some y → f y ≤ℤ f x
    greatest zero y e = let same : x ≡ y = some_is x y e in rw (← same) (≤ℤ_refl (f x))
    greatest (suc i) y e = absurd cc
first_greatest_is f x (y ∷ ys) =
    elim (picked f x y) [
      | inl p ↦ subst (λ (z : ℤ). IsFirstGreatest f (x ∷ y ∷ ys) (first_greatest f z ys)) (sym p.0) (later p.1 (first_greatest_is f y ys))
      | inr p ↦ subst (λ (z : ℤ). IsFirstGreatest f (x ∷ y ∷ ys) (first_greatest f z ys)) (sym p.0) (kept p.1 (first_greatest_is f x ys))
    ]
  where
    later : f x <ℤ f y → IsFirstGreatest f (y ∷ ys) (first_greatest f y ys) → IsFirstGreatest f (x ∷ y ∷ ys) (first_greatest f y ys)
    later lt g = record { place = suc g.place; there = g.there; greatest = greatest; first = first }
      where
        top : f y ≤ℤ f (first_greatest f y ys)
        top = g.greatest 0 y refl

        greatest : (i : ℕ) (z : ℤ) → slice_get (x ∷ y ∷ ys) i ≡ Some z → f z ≤ℤ f (first_greatest f y ys)
        greatest zero z e = let same : x ≡ z = some_is x z e in rw (← same) (omega (arith, ints, lt, top))
        greatest (suc i) z e = g.greatest i z e

        first : (i : ℕ) (z : ℤ) → slice_get (x ∷ y ∷ ys) i ≡ Some z → i < suc g.place → f z <ℤ f (first_greatest f y ys)
        first zero z e l = let same : x ≡ z = some_is x z e in rw (← same) (omega (arith, ints, lt, top))
        first (suc i) z e l = g.first i z e (omega arith)

    kept : f y ≤ℤ f x → IsFirstGreatest f (x ∷ ys) (first_greatest f x ys) → IsFirstGreatest f (x ∷ y ∷ ys) (first_greatest f x ys)
    kept le g = kept_at f x y (first_greatest f x ys) ys g.place le g.there g.greatest g.first

-- ---- secants

exact : (d q e m x : ℤ) → pos 0 ≤ℤ d → (d *ℤ q) ≤ℤ x → x <ℤ (d *ℤ q +ℤ d) → (d *ℤ (e -ℤ m)) ≤ℤ x → x <ℤ (d *ℤ (e -ℤ m) +ℤ d) → q ≡ e -ℤ m
exact d q e m x pd a b c g =
    by_lt_z q (e -ℤ m)
    (λ lt. absurd (omega (arith, ints, *ℤ-≤ d (q +ℤ pos 1) (e -ℤ m) pd (omega (arith, ints, lt)), *ℤ-+ℤ d q (pos 1), b, c, *ℤ_comm d (pos 1))))
    (λ le.
    by_lt_z (e -ℤ m) q
    (λ lt. absurd (omega (arith, ints, *ℤ-≤ d ((e -ℤ m) +ℤ pos 1) q pd (omega (arith, ints, lt)), *ℤ-+ℤ d (e -ℤ m) (pos 1), a, g, *ℤ_comm d (pos 1))))
    (λ more. omega (arith, ints, le, more)))

-- a whole multiple comes out of a floor
pub floor-less : (a m : ℤ) (d : ℕ) → 0 < d → int_div_euclid (a -ℤ m *ℤ pos d) (pos d) ≡ int_div_euclid a (pos d) -ℤ m
floor-less a m d p =
    let one : pos 1 ≤ℤ pos d = omega (arith, ints) in
    let e : ℤ = int_div_euclid a (pos d) in
    exact (pos d) _ e m (a -ℤ m *ℤ pos d) (omega (arith, ints)) (floor-le (a -ℤ m *ℤ pos d) (pos d) one) (lt-floor (a -ℤ m *ℤ pos d) (pos d) one) (omega (arith, ints, *ℤ--ℤ (pos d) e m, *ℤ_comm (pos d) m, floor-le a (pos d) one)) (omega (arith, ints, *ℤ--ℤ (pos d) e m, *ℤ_comm (pos d) m, lt-floor a (pos d) one))
