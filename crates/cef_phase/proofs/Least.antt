-- The least of a function over a range.
use Rattle.std.proofs.Common.{◌≡◌, ℕ, zero, suc, ◌+◌, ◌≤◌, arith, refl, inl, inr, subst, ◌∙◌}
use Rattle.std.specs.Prelude.{ℤ, ◌≤ℤ◌, ◌<ℤ◌, ◌⊎◌}
use Rattle.std.specs.Int.Signed.{≤ℤ_refl}
use Rattle.std.proofs.lemmas.Int.{ints, by_lt_z}
use Rattle.std.proofs.lemmas.Bool.{cases_lt}
use Rattle.cef_phase.specs.Bounds.{lesser, least_over}

-- x is the least of f from low to high
pub record IsLeast (f : ℕ → ℤ) (low high : ℕ) (x : ℤ) : Type 0 where
  pub place : ℕ
  pub from : low ≤ place
  pub to : place ≤ high
  pub reached : x ≡ f place
  pub below : (k : ℕ) → low ≤ k → k ≤ high → x ≤ℤ f k

lesser_is : (a b : ℤ) → (lesser a b ≡ a × (a ≤ℤ b)) ⊎ (lesser a b ≡ b × (b ≤ℤ a))
lesser_is a b = by_lt_z b a (λ lt. inr (lesser_low a b lt, omega (arith, ints))) (λ le. inl (lesser_high a b le, le))
  where
    lesser_low : (a b : ℤ) → b <ℤ a → lesser a b ≡ b
    lesser_low a b lt = grind (arith, ints)

    lesser_high : (a b : ℤ) → a ≤ℤ b → lesser a b ≡ a
    lesser_high a b le = grind (arith, ints)

pub least_over_is : (f : ℕ → ℤ) (low more : ℕ) → IsLeast f low (low + more) (least_over f low more)
least_over_is f low zero = record { place = low; from = omega arith; to = omega arith; reached = refl; below = here }
  where
    here : (k : ℕ) → low ≤ k → k ≤ low + zero → f low ≤ℤ f k
    here k a b = let same : low ≡ k = omega arith in subst (λ (j : ℕ). f low ≤ℤ f j) same (≤ℤ_refl _)
least_over_is f low (suc more) =
    let before = least_over_is f low more in
    let last : ℕ = low + suc more in
    elim (lesser_is (least_over f low more) (f (low + suc more))) [
      | inl c ↦ record { place = before.place; from = before.from; to = omega (arith, before.to); reached = c.0 ∙ before.reached; below = first c.0 c.1 before }
      | inr c ↦ record { place = last; from = omega arith; to = omega arith; reached = c.0; below = second c.0 c.1 before }
    ]
  where
    first : lesser (least_over f low more) (f (low + suc more)) ≡ least_over f low more → (least_over f low more ≤ℤ f (low + suc more)) → IsLeast f low (low + more) (least_over f low more) →
        (k : ℕ) → low ≤ k → k ≤ low + suc more → lesser (least_over f low more) (f (low + suc more)) ≤ℤ f k
    first e le before k a b = elim (cases_lt k (low + suc more)) [
      | inl lt ↦ rw e (before.below k a (omega arith))
      | inr ge ↦ let same : low + suc more ≡ k = omega arith in rw e (subst (λ (j : ℕ). least_over f low more ≤ℤ f j) same le)
    ]

    second : lesser (least_over f low more) (f (low + suc more)) ≡ f (low + suc more) → (f (low + suc more) ≤ℤ least_over f low more) → IsLeast f low (low + more) (least_over f low more) →
        (k : ℕ) → low ≤ k → k ≤ low + suc more → lesser (least_over f low more) (f (low + suc more)) ≤ℤ f k
    second e le before k a b = elim (cases_lt k (low + suc more)) [
      | inl lt ↦ rw e (omega (arith, ints, le, before.below k a (omega arith)))
      | inr ge ↦ let same : low + suc more ≡ k = omega arith in rw e (subst (λ (j : ℕ). f (low + suc more) ≤ℤ f j) same (≤ℤ_refl _))
    ]

pub IsLeast_one : (f : ℕ → ℤ) (low high : ℕ) (x y : ℤ) → IsLeast f low high x → IsLeast f low high y → x ≡ y
IsLeast_one f low high x y a b =
    let p : x ≤ℤ y = rw b.reached (a.below b.place b.from b.to) in
    let q : y ≤ℤ x = rw a.reached (b.below a.place a.from a.to) in
    omega (arith, ints)
