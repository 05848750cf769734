-- Room for heights, and the least of them so far.
use Rattle.std.proofs.Common.{◌≡◌, ℕ, ◌+◌, ◌*◌, ◌^◌, ◌≤◌, arith, inl, inr, subst}
use Rattle.std.specs.Prelude.{ℤ, pos, ◌*ℤ◌, ◌≤ℤ◌, unsigned_abs}
use Rattle.std.specs.Int.Signed.{≤ℤ_refl}
use Rattle.std.proofs.lemmas.Int.{ints, to_z-of_z, unsigned_abs-mul}
use Rattle.std.proofs.lemmas.Bool.{cases_lt}
use Rattle.cef_mix.specs.Mixes.{height, IsLeastOn}

pub share_size : (slope : ℤ) (count : ℕ) → unsigned_abs slope * count ≤ 2 ^ 119 → unsigned_abs (slope *ℤ pos count) ≤ 2 ^ 119
share_size slope count h = rw (unsigned_abs-mul slope (pos count)) h

pub ruleset heights = (share_size, to_z-of_z)

pub IsLeastOn-one : (h : ℕ → ℤ) (slope : ℤ) (low : ℕ) (x : ℤ) → x ≡ height h slope low → IsLeastOn h slope low low low x
IsLeastOn-one h slope low x e = record { from = omega arith; to = omega arith; reached = e; below = step }
  where
    step : (k : ℕ) → low ≤ k → k ≤ low → x ≤ℤ height h slope k
    step k a b = let same : low ≡ k = omega arith in subst (λ (j : ℕ). x ≤ℤ height h slope j) same (rw e (≤ℤ_refl _))

pub IsLeastOn-keeps : (h : ℕ → ℤ) (slope : ℤ) (low high place k : ℕ) (x y : ℤ) → k ≡ high + 1 → y ≡ height h slope k → x ≤ℤ y → IsLeastOn h slope low high place x → IsLeastOn h slope low k place x
IsLeastOn-keeps h slope low high place k x y e is le least = record { from = least.from; to = omega (arith, least.to); reached = least.reached; below = step }
  where
    step : (j : ℕ) → low ≤ j → j ≤ k → x ≤ℤ height h slope j
    step j a b = elim (cases_lt j k) [
      | inl lt ↦ least.below j a (omega arith)
      | inr ge ↦ let same : k ≡ j = omega arith in subst (λ (i : ℕ). x ≤ℤ height h slope i) same (subst (λ (z : ℤ). x ≤ℤ z) is le)
    ]

pub IsLeastOn-takes : (h : ℕ → ℤ) (slope : ℤ) (low high place k : ℕ) (x y : ℤ) → k ≡ high + 1 → low ≤ high → y ≡ height h slope k → y ≤ℤ x → IsLeastOn h slope low high place x → IsLeastOn h slope low k k y
IsLeastOn-takes h slope low high place k x y e order is le least = record { from = omega arith; to = omega arith; reached = is; below = step }
  where
    step : (j : ℕ) → low ≤ j → j ≤ k → y ≤ℤ height h slope j
    step j a b = elim (cases_lt j k) [
      | inl lt ↦ omega (arith, ints, le, least.below j a (omega arith))
      | inr ge ↦ let same : k ≡ j = omega arith in subst (λ (i : ℕ). y ≤ℤ height h slope i) same (subst (λ (z : ℤ). y ≤ℤ z) is (≤ℤ_refl _))
    ]
