-- the greatest of the numbers so far
use Rattle.std.proofs.Common.{◌≡◌, ℕ, ◌+◌, ◌<◌, arith, subst, inl, inr}
use Rattle.std.specs.Prelude.{ℤ, ◌≤ℤ◌, ◌<ℤ◌}
use Rattle.std.proofs.lemmas.Int.{ints}
use Rattle.std.proofs.lemmas.Bool.{cases_lt}
use Rattle.eq_solve.specs.Figures.{IsGreatest}

pub IsGreatest_takes : (n : ℕ) (f : ℕ → ℤ) (x y : ℤ) → IsGreatest n f x → f n ≡ y → x <ℤ y → IsGreatest (n + 1) f y
IsGreatest_takes n f x y is here less = record { place = n; within = omega arith; is = here; most = most }
  where
    most : (c : ℕ) → c < n + 1 → f c ≤ℤ y
    most c lt =
        elim (cases_lt c n) [
          | inl before ↦ omega (arith, ints, is.most c before, less)
          | inr behind ↦ let e : n ≡ c = omega arith in subst (λ (k : ℕ). f k ≤ℤ y) e (omega (arith, ints, here))
        ]

pub IsGreatest_keeps : (n : ℕ) (f : ℕ → ℤ) (x : ℤ) → IsGreatest n f x → f n ≤ℤ x → IsGreatest (n + 1) f x
IsGreatest_keeps n f x is less = record { place = is.place; within = omega (arith, is.within); is = is.is; most = most }
  where
    most : (c : ℕ) → c < n + 1 → f c ≤ℤ x
    most c lt =
        elim (cases_lt c n) [
          | inl before ↦ is.most c before
          | inr behind ↦ let e : n ≡ c = omega arith in subst (λ (k : ℕ). f k ≤ℤ x) e less
        ]
