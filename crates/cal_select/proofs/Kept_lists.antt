-- what is kept of a list
use Rattle.std.proofs.Common.{◌≡◌, ℕ, zero, suc, ◌≤◌, ◌+◌, List, [], ◌∷◌, length, map, take, Bool, true, false, cond, refl, ap, arith, Some, slice_get, add-one}
use Rattle.std.specs.Prelude.{filter, ◌==◌}
use Rattle.std.proofs.lemmas.Bool.Decides.{nat_tests}

-- a filter of images
pub filter-map : {A B : Type 0} (f : A → B) (p : B → Bool) (xs : List A) → filter p (map f xs) ≡ map f (filter (λ x. p (f x)) xs)
filter-map f p [] = refl
filter-map {A = A} {B = B} f p (x ∷ xs) = by_test (p (f x)) (filter-map f p xs)
  where
    by_test : (b : Bool) → filter p (map f xs) ≡ map f (filter (λ x. p (f x)) xs) → cond b (f x ∷ filter p (map f xs)) (filter p (map f xs)) ≡ map f (cond b (x ∷ filter (λ x. p (f x)) xs) (filter (λ x. p (f x)) xs))
    by_test true e = ap (λ (ys : List B). f x ∷ ys) e
    by_test false e = e

some-kept : {A : Type 0} (p : A → Bool) (xs : List A) (i : ℕ) (x : A) → slice_get xs i ≡ Some x → p x ≡ true → 1 ≤ length (filter p xs)
some-kept p [] i x is yes_x = cc
some-kept p (y ∷ ys) zero x is yes_x = let same : y ≡ x = cc in rw (same, yes_x) (omega arith)
some-kept p (y ∷ ys) (suc i) x is yes_x = by_test (p y) (some-kept p ys i x is yes_x)
  where
    by_test : (b : Bool) → 1 ≤ length (filter p ys) → 1 ≤ length (cond b (y ∷ filter p ys) (filter p ys))
    by_test true le = omega arith
    by_test false le = le

-- one that is kept
pub some_kept_at : {A : Type 0} (p : A → Bool) (xs : List A) (i : ℕ) (x : A) → slice_get xs i ≡ Some x → p x ≡ true → (length (filter p xs) == 0) ≡ false
some_kept_at p xs i x is yes_x = apart (length (filter p xs)) (some-kept p xs i x is yes_x)
  where
    apart : (n : ℕ) → 1 ≤ n → (n == 0) ≡ false
    apart zero le = absurd (omega (arith, le))
    apart (suc n) le = grind (arith, nat_tests)

-- one more that is not kept
pub none-kept-on : {A : Type 0} (p : A → Bool) (xs : List A) (i : ℕ) (x : A) → slice_get xs i ≡ Some x → filter p (take i xs) ≡ [] → p x ≡ false → filter p (take (i + 1) xs) ≡ []
none-kept-on {A = A} p xs i x is none no_x = rw add-one (onward xs i is none)
  where
    onward : (ys : List A) (j : ℕ) → slice_get ys j ≡ Some x → filter p (take j ys) ≡ [] → filter p (take (suc j) ys) ≡ []
    onward [] j at gone = refl
    onward (y ∷ ys) zero at gone = let same : y ≡ x = cc in rw (same, no_x) refl
    onward (y ∷ ys) (suc j) at gone = by_test (p y) gone (onward ys j at)
      where
        by_test : (b : Bool) → cond b (y ∷ filter p (take j ys)) (filter p (take j ys)) ≡ [] → (filter p (take j ys) ≡ [] → filter p (take (suc j) ys) ≡ []) → cond b (y ∷ filter p (take (suc j) ys)) (filter p (take (suc j) ys)) ≡ []
        by_test true h rest = cc
        by_test false h rest = rest h

pub ruleset kept_lists = (some_kept_at)
