-- Sums of terms, one term after the other.
use Rattle.std.proofs.Common.{◌≡◌, ℕ, zero, suc, ◌+◌, ◌≤◌, List, [], ◌∷◌, Some, take, slice_get, arith, ap, sym, add-one}
use Rattle.std.specs.Prelude.{ℤ, ◌+ℤ◌, unsigned_abs, FitsSigned}
use Rattle.std.specs.Int.{w128}
use Rattle.std.proofs.lemmas.Int.{ints}
use Rattle.cal_limits.specs.declared.TheConstants.{MOST_CURIE}
use Rattle.cal_math.specs.Sums.{sum_of}
use Rattle.cef_mag.specs.Sums.{most_of}

sum_of-more : {A : Type 0} (f : A → ℤ) (xs : List A) (k : ℕ) (x : A) → slice_get xs k ≡ Some x → sum_of f (take (suc k) xs) ≡ sum_of f (take k xs) +ℤ f x
sum_of-more f [] k x e = absurd cc
sum_of-more f (y ∷ xs) zero x e = let same : y ≡ x = cc in rw same (omega (arith, ints))
sum_of-more f (y ∷ xs) (suc k) x e = omega (arith, ints, sum_of-more f xs k x e)

most_of-more : {A : Type 0} (most : A → ℕ) (xs : List A) (k : ℕ) (x : A) → slice_get xs k ≡ Some x → most_of most (take (suc k) xs) ≡ most_of most (take k xs) + most x
most_of-more most [] k x e = absurd cc
most_of-more most (y ∷ xs) zero x e = let same : y ≡ x = cc in rw same (omega arith)
most_of-more most (y ∷ xs) (suc k) x e = omega (arith, most_of-more most xs k x e)

most_of-le : {A : Type 0} (most : A → ℕ) (xs : List A) (k : ℕ) → most_of most (take k xs) ≤ most_of most xs
most_of-le most [] zero = omega arith
most_of-le most [] (suc k) = omega arith
most_of-le most (x ∷ xs) zero = omega arith
most_of-le most (x ∷ xs) (suc k) = omega (arith, most_of-le most xs k)

plus_small : (a b : ℤ) (m n : ℕ) → unsigned_abs a ≤ m → unsigned_abs b ≤ n → unsigned_abs (a +ℤ b) ≤ m + n
plus_small a b m n h k = omega (arith, ints)

-- the sum up to a term
pub record IsSumUpTo {A : Type 0} (f : A → ℤ) (most : A → ℕ) (terms : List A) (k : ℕ) (total : ℤ) : Type 0 where
  pub sum : total ≡ sum_of f (take k terms)
  pub size : unsigned_abs total ≤ most_of most (take k terms)

pub sum-more : {A : Type 0} (f : A → ℤ) (most : A → ℕ) (terms : List A) (k : ℕ) (total more x : ℤ) (t : A) → IsSumUpTo f most terms k total → slice_get terms k ≡ Some t → x ≡ f t → unsigned_abs x ≤ most t → more ≡ total +ℤ x → IsSumUpTo f most terms (k + 1) more
sum-more f most terms k total more x t h e is small m = record {
  sum = rw (add-one, m, is, h.sum) (sym (sum_of-more f terms k t e));
  size = rw add-one (omega (arith, ap unsigned_abs m, plus_small total x (most_of most (take k terms)) (most t) h.size small, most_of-more most terms k t e));
}

pub sum_fits : {A : Type 0} (f : A → ℤ) (most : A → ℕ) (terms : List A) (k : ℕ) (total x : ℤ) (t : A) → IsSumUpTo f most terms k total → slice_get terms k ≡ Some t → unsigned_abs x ≤ most t → most_of most terms ≤ MOST_CURIE → FitsSigned w128 (total +ℤ x)
sum_fits f most terms k total x t h e small room =
    omega (arith, ints, plus_small total x (most_of most (take k terms)) (most t) h.size small, most_of-more most terms k t e, most_of-le most terms (suc k), room)
