-- The weights of a plan in rising order of their columns: a plan again.
use Rattle.std.proofs.Common.{◌≡◌, ℕ, zero, suc, ◌+◌, ◌<◌, ◌≤◌, List, [], ◌∷◌, ◌++◌, length, get_or, take, refl, arith, ap, sym, ◌∙◌, subst, inl, inr}
use Rattle.std.specs.Prelude.{◌≢◌, ℤ, pos, ◌+ℤ◌, ◌-ℤ◌, ◌*ℤ◌, ◌≤ℤ◌, Some, slice_get, All, AllPairs, IsPermutation, sum_by}
use Rattle.std.specs.List.{insert}
use Rattle.std.proofs.lemmas.Int.{ints}
use Rattle.std.proofs.lemmas.Bool.{cases_lt}
use Rattle.std.proofs.lemmas.List.Sums.{sum_by-cons}
use Rattle.std.proofs.lemmas.List.{take_all}
use Rattle.std.proofs.lemmas.List.Sorted.{length_permutation, All-permutation, sum_by-IsPermutation, IsPermutation-refl, IsPermutation-insert, IsPermutation-push_more}
use Rattle.std.proofs.Math.Seq.{take-suc}
use Rattle.cal_math.specs.Sums.{sum_of}
use Rattle.cal_math.specs.Vectors.{at, dot}
use borrow.Author.Differences.{up, down}
use Rattle.lp_basis.specs.declared.column.Column.{Column}
use Rattle.lp_stage.specs.Leaving.{amounts_at}
use Rattle.lp_core.specs.Plans.{Weight, IsPlan}
use Rattle.lp_core.specs.declared.plan.Plan.{Plan}
use Rattle.eq_solve.specs.Prices.{IsPlaceAmong}
use Rattle.eq_solve.proofs.Inserting.{all_pairs_insert}

-- ---- sums are the same in any order

parts_of : (f : Weight → ℤ) (xs : List Weight) → sum_of f xs ≡ pos (sum_by (λ w. up (f w)) xs) -ℤ pos (sum_by (λ w. down (f w)) xs)
parts_of f [] = omega (arith, ints)
parts_of f (x ∷ xs) = omega (arith, ints, parts_of f xs, sum_by-cons (λ (w : Weight). up (f w)) x xs, sum_by-cons (λ (w : Weight). down (f w)) x xs)

pub sum_permuted : (f : Weight → ℤ) (xs ys : List Weight) → IsPermutation xs ys → sum_of f ys ≡ sum_of f xs
sum_permuted f xs ys perm =
    parts_of f ys
    ∙ rw (sum_by-IsPermutation (λ (w : Weight). up (f w)) xs ys perm, sum_by-IsPermutation (λ (w : Weight). down (f w)) xs ys perm) (sym (parts_of f xs))

-- ---- one more weight

pub record IsRisen (weights : List Weight) (n : ℕ) (rising : List Weight) : Type 0 where
  pub permutation : IsPermutation (take n weights) rising
  pub ordered : AllPairs (λ v w. v.0 ≢ w.0) weights → AllPairs (λ v w. v.0 < w.0) rising

get_take : {X : Type 0} (xs : List X) (n k : ℕ) (d : X) → k < n → get_or (take n xs) k d ≡ get_or xs k d
get_take [] zero k d lt = refl
get_take [] (suc n) k d lt = refl
get_take (x ∷ xs) zero k d lt = absurd (omega arith)
get_take (x ∷ xs) (suc n) zero d lt = refl
get_take (x ∷ xs) (suc n) (suc k) d lt = get_take xs n k d (omega arith)

length_take-le : {X : Type 0} (xs : List X) (n : ℕ) → length (take n xs) ≤ n
length_take-le [] zero = omega arith
length_take-le [] (suc n) = omega arith
length_take-le (x ∷ xs) zero = omega arith
length_take-le (x ∷ xs) (suc n) = omega (arith, length_take-le xs n)

pub risen_more : (weights : List Weight) (n place : ℕ) (w : Weight) (rising : List Weight) → n < length weights → get_or weights n w ≡ w → IsRisen weights n rising → IsPlaceAmong rising w.0 place →
    IsRisen weights (n + 1) (insert rising place w)
risen_more weights n place w rising lt is before place_is = record { permutation = permutation; ordered = ordered }
  where
    one : n + 1 ≡ suc n
    one = omega arith

    permutation : IsPermutation (take (n + 1) weights) (insert rising place w)
    permutation =
        let more : take (suc n) weights ≡ take n weights ++ w ∷ [] = rw (take-suc weights n w lt, is) refl in
        rw (one, more) (IsPermutation-push_more (take n weights) rising (insert rising place w) w before.permutation (IsPermutation-insert rising place w))

    ordered : AllPairs (λ v w. v.0 ≢ w.0) weights → AllPairs (λ v w. v.0 < w.0) (insert rising place w)
    ordered different =
        let early : All (λ v. v.0 ≢ w.0) (take n weights) =
        λ k d less. (let small : k < n = omega (arith, less, length_take-le weights n) in rw (get_take weights n k d small) (λ e. different k n d small lt (e ∙ ap (λ (x : Weight). x.0) (sym (read d))))) in
        let others : All (λ v. v.0 ≢ w.0) rising = All-permutation (λ v. v.0 ≢ w.0) (take n weights) rising before.permutation early in
        let pairs = before.ordered different in
        all_pairs_insert (λ v w. v.0 < w.0) rising place w place_is.within pairs
        (λ k d less. (let apart = others k d (omega (arith, less, place_is.within)) in let low = place_is.before k d less in strict (get_or rising k d).0 w.0 low apart))
        (λ k d le less. behind pairs k d le less)
      where
        read : (d : Weight) → get_or weights n d ≡ w
        read d = any weights n d lt ∙ is
          where
            any : (xs : List Weight) (k : ℕ) (d : Weight) → k < length xs → get_or xs k d ≡ get_or xs k w
            any [] k d l = absurd (omega arith)
            any (x ∷ xs) zero d l = refl
            any (x ∷ xs) (suc k) d l = any xs k d (omega arith)

        strict : (a b : ℕ) → a ≤ b → a ≢ b → a < b
        strict a b le ne = elim (cases_lt a b) [ inl less ↦ less | inr more ↦ absurd (ne (omega (arith, le, more))) ]

        behind : AllPairs (λ v w. v.0 < w.0) rising → (k : ℕ) (d : Weight) → place ≤ k → k < length rising → w.0 < (get_or rising k d).0
        behind pairs k d le less =
            elim (cases_lt place k) [
              | inl later ↦ let first = place_is.behind d (omega (arith, later, less)) in let next = pairs place k d later less in omega (arith, first, next)
              | inr same ↦ let e : place ≡ k = omega (arith, le, same) in subst (λ (j : ℕ). w.0 < (get_or rising j d).0) e (place_is.behind d (omega (arith, e, less)))
            ]

-- ---- a plan with its weights in another order

apart : (xs : List Weight) → AllPairs (λ v w. v.0 < w.0) xs → AllPairs (λ v w. v.0 ≢ w.0) xs
apart xs pairs i j d lt less = let below = pairs i j d lt less in λ e. omega (arith, below, e)

pub plan_permuted : (columns : List Column) (target : List ℤ) (plan other : Plan) → IsPlan columns target plan → IsPermutation plan.weights.items other.weights.items → AllPairs (λ v w. v.0 < w.0) other.weights.items →
    other.parts ≡ plan.parts → other.potentials.items ≡ plan.potentials.items → other.denominator ≡ plan.denominator → IsPlan columns target other
plan_permuted columns target plan other is perm rising parts potentials denominator =
    let xs : List Weight = plan.weights.items in
    let ys : List Weight = other.weights.items in
    record {
      parts = is.parts;
      parts_are = parts ∙ is.parts_are;
      parts_small = is.parts_small;
      feasible = record {
        positive = is.feasible.positive;
        named = All-permutation (λ w. (w.0 < length columns) × (pos 0 ≤ℤ w.1)) xs ys perm is.feasible.named;
        gives = λ c lt. sum_permuted (λ w. w.1 *ℤ at (amounts_at columns w.0) c) xs ys perm ∙ is.feasible.gives c lt;
      };
      above = All-permutation (λ w. pos 1 ≤ℤ w.1) xs ys perm is.above;
      few = omega (arith, is.few, length_permutation xs ys perm);
      different = apart ys rising;
      one_each = rw potentials is.one_each;
      small = rw potentials is.small;
      denominator_some = rw denominator is.denominator_some;
      denominator_small = rw denominator is.denominator_small;
      priced = rw (potentials, denominator) is.priced;
      tight = rw (potentials, denominator) (All-permutation (λ w. (column : Column) → slice_get columns w.0 ≡ Some column →
          dot (length target) (at plan.potentials.items) (at column.amounts.items) ≡ column.cost *ℤ plan.denominator) xs ys perm is.tight);
    }

-- ---- what loops need

pub risen_none : (weights : List Weight) → IsRisen weights 0 []
risen_none weights = record { permutation = IsPermutation-refl []; ordered = λ different i j d lt less. absurd (omega (arith, less)) }

any_read : (xs : List Weight) (k : ℕ) (d e : Weight) → k < length xs → get_or xs k d ≡ get_or xs k e
any_read [] k d e lt = absurd (omega arith)
any_read (x ∷ xs) zero d e lt = refl
any_read (x ∷ xs) (suc k) d e lt = any_read xs k d e (omega arith)

pub among_is : (weights : List Weight) (column : ℕ) (e : Weight) (place : ℕ) → place < length weights → ((k : ℕ) (d : Weight) → k < place → (get_or weights k d).0 ≤ column) → column < (get_or weights place e).0 →
    IsPlaceAmong weights column place
among_is weights column e place lt before less = record {
  within = omega (arith, lt);
  before = before;
  behind = λ d within. subst (λ (x : Weight). column < x.0) (any_read weights place e d lt) less;
}

pub risen_read : (weights : List Weight) (n place : ℕ) (d : Weight) (rising : List Weight) → n < length weights → IsRisen weights n rising → IsPlaceAmong rising (get_or weights n d).0 place →
    IsRisen weights (n + 1) (insert rising place (get_or weights n d))
risen_read weights n place d rising lt before place_is = risen_more weights n place (get_or weights n d) rising lt (any_read weights n (get_or weights n d) d lt) before place_is

pub all_risen : (weights : List Weight) (n : ℕ) (rising : List Weight) → length weights ≤ n → IsRisen weights n rising → IsPermutation weights rising
all_risen weights n rising le is = subst (λ (xs : List Weight). IsPermutation xs rising) (take_all n weights le) is.permutation

pub rising_one : (columns : List Column) (target : List ℤ) (plan : Plan) (rising : List Weight) → (AllPairs (λ v w. v.0 ≢ w.0) plan.weights.items → AllPairs (λ v w. v.0 < w.0) rising) → IsPlan columns target plan → AllPairs (λ v w. v.0 < w.0) rising
rising_one columns target plan rising ordered is = ordered is.different
