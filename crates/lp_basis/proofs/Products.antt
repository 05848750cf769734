-- When a row's product with a column fits 128 bits.
use Rattle.std.proofs.Common.{◌≡◌, ℕ, zero, suc, ◌+◌, ◌*◌, ◌<◌, ◌≤◌, List, length, refl, arith, ap, sym, ◌∙◌, subst, inl, inr}
use Rattle.std.specs.Prelude.{ℤ, pos, ◌+ℤ◌, ◌*ℤ◌, ◌≤ℤ◌, unsigned_abs, FitsSigned}
use Rattle.std.specs.Int.{w128}
use Rattle.std.proofs.lemmas.Int.{ints, fits_signed_from_abs}
use Rattle.std.proofs.lemmas.Bool.{cases_eq}
use Rattle.std.proofs.Math.Nat.{mul-le-mul_left}
use Rattle.cal_math.specs.Whole.{abs-*ℤ-le}
use Rattle.cal_math.specs.Vectors.{at, sum_to, dot}
use Rattle.lp_basis.specs.Rows.{FitsProduct}

pub dot_small : (n m : ℕ) (r x : ℕ → ℤ) → ((c : ℕ) → unsigned_abs (r c) ≤ m) → ((c : ℕ) → pos 0 ≤ℤ x c) → (pos 0 ≤ℤ sum_to n x) × (unsigned_abs (dot n r x) ≤ m * unsigned_abs (sum_to n x))
unfolding dot
dot_small zero m r x h k = (omega (arith, ints), omega (arith, ints))
dot_small (suc n) m r x h k =
    let before = dot_small n m r x h k in
    let some : pos 0 ≤ℤ sum_to n x = before.0 in
    let here : pos 0 ≤ℤ x n = k n in
    let apart : unsigned_abs (sum_to n x +ℤ x n) ≡ unsigned_abs (sum_to n x) + unsigned_abs (x n) = omega (arith, ints) in (
      omega (arith, ints),
      omega (arith, ints, before.1, abs-*ℤ-le (r n) (x n) m (unsigned_abs (x n)) (h n) (omega arith), ap (λ (v : ℕ). m * v) apart),
    )

pub sum_part : (n i : ℕ) (x : ℕ → ℤ) → ((c : ℕ) → pos 0 ≤ℤ x c) → i < n → (sum_to i x +ℤ x i) ≤ℤ sum_to n x
sum_part zero i x h lt = absurd (omega arith)
sum_part (suc n) i x h lt =
    elim (cases_eq i n) [
      | inl e ↦ subst (λ (k : ℕ). (sum_to k x +ℤ x k) ≤ℤ (sum_to n x +ℤ x n)) (sym e) (omega (arith, ints))
      | inr ne ↦ omega (arith, ints, sum_part n i x h (omega arith), h n)
    ]

pub sum_least : (n : ℕ) (x : ℕ → ℤ) → ((c : ℕ) → pos 0 ≤ℤ x c) → pos 0 ≤ℤ sum_to n x
sum_least zero x h = omega (arith, ints)
sum_least (suc n) x h = omega (arith, ints, sum_least n x h, h n)

pub partial_fits : (m w : ℕ) (row column : List ℤ) (i : ℕ) → FitsProduct m w row column → i < length row →
    FitsSigned w128 (at row i *ℤ at column i) × FitsSigned w128 (dot i (at row) (at column) +ℤ at row i *ℤ at column i)
unfolding dot
partial_fits m w row column i fits lt =
    let part : (sum_to i (at column) +ℤ at column i) ≤ℤ pos w = omega (arith, ints, sum_part (length row) i (at column) fits.least lt, fits.sum) in
    let here : pos 0 ≤ℤ at column i = fits.least i in
    let small : unsigned_abs (at column i) ≤ w = omega (arith, ints, part, here, sum_least i (at column) fits.least) in
    let product : unsigned_abs (at row i *ℤ at column i) ≤ m * w = abs-*ℤ-le (at row i) (at column i) m w (fits.row_small i) small in
    let next = dot_small (suc i) m (at row) (at column) fits.row_small fits.least in
    let sum : unsigned_abs (sum_to i (at column) +ℤ at column i) ≤ w = omega (arith, ints, part, next.0) in
    let whole : unsigned_abs (dot i (at row) (at column) +ℤ at row i *ℤ at column i) ≤ m * w = omega (arith, next.1, mul-le-mul_left m sum) in
    (fits_signed_from_abs w128 _ (omega (arith, product, fits.room)), fits_signed_from_abs w128 _ (omega (arith, whole, fits.room)))

pub dot_more : (n : ℕ) (r x : ℕ → ℤ) → dot (n + 1) r x ≡ dot n r x +ℤ r n *ℤ x n
unfolding dot
dot_more n r x = let e : n + 1 ≡ suc n = omega arith in ap (λ (k : ℕ). dot k r x) e ∙ next n r x
  where
    next : (n : ℕ) (r x : ℕ → ℤ) → dot (suc n) r x ≡ dot n r x +ℤ r n *ℤ x n
    next n r x = refl
