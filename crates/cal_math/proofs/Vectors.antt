-- Sums of whole numbers below n, and products of rows with columns.
use Rattle.std.proofs.Common.{◌≡◌, ℕ, zero, suc, ◌+◌, ◌*◌, ◌<◌, ◌≤◌, ◌≢◌, refl, arith, ap, sym, ◌∙◌, subst, inl, inr}
use Rattle.std.specs.Prelude.{ℤ, pos, ◌+ℤ◌, ◌-ℤ◌, ◌*ℤ◌, ◌≤ℤ◌, unsigned_abs}
use Rattle.std.proofs.lemmas.Int.{ints}
use Rattle.std.proofs.lemmas.Bool.{cases_eq}
use Rattle.cal_math.specs.Whole.{*ℤ-+ℤ, *ℤ--ℤ, *ℤ_comm, *ℤ_left, abs-*ℤ-le}
use Rattle.cal_math.specs.Vectors.{sum_to, dot}
use Rattle.cal_math.proofs.Products.{times_zero}

pub sum-same : (n : ℕ) (f g : ℕ → ℤ) → ((i : ℕ) → i < n → f i ≡ g i) → sum_to n f ≡ sum_to n g
sum-same zero f g h = refl
sum-same (suc n) f g h = rw (sum-same n f g (λ i lt. h i (omega arith)), h n (omega arith))

pub sum-add : (n : ℕ) (f g : ℕ → ℤ) → sum_to n (λ i. f i +ℤ g i) ≡ sum_to n f +ℤ sum_to n g
sum-add zero f g = refl
sum-add (suc n) f g = omega (arith, ints, sum-add n f g)

pub sum-sub : (n : ℕ) (f g : ℕ → ℤ) → sum_to n (λ i. f i -ℤ g i) ≡ sum_to n f -ℤ sum_to n g
sum-sub zero f g = refl
sum-sub (suc n) f g = omega (arith, ints, sum-sub n f g)

pub sum-scale : (n : ℕ) (a : ℤ) (f : ℕ → ℤ) → sum_to n (λ i. a *ℤ f i) ≡ a *ℤ sum_to n f
sum-scale zero a f = omega (arith, ints)
sum-scale (suc n) a f = omega (arith, ints, sum-scale n a f, *ℤ-+ℤ a (sum_to n f) (f n))

pub sum-zero : (n : ℕ) (f : ℕ → ℤ) → ((i : ℕ) → i < n → f i ≡ pos 0) → sum_to n f ≡ pos 0
sum-zero zero f h = refl
sum-zero (suc n) f h = omega (arith, ints, sum-zero n f (λ i lt. h i (omega arith)), h n (omega arith))

pub sum-one : (n k : ℕ) (f : ℕ → ℤ) → k < n → ((i : ℕ) → i < n → i ≢ k → f i ≡ pos 0) → sum_to n f ≡ f k
sum-one zero k f lt h = absurd (omega arith)
sum-one (suc n) k f lt h =
    elim (cases_eq k n) [
      | inl e ↦ subst (λ (i : ℕ). sum_to (suc n) f ≡ f i) (sym e) (omega (arith, ints, sum-zero n f (λ i less. h i (omega arith) (omega arith))))
      | inr ne ↦ omega (arith, ints, sum-one n k f (omega arith) (λ i less. h i (omega arith)), h n (omega arith) (omega arith))
    ]

pub sum-swap : (n m : ℕ) (f : ℕ → ℕ → ℤ) → sum_to n (λ i. sum_to m (f i)) ≡ sum_to m (λ j. sum_to n (λ i. f i j))
sum-swap zero m f = sym (sum-zero m (λ j. pos 0) (λ i lt. refl))
sum-swap (suc n) m f = ap (λ (z : ℤ). z +ℤ sum_to m (f n)) (sum-swap n m f) ∙ sym (sum-add m (λ j. sum_to n (λ i. f i j)) (f n))

pub sum-le : (n : ℕ) (f g : ℕ → ℤ) → ((i : ℕ) → i < n → f i ≤ℤ g i) → sum_to n f ≤ℤ sum_to n g
sum-le zero f g h = omega (arith, ints)
sum-le (suc n) f g h = omega (arith, ints, sum-le n f g (λ i lt. h i (omega arith)), h n (omega arith))

-- a sum of numbers of at least 0, of which one is above it
pub sum-above : (n k : ℕ) (f : ℕ → ℤ) → k < n → ((i : ℕ) → i < n → pos 0 ≤ℤ f i) → pos 1 ≤ℤ f k → pos 1 ≤ℤ sum_to n f
sum-above zero k f lt h above = absurd (omega arith)
sum-above (suc n) k f lt h above =
    elim (cases_eq k n) [
      | inl e ↦
          let here : pos 1 ≤ℤ f n = subst (λ (i : ℕ). pos 1 ≤ℤ f i) e above in
          omega (arith, ints, here, sum-le n (λ i. pos 0) f (λ i less. h i (omega arith)), sum-zero n (λ i. pos 0) (λ i less. refl))
      | inr ne ↦ omega (arith, ints, sum-above n k f (omega arith) (λ i less. h i (omega arith)) above, h n (omega arith))
    ]

-- ---- products

pub dot_same : (n : ℕ) (r x s y : ℕ → ℤ) → ((c : ℕ) → c < n → r c ≡ s c) → ((c : ℕ) → c < n → x c ≡ y c) → dot n r x ≡ dot n s y
unfolding dot
dot_same n r x s y g h =
    sum-same n (λ c. r c *ℤ x c) (λ c. s c *ℤ y c) (λ c lt. ap (λ (z : ℤ). z *ℤ x c) (g c lt) ∙ ap (λ (z : ℤ). s c *ℤ z) (h c lt))

pub dot-comm : (n : ℕ) (r x : ℕ → ℤ) → dot n r x ≡ dot n x r
unfolding dot
dot-comm n r x = sum-same n (λ c. r c *ℤ x c) (λ c. x c *ℤ r c) (λ c lt. *ℤ_comm (r c) (x c))

pub dot-sub : (n : ℕ) (r x y : ℕ → ℤ) → dot n r (λ c. x c -ℤ y c) ≡ dot n r x -ℤ dot n r y
unfolding dot
dot-sub n r x y =
    sum-same n (λ c. r c *ℤ (x c -ℤ y c)) (λ c. r c *ℤ x c -ℤ r c *ℤ y c) (λ c lt. *ℤ--ℤ (r c) (x c) (y c)) ∙ sum-sub n (λ c. r c *ℤ x c) (λ c. r c *ℤ y c)

pub dot-scale : (n : ℕ) (a : ℤ) (r x : ℕ → ℤ) → dot n r (λ c. a *ℤ x c) ≡ a *ℤ dot n r x
unfolding dot
dot-scale n a r x =
    sum-same n (λ c. r c *ℤ (a *ℤ x c)) (λ c. a *ℤ (r c *ℤ x c)) (λ c lt. *ℤ_left (r c) a (x c)) ∙ sum-scale n a (λ c. r c *ℤ x c)

pub dot_scaled : (n : ℕ) (a : ℤ) (r s x : ℕ → ℤ) → ((c : ℕ) → c < n → s c ≡ a *ℤ r c) → dot n s x ≡ a *ℤ dot n r x
dot_scaled n a r s x h =
    dot-comm n s x ∙ dot_same n x s x (λ c. a *ℤ r c) (λ c lt. refl) h ∙ dot-scale n a x r ∙ ap (λ (z : ℤ). a *ℤ z) (dot-comm n x r)

pub dot_difference : (n : ℕ) (a b : ℤ) (r s t x : ℕ → ℤ) → ((c : ℕ) → c < n → t c ≡ a *ℤ r c -ℤ b *ℤ s c) → dot n t x ≡ a *ℤ dot n r x -ℤ b *ℤ dot n s x
dot_difference n a b r s t x h =
    dot-comm n t x
    ∙ dot_same n x t x (λ c. a *ℤ r c -ℤ b *ℤ s c) (λ c lt. refl) h
    ∙ dot-sub n x (λ c. a *ℤ r c) (λ c. b *ℤ s c)
    ∙ omega (arith, ints, dot-comm n x (λ c. a *ℤ r c), dot_scaled n a r (λ c. a *ℤ r c) x (λ c lt. refl), dot-comm n x (λ c. b *ℤ s c), dot_scaled n b s (λ c. b *ℤ s c) x (λ c lt. refl))

-- the product with a combination of columns
pub dot-combined : (n m : ℕ) (r : ℕ → ℤ) (a : ℕ → ℤ) (columns : ℕ → ℕ → ℤ) →
    dot n r (λ c. sum_to m (λ j. a j *ℤ columns j c)) ≡ sum_to m (λ j. a j *ℤ dot n r (columns j))
unfolding dot
dot-combined n m r a columns =
    sum-same n (λ c. r c *ℤ sum_to m (λ j. a j *ℤ columns j c)) (λ c. sum_to m (λ j. r c *ℤ (a j *ℤ columns j c)))
    (λ c lt. sym (sum-scale m (r c) (λ j. a j *ℤ columns j c)))
    ∙ sum-swap n m (λ c j. r c *ℤ (a j *ℤ columns j c))
    ∙ sum-same m (λ j. sum_to n (λ c. r c *ℤ (a j *ℤ columns j c))) (λ j. a j *ℤ sum_to n (λ c. r c *ℤ columns j c)) (λ j lt. dot-scale n (a j) r (columns j))

-- a row's product with a vector that is 0 but at k
pub dot_one : (n k : ℕ) (r u : ℕ → ℤ) → k < n → ((c : ℕ) → c < n → c ≢ k → u c ≡ pos 0) → dot n r u ≡ r k *ℤ u k
unfolding dot
dot_one n k r u lt h = sum-one n k (λ c. r c *ℤ u c) lt (λ c less ne. ap (λ (v : ℤ). r c *ℤ v) (h c less ne) ∙ times_zero (r c))

pub dot-plus : (n : ℕ) (v x y : ℕ → ℤ) → dot n v (λ c. x c +ℤ y c) ≡ dot n v x +ℤ dot n v y
unfolding dot
dot-plus n v x y = sum-same n (λ c. v c *ℤ (x c +ℤ y c)) (λ c. v c *ℤ x c +ℤ v c *ℤ y c) (λ c lt. *ℤ-+ℤ (v c) (x c) (y c)) ∙ sum-add n (λ c. v c *ℤ x c) (λ c. v c *ℤ y c)

pub dot-zero : (n : ℕ) (v : ℕ → ℤ) → dot n v (λ c. pos 0) ≡ pos 0
unfolding dot
dot-zero n v = sum-zero n (λ c. v c *ℤ pos 0) (λ c lt. times_zero (v c))

-- how far a product is from 0
pub dot_bounded : (n m : ℕ) (r x : ℕ → ℤ) → ((c : ℕ) → c < n → unsigned_abs (r c) ≤ m) → ((c : ℕ) → c < n → pos 0 ≤ℤ x c) → (pos 0 ≤ℤ sum_to n x) × (unsigned_abs (dot n r x) ≤ m * unsigned_abs (sum_to n x))
unfolding dot
dot_bounded zero m r x h k = (omega (arith, ints), omega (arith, ints))
dot_bounded (suc n) m r x h k =
    let before = dot_bounded n m r x (λ c lt. h c (omega arith)) (λ c lt. k c (omega arith)) in
    let some : pos 0 ≤ℤ sum_to n x = before.0 in
    let here : pos 0 ≤ℤ x n = k n (omega arith) in
    let apart : unsigned_abs (sum_to n x +ℤ x n) ≡ unsigned_abs (sum_to n x) + unsigned_abs (x n) = omega (arith, ints) in (
      omega (arith, ints),
      omega (arith, ints, before.1, abs-*ℤ-le (r n) (x n) m (unsigned_abs (x n)) (h n (omega arith)) (omega arith), ap (λ (v : ℕ). m * v) apart),
    )
