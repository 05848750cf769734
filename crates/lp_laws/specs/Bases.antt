-- A basis of whole columns with a row for each, the exchange of a column, and the potentials of a basis.
-- A basis has m columns of n components. Column j and row j belong to place j.
use Rattle.std.specs.Prelude.{◌≡◌, ℕ, ◌<◌, ◌≤◌, ◌≢◌}
use Rattle.std.specs.Prelude.{ℤ, pos, ◌-ℤ◌, ◌*ℤ◌, ◌≤ℤ◌}
use Rattle.cal_math.specs.Vectors.{sum_to, dot}

-- The product of a row with the column of its own place is `own`, at least 1, and with every other column 0.
-- The columns span: a vector whose product with every row is 0 is 0.
pub record IsBasis (n m : ℕ) (columns rows : ℕ → ℕ → ℤ) (own : ℕ → ℤ) : Type 0 where
  pub owns : (j : ℕ) → j < m → dot n (rows j) (columns j) ≡ own j
  pub kills : (i j : ℕ) → i < m → j < m → i ≢ j → dot n (rows i) (columns j) ≡ pos 0
  pub above : (j : ℕ) → j < m → pos 1 ≤ℤ own j
  pub complete : (x : ℕ → ℤ) → ((j : ℕ) → j < m → dot n (rows j) x ≡ pos 0) → (c : ℕ) → c < n →
      x c ≡ pos 0

-- 1 at component k, 0 at every other
pub record IsUnit (n k : ℕ) (column : ℕ → ℤ) : Type 0 where
  pub one : column k ≡ pos 1
  pub zeros : (c : ℕ) → c < n → c ≢ k → column c ≡ pos 0

-- no number above 1 divides all n numbers of a row
unfoldable pub IsPrimitive : ℕ → (ℕ → ℤ) → Type 0
IsPrimitive n row = (g : ℕ) → ((c : ℕ) → c < n → (s : ℤ) × (pos g *ℤ s ≡ row c)) → g ≡ 1

-- m columns of n numbers of at least 0 whose sums are at most w
pub record IsPlain (n m w : ℕ) (columns : ℕ → ℕ → ℤ) : Type 0 where
  pub least : (j c : ℕ) → j < m → c < n → pos 0 ≤ℤ columns j c
  pub sums : (j : ℕ) → j < m → sum_to n (columns j) ≤ℤ pos w

-- a row times 1 or -1
pub record IsTurn (n : ℕ) (turn : ℤ) (row turned : ℕ → ℤ) : Type 0 where
  pub one : turn *ℤ turn ≡ pos 1
  pub exact : (c : ℕ) → c < n → turned c ≡ turn *ℤ row c

-- Column `new` comes in at place i, with p = own' i its product with the turned row of that place. Every other row becomes
--   p * row - (row * new) * (row of place i),
-- before it is divided by what its numbers share.
pub record IsExchange (n m i : ℕ) (columns rows : ℕ → ℕ → ℤ) (own : ℕ → ℤ) (new : ℕ → ℤ) (turn : ℤ)
    (columns' rows' : ℕ → ℕ → ℤ) (own' : ℕ → ℤ) : Type 0 where
  pub turned : IsTurn n turn (rows i) (rows' i)
  pub positive : pos 1 ≤ℤ own' i
  pub enters : (c : ℕ) → c < n → columns' i c ≡ new c
  pub stays : (j : ℕ) → j < m → j ≢ i → (c : ℕ) → c < n → columns' j c ≡ columns j c
  pub own_is : own' i ≡ dot n (rows' i) new
  pub rows_are : (j : ℕ) → j < m → j ≢ i → (c : ℕ) → c < n →
      rows' j c ≡ own' i *ℤ rows j c -ℤ dot n (rows j) new *ℤ rows' i c
  pub owns_are : (j : ℕ) → j < m → j ≢ i → own' j ≡ own' i *ℤ own j

-- potentials `numbers`, over `denominator`: their product with each column of the basis is the column's cost
pub record IsPriced (n m : ℕ) (columns : ℕ → ℕ → ℤ) (costs : ℕ → ℤ) (numbers : ℕ → ℤ)
    (denominator : ℕ) : Type 0 where
  pub positive : 1 ≤ denominator
  pub meets : (j : ℕ) → j < m → dot n numbers (columns j) ≡ pos denominator *ℤ costs j

-- no number above 1 divides the denominator and all potentials
unfoldable pub IsReduced : ℕ → (ℕ → ℤ) → ℕ → Type 0
IsReduced n numbers denominator =
    (g : ℕ) → ((s : ℤ) × (pos g *ℤ s ≡ pos denominator)) →
    ((c : ℕ) → c < n → (s : ℤ) × (pos g *ℤ s ≡ numbers c)) → g ≡ 1

-- h times the target is a whole combination of the columns: each weight (row * target) / own becomes whole times h
unfoldable pub IsWholeAt : (n m : ℕ) (rows : ℕ → ℕ → ℤ) (own target : ℕ → ℤ) (h : ℕ) → Type 0
IsWholeAt n m rows own target h = (j : ℕ) → j < m → (e : ℤ)
    × (pos h *ℤ dot n (rows j) target ≡ own j *ℤ e)
