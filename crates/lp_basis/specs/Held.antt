-- The rows that code holds of a basis of n columns of n components, and the column that comes in at a place.
use Rattle.std.specs.Prelude.{◌≡◌, ℕ, zero, suc, ◌<◌, ◌≤◌, ◌^◌, ◌≢◌, List, [], ◌∷◌, length}
use Rattle.std.specs.Prelude.{ℤ, pos, ◌≤ℤ◌}
use Rattle.cal_math.specs.Vectors.{at, sum_to, dot}
use Rattle.lp_laws.specs.Bases.{IsBasis, IsPrimitive, IsPlain}
use Rattle.lp_basis.specs.declared.row.Row.{Row}

-- the numbers and the own product of the row at place j
abbrev pub numbers_at : List Row → ℕ → List ℤ
numbers_at [] j = []
numbers_at (row ∷ rows) zero = row.numbers.items
numbers_at (row ∷ rows) (suc j) = numbers_at rows j

abbrev pub own_at : List Row → ℕ → ℤ
own_at [] j = pos 0
own_at (row ∷ rows) zero = row.own
own_at (row ∷ rows) (suc j) = own_at rows j

-- the rows of the basis of these columns, whose sums are at most w
pub record IsHeld (n w : ℕ) (columns : ℕ → ℕ → ℤ) (rows : List Row) : Type 0 where
  pub count : length rows ≡ n
  pub lengths : (j : ℕ) → j < n → length (numbers_at rows j) ≡ n
  pub basis : IsBasis n n columns (λ j. at (numbers_at rows j)) (own_at rows)
  pub primitive : (j : ℕ) → j < n → IsPrimitive n (at (numbers_at rows j))
  pub plain : IsPlain n n w columns
  pub positive : 1 ≤ n
  pub wide : 1 ≤ w
  pub room : w ^ n ≤ 2 ^ 62

-- a column that can come in at place i: the row of that place does not kill it
pub record CanEnter (n w : ℕ) (columns : ℕ → ℕ → ℤ) (rows : List Row) (i : ℕ)
    (column : List ℤ) : Type 0 where
  pub held : IsHeld n w columns rows
  pub within : i < n
  pub sized : length column ≡ n
  pub least : (c : ℕ) → pos 0 ≤ℤ at column c
  pub sum : sum_to n (at column) ≤ℤ pos w
  pub met : dot n (at (numbers_at rows i)) (at column) ≢ pos 0

-- the columns with another at place i
pub record IsPut (n i : ℕ) (columns : ℕ → ℕ → ℤ) (column : List ℤ)
    (columns' : ℕ → ℕ → ℤ) : Type 0 where
  pub enters : (c : ℕ) → c < n → columns' i c ≡ at column c
  pub stays : (j : ℕ) → j < n → j ≢ i → (c : ℕ) → c < n → columns' j c ≡ columns j c

-- of some basis these are the rows, and the column can come in at place i
abbrev pub CanExchange : List Row → ℕ → List ℤ → Type 0
CanExchange rows i column = (b : ℕ) × (w : ℕ) × (columns : ℕ → ℕ → ℤ)
    × CanEnter (suc b) w columns rows i column

-- of whatever basis the rows were, `next` are the rows of that basis with the column at place i
abbrev pub IsExchanged : List Row → ℕ → List ℤ → List Row → Type 0
IsExchanged rows i column next =
    (b w : ℕ) (columns columns' : ℕ → ℕ → ℤ) →
    CanEnter (suc b) w columns rows i column → IsPut (suc b) i columns column columns' →
    IsHeld (suc b) w columns' next

-- the rows of some basis of columns whose sums are at most w
abbrev pub AreRows : ℕ → List Row → Type 0
AreRows w rows = (b : ℕ) × (columns : ℕ → ℕ → ℤ) × IsHeld (suc b) w columns rows
