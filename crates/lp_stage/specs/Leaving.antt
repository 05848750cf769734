-- The ratio test: of the rows whose product with the entering column is above 0 the one whose list over that product comes first.
use Rattle.std.specs.Prelude.{◌≡◌, ℕ, zero, suc, ◌*◌, ◌<◌, ◌^◌, ◌≢◌, List, [], ◌∷◌, length, Option, MatchOption}
use Rattle.std.specs.Prelude.{ℤ, pos, ◌-ℤ◌, ◌*ℤ◌, ◌≤ℤ◌}
use Rattle.cal_math.specs.Vectors.{at, sum_to, dot}
use Rattle.lp_laws.specs.Bases.{IsBasis}
use Rattle.lp_laws.specs.Orders.{IsLexAbove}
use Rattle.lp_basis.specs.Held.{IsHeld, numbers_at}
use Rattle.lp_basis.specs.declared.row.Row.{Row}
use Rattle.lp_basis.specs.declared.column.Column.{Column}
use Rattle.lp_stage.specs.declared.leaving.Candidate.{Candidate}

-- the amounts of the column at k
abbrev pub amounts_at : List Column → ℕ → List ℤ
amounts_at [] k = []
amounts_at (column ∷ columns) zero = column.amounts.items
amounts_at (column ∷ columns) (suc k) = amounts_at columns k

-- the list of a row: its products with the target and with the columns with which the phase began
abbrev pub start_product : ℕ → List Column → List ℤ → ℕ → ℤ
start_product n starts row k = dot n (at row) (at (amounts_at starts k))

-- a target or a column of n amounts of at least 0 that add to at most v
pub record IsStart (n v : ℕ) (amounts : List ℤ) : Type 0 where
  pub sized : length amounts ≡ n
  pub least : (c : ℕ) → pos 0 ≤ℤ at amounts c
  pub sum : sum_to n (at amounts) ≤ℤ pos v

-- the rows of a basis, a column that enters, and the starts of the phase: the target, then the columns of a basis
pub record CanLeave (b w v : ℕ) (columns : ℕ → ℕ → ℤ) (rows : List Row) (column : List ℤ)
    (starts : List Column) : Type 0 where
  pub held : IsHeld (suc b) w columns rows
  pub enters : IsStart (suc b) w column
  pub count : length starts ≡ suc (suc b)
  pub fits : (k : ℕ) → k < suc (suc b) → IsStart (suc b) v (amounts_at starts k)
  pub room : w ^ b * v < 2 ^ 126
  pub rows0 : ℕ → ℕ → ℤ
  pub own0 : ℕ → ℤ
  pub begun : IsBasis (suc b) (suc b) (λ k. at (amounts_at starts (suc k))) rows0 own0

-- the product of the row at j with the column
abbrev pub row_product : ℕ → List Row → List ℤ → ℕ → ℤ
row_product n rows column j = dot n (at (numbers_at rows j)) (at column)

-- the list of row i over its product comes before that of row j over its own
abbrev pub IsFirst : ℕ → List Row → List ℤ → List Column → ℕ → ℕ → Type 0
IsFirst n rows column starts i j =
    IsLexAbove (suc n)
    (λ k. row_product n rows column i *ℤ start_product n starts (numbers_at rows j) k -ℤ row_product n rows column j *ℤ start_product n starts (numbers_at rows i) k)

-- of the first `size` rows the one that leaves
pub record IsLeaving (n : ℕ) (rows : List Row) (column : List ℤ) (starts : List Column)
    (size i : ℕ) : Type 0 where
  pub within : i < size
  pub positive : pos 1 ≤ℤ row_product n rows column i
  pub first : (j : ℕ) → j < size → j ≢ i → pos 1 ≤ℤ row_product n rows column j →
      IsFirst n rows column starts i j

-- what a candidate keeps of its row
pub record IsCandidate (n : ℕ) (rows : List Row) (column : List ℤ) (starts : List Column)
    (candidate : Candidate) : Type 0 where
  pub met_is : candidate.met ≡ row_product n rows column candidate.place
  pub sized : length candidate.list.items ≡ suc n
  pub list_is : (k : ℕ) → k < suc n →
      at candidate.list.items k ≡ start_product n starts (numbers_at rows candidate.place) k

-- the best of the first `size` rows, where one of them meets the column above 0
abbrev pub IsBest : ℕ → List Row → List ℤ → List Column → ℕ → Option Candidate → Type 0
IsBest n rows column starts size best =
    MatchOption best ((j : ℕ) → j < size → row_product n rows column j ≤ℤ pos 0)
    (λ candidate. IsCandidate n rows column starts candidate
    × IsLeaving n rows column starts size candidate.place)

-- the one of two candidates whose list comes first
pub data IsChosen (old next result : Candidate) : Type 0 where
  newer : result ≡ next →
      IsLexAbove (length next.list.items) (λ k. next.met *ℤ at old.list.items k -ℤ old.met *ℤ at next.list.items k) →
      IsChosen old next result
  older : result ≡ old →
      IsLexAbove (length next.list.items) (λ k. old.met *ℤ at next.list.items k -ℤ next.met *ℤ at old.list.items k) →
      IsChosen old next result
  tied : ((k : ℕ) → k < length next.list.items →
      next.met *ℤ at old.list.items k ≡ old.met *ℤ at next.list.items k) →
      IsChosen old next result

-- of whatever basis these are the rows, the best of the first `size` of them
abbrev pub IsBestOf : List Row → List ℤ → List Column → ℕ → Option Candidate → Type 0
IsBestOf rows column starts size best =
    (b w v : ℕ) (columns : ℕ → ℕ → ℤ) → CanLeave b w v columns rows column starts →
    IsBest (suc b) rows column starts size best

-- a column can enter a basis of these rows, in a phase with these starts
abbrev pub MayEnter : List Row → List ℤ → List Column → Type 0
MayEnter rows column starts = (b : ℕ) × (w : ℕ) × (v : ℕ) × (columns : ℕ → ℕ → ℤ)
    × CanLeave b w v columns rows column starts

-- the row that leaves, where one meets the column above 0
abbrev pub IsLeavingOf : List Row → List ℤ → List Column → Option ℕ → Type 0
IsLeavingOf rows column starts found =
    (b w v : ℕ) (columns : ℕ → ℕ → ℤ) → CanLeave b w v columns rows column starts →
    MatchOption found ((j : ℕ) → j < suc b →
    row_product (suc b) rows column j ≤ℤ pos 0) (IsLeaving (suc b) rows column starts (suc b))
