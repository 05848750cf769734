-- Targets, and when exact plans of columns fit 128 bits.
use Rattle.std.specs.Prelude.{◌≡◌, ℕ, ◌*◌, ◌<◌, ◌≤◌, ◌^◌, List, [], ◌∷◌, length, All, max}
use Rattle.std.specs.Prelude.{ℤ, pos, ◌≤ℤ◌, unsigned_abs}
use Rattle.cal_math.specs.Vectors.{at, sum_to}
use Rattle.lp_basis.specs.Columns.{IsColumn, sum_at}
use Rattle.lp_basis.specs.declared.column.Column.{Column}

-- w, the greatest sum of a column: 1 without columns
unfoldable pub widest : ℕ → List Column → ℕ
widest n [] = 1
widest n (column ∷ columns) = max (sum_at n column) (widest n columns)

-- s, the greatest magnitude of a cost: 0 without columns
unfoldable pub dearest : List Column → ℕ
dearest [] = 0
dearest (column ∷ columns) = max (unsigned_abs column.cost) (dearest columns)

-- 1 to 8 amounts from 0 to 2^50, not all 0
pub record IsTarget (target : List ℤ) : Type 0 where
  pub few : length target ≤ 8
  pub least : (c : ℕ) → pos 0 ≤ℤ at target c
  pub most : (c : ℕ) → at target c ≤ℤ pos (2 ^ 50)
  pub positive : (c : ℕ) × (c < length target) × (pos 1 ≤ℤ at target c)

-- w^n is at most 2^62, and w^n * s at most 2^94
pub record HasRoom (n w s : ℕ) : Type 0 where
  pub wide : w ^ n ≤ 2 ^ 62
  pub dear : w ^ n * s ≤ 2 ^ 94

-- what `solve` takes: a target of C components, columns of C amounts, and room for w^C and w^C * s
pub record Fits (columns : List Column) (target : List ℤ) : Type 0 where
  pub aim : IsTarget target
  pub fine : All (IsColumn (length target)) columns
  pub room : HasRoom (length target) (widest (length target) columns) (dearest columns)

-- a column with its sum, at most 2^62
pub record IsMeasured (n : ℕ) (column : Column) (sum : ℕ) : Type 0 where
  pub fine : IsColumn n column
  pub exact : sum_to n (at column.amounts.items) ≡ pos sum
  pub most : sum ≤ 2 ^ 62

-- columns with their greatest sum, at most 2^62, and the greatest magnitude of their costs
pub record IsExtent (n : ℕ) (columns : List Column) (width cost : ℕ) : Type 0 where
  pub fine : All (IsColumn n) columns
  pub width_is : width ≡ widest n columns
  pub cost_is : cost ≡ dearest columns
  pub most : width ≤ 2 ^ 62
