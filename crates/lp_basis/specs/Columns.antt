-- Columns of amounts with a cost.
use Rattle.std.specs.Prelude.{◌≡◌, ℕ, ◌≤◌, ◌^◌, List, length}
use Rattle.std.specs.Prelude.{ℤ, pos, ◌≤ℤ◌, unsigned_abs}
use Rattle.cal_math.specs.Vectors.{at, sum_to}
use Rattle.lp_basis.specs.declared.column.Column.{Column}

-- amounts of at least 0 that add to `sum`, at most 2^62
pub record IsSum (amounts : List ℤ) (sum : ℕ) : Type 0 where
  pub least : (c : ℕ) → pos 0 ≤ℤ at amounts c
  pub exact : sum_to (length amounts) (at amounts) ≡ pos sum
  pub most : sum ≤ 2 ^ 62

-- n amounts of at least 0, not all 0, and a cost of at most 2^55 in magnitude
pub record IsColumn (n : ℕ) (column : Column) : Type 0 where
  pub sized : length column.amounts.items ≡ n
  pub least : (c : ℕ) → pos 0 ≤ℤ at column.amounts.items c
  pub positive : pos 1 ≤ℤ sum_to n (at column.amounts.items)
  pub cost : unsigned_abs column.cost ≤ 2 ^ 55

-- the sum of a column
abbrev pub sum_at : ℕ → Column → ℕ
sum_at n column = unsigned_abs (sum_to n (at column.amounts.items))
