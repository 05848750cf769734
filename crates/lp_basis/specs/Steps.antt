-- The parts of an exchange: the row of the place, and every other row.
use Rattle.std.specs.Prelude.{◌≡◌, ℕ, suc, ◌<◌, ◌≢◌, List, length}
use Rattle.std.specs.Prelude.{ℤ, pos, ◌-ℤ◌, ◌*ℤ◌, ◌≤ℤ◌}
use Rattle.cal_math.specs.Vectors.{at, dot}
use Rattle.lp_laws.specs.Bases.{IsPrimitive, IsUnit}
use Rattle.lp_basis.specs.Held.{CanEnter, numbers_at, own_at}
use Rattle.lp_basis.specs.declared.row.Row.{Row}

-- `own`, above 0, is the row's product with a column that the other row kills
pub record Keeps (p : ℤ) (row : List ℤ) (own : ℤ) (mine : List ℤ) : Type 0 where
  pub column : ℕ → ℤ
  pub owns : dot (length row) (at row) column ≡ own
  pub killed : dot (length row) (at mine) column ≡ pos 0
  pub p_some : pos 1 ≤ℤ p
  pub own_some : pos 1 ≤ℤ own

-- the row and its own product, times p, less q times the other row, divided by all that the numbers share
pub record IsNext (p : ℤ) (row : List ℤ) (own q : ℤ) (mine : List ℤ) (next : List ℤ)
    (next_own : ℤ) : Type 0 where
  pub shared : ℤ
  pub positive : pos 1 ≤ℤ shared
  pub numbers_are : (c : ℕ) → c < length row → p *ℤ at row c -ℤ q *ℤ at mine c ≡ shared *ℤ at next c
  pub own_is : p *ℤ own ≡ shared *ℤ next_own
  pub primitive : IsPrimitive (length row) (at next)

-- what stands at place j after `mine`, with p, has come in at place i
pub record IsPlaced (i j n : ℕ) (p : ℤ) (mine : List ℤ) (column : List ℤ) (rows : List Row)
    (next : Row) : Type 0 where
  pub sized : length next.numbers.items ≡ n
  pub here : j ≡ i → ((c : ℕ) → c < n → at next.numbers.items c ≡ at mine c) × (next.own ≡ p)
  pub there : j ≢ i →
      IsNext p (numbers_at rows j) (own_at rows j) (dot n (at (numbers_at rows j)) (at column)) mine next.numbers.items next.own

-- the row of place i times 1 or -1, and its product with the column, above 0
pub record CanPlace (b w : ℕ) (columns : ℕ → ℕ → ℤ)
    (rows : List Row) (i : ℕ) (p : ℤ) (mine : List ℤ) (column : List ℤ) : Type 0 where
  pub can : CanEnter (suc b) w columns rows i column
  pub turn : ℤ
  pub one : turn *ℤ turn ≡ pos 1
  pub sized : length mine ≡ suc b
  pub exact : (c : ℕ) → c < suc b → at mine c ≡ turn *ℤ at (numbers_at rows i) c
  pub positive : pos 1 ≤ℤ p
  pub p_is : p ≡ dot (suc b) (at mine) (at column)

-- the row of a unit column
pub record IsUnitRow (n k : ℕ) (row : Row) : Type 0 where
  pub sized : length row.numbers.items ≡ n
  pub unit : IsUnit n k (at row.numbers.items)
  pub one : row.own ≡ pos 1
