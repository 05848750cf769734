-- The two phases of a plan, and the columns that cost less than their potentials ask.
use Rattle.std.specs.Prelude.{ℕ, ◌<◌, ◌≤◌, ◌^◌, List, length, get_or}
use Rattle.std.specs.Prelude.{ℤ, pos, ◌*ℤ◌, ◌≤ℤ◌, ◌<ℤ◌, unsigned_abs}
use Rattle.cal_math.specs.Vectors.{at, dot}
use Rattle.lp_basis.specs.Rows.{FitsProduct}
use Rattle.lp_basis.specs.declared.column.Column.{Column}
use Rattle.lp_stage.specs.declared.phase.Phase.{Phase}
use Rattle.lp_stage.specs.declared.phase.Phase.TheVariants.{First, Second}

-- what a unit of a column costs: nothing in the first phase, which makes the weight of the unit columns least
abbrev pub cost_in : Phase → Column → ℤ
cost_in First column = pos 0
cost_in Second column = column.cost

-- the column costs less than the potentials ask for it
abbrev pub IsCheap : ℕ → Phase → (ℕ → ℤ) → ℕ → Column → Type 0
IsCheap n phase numbers denominator column = (pos denominator *ℤ cost_in phase column) <ℤ dot n numbers (at column.amounts.items)

-- the column costs as much as the potentials ask for it, or more
abbrev pub IsDear : ℕ → Phase → (ℕ → ℤ) → ℕ → Column → Type 0
IsDear n phase numbers denominator column = dot n numbers (at column.amounts.items) ≤ℤ (pos denominator *ℤ cost_in phase column)

-- when a column can be priced: its product with the potentials fits, and so does its cost over the denominator
pub record FitsPrice (m w : ℕ) (numbers : List ℤ) (denominator : ℕ) (column : Column) : Type 0 where
  pub product : FitsProduct m w numbers column.amounts.items
  pub denominator_small : denominator ≤ 2 ^ 62
  pub cost_small : unsigned_abs column.cost ≤ 2 ^ 55

-- the place of a column that costs less than the potentials ask for it
pub record IsEntering (n : ℕ) (phase : Phase) (numbers : ℕ → ℤ) (denominator : ℕ)
    (columns : List Column) (k : ℕ) : Type 0 where
  pub within : k < length columns
  pub cheap : (d : Column) → IsCheap n phase numbers denominator (get_or columns k d)
