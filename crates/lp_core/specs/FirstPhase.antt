-- How the first phase begins and ends: it makes the weight of the unit columns least.
use Rattle.std.specs.Prelude.{◌≡◌, ℕ, suc, ◌<◌, ◌≤◌, ◌^◌, List, length, get_or, Option, None, All, replicate}
use Rattle.std.specs.Prelude.{ℤ, pos, ◌≤ℤ◌}
use Rattle.cal_math.specs.Vectors.{at}
use Rattle.lp_basis.specs.Rows.{FitsProduct}
use Rattle.lp_basis.specs.Held.{numbers_at}
use Rattle.lp_basis.specs.declared.column.Column.{Column}
use Rattle.lp_basis.specs.declared.row.Row.{Row}
use Rattle.lp_stage.specs.Pricing.{IsDear}
use Rattle.lp_stage.specs.Stages.{IsPhase, IsStage}
use Rattle.lp_stage.specs.declared.phase.Phase.TheVariants.{First}
use Rattle.lp_stage.specs.declared.stage.Stage.{Stage}
use Rattle.lp_core.specs.Fitting.{widest}
use Rattle.lp_core.specs.Ends.{target_product}
use Rattle.lp_core.specs.Starts.{CanRun}

-- the known columns, and room for bases of n of them and of units
pub record CanBegin (b w : ℕ) (columns : List Column) : Type 0 where
  pub wide : 1 ≤ w
  pub room : w ^ suc b ≤ 2 ^ 62
  pub during : IsPhase b w 1 First columns

-- the units stand at all places
abbrev pub IsBegun : ℕ → List Column → Stage → Type 0
IsBegun size columns stage = (b w : ℕ) → size ≡ suc b → CanBegin b w columns →
    IsStage b w First columns (replicate size None) stage

-- the end of the first phase
pub record IsFirstEnd (b : ℕ) (columns : List Column) (target : List ℤ) (end : Stage) : Type 0 where
  pub run : CanRun b (widest (suc b) columns) 1 First columns target end
  pub dear : All (IsDear (suc b) First (at end.potentials.numbers.items) end.potentials.denominator) columns

-- the product of each row with the target fits
abbrev pub MeetsTarget : List Row → List ℤ → Type 0
MeetsTarget rows target = (j : ℕ) → j < length rows → (m : ℕ) × (v : ℕ)
    × FitsProduct m v (numbers_at rows j) target

-- a unit column has a weight above 0
pub record HasUnit (places : List (Option ℕ)) (rows : List Row) (target : List ℤ) : Type 0 where
  pub place : ℕ
  pub within : place < length places
  pub is_unit : get_or places place None ≡ None
  pub weighted : pos 1 ≤ℤ target_product rows target place

-- no unit column has
abbrev pub HasNoUnit : List (Option ℕ) → List Row → List ℤ → Type 0
HasNoUnit places rows target = (j : ℕ) → j < length places → get_or places j None ≡ None →
    target_product rows target j ≤ℤ pos 0
