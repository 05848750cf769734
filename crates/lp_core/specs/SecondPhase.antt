-- How the second phase begins: units without weight give their places to known columns, where one of these can come in.
use Rattle.std.specs.Prelude.{◌≡◌, ℕ, suc, ◌<◌, ◌≢◌, List, length, get_or, Option, None, MatchOption}
use Rattle.std.specs.Prelude.{ℤ, pos}
use Rattle.cal_math.specs.Vectors.{at, dot}
use Rattle.lp_basis.specs.Rows.{FitsProduct}
use Rattle.lp_basis.specs.Held.{numbers_at}
use Rattle.lp_basis.specs.Potentials.{IsPotentials}
use Rattle.lp_basis.specs.declared.column.Column.{Column}
use Rattle.lp_basis.specs.declared.row.Row.{Row}
use Rattle.lp_stage.specs.Leaving.{amounts_at, row_product}
use Rattle.lp_stage.specs.Stages.{basis_columns, basis_costs, IsPlacedBasis}
use Rattle.lp_stage.specs.declared.phase.Phase.TheVariants.{Second}
use Rattle.lp_stage.specs.declared.stage.Stage.{Stage}
use Rattle.lp_core.specs.Fitting.{widest, Fits}
use Rattle.lp_core.specs.Ends.{IsReached}
use Rattle.lp_core.specs.FirstPhase.{IsFirstEnd, HasNoUnit}

-- the product of the row with the known column at k
abbrev pub column_product : List Column → List ℤ → ℕ → ℤ
column_product columns row k = dot (length row) (at row) (at (amounts_at columns k))

-- its products with all known columns fit
abbrev pub MeetsAll : List Column → List ℤ → Type 0
MeetsAll columns row = (k : ℕ) → k < length columns → (m : ℕ) × (w : ℕ)
    × FitsProduct m w row (amounts_at columns k)

-- the place of a known column whose product with the row is not 0, or none where all are 0
abbrev pub IsMeeting : List Column → List ℤ → Option ℕ → Type 0
IsMeeting columns row found =
    MatchOption found ((k : ℕ) → k < length columns → column_product columns row k ≡ pos 0)
    (λ k. (k < length columns) × (column_product columns row k ≢ pos 0))

-- a known column that can come in at place j, where a unit stands, or none where a known one stands or its row kills all known ones
abbrev pub IsEntrant : List Column → List (Option ℕ) → List Row → ℕ → Option ℕ → Type 0
IsEntrant columns places rows j found =
    MatchOption found (get_or places j None ≡ None → (k : ℕ) → k < length columns →
    column_product columns (numbers_at rows j) k ≡ pos 0)
    (λ k. (get_or places j None ≡ None) × (k < length columns)
    × (column_product columns (numbers_at rows j) k ≢ pos 0))

-- the row at place j kills every known column
abbrev pub KillsAll : ℕ → List Column → List Row → ℕ → Type 0
KillsAll n columns rows j = (k : ℕ) → k < length columns →
    row_product n rows (amounts_at columns k) j ≡ pos 0

-- the end of a first phase in which no unit has a weight
pub record CanFollow (b : ℕ) (columns : List Column) (target : List ℤ) (end : Stage) : Type 0 where
  pub fits : Fits columns target
  pub size : length target ≡ suc b
  pub first : IsFirstEnd b columns target end
  pub none : HasNoUnit end.places.items end.rows.items target

-- A stage of the second phase that reaches the target. Where one of the first `done` places has a unit yet, no known column can come in.
pub record IsReady (b : ℕ) (columns : List Column) (target : List ℤ) (done : ℕ)
    (stage : Stage) : Type 0 where
  pub fits : Fits columns target
  pub size : length target ≡ suc b
  pub basis : IsPlacedBasis b (widest (suc b) columns) columns stage.places.items stage.rows.items
  pub potentials : IsPotentials (suc b) (basis_columns columns stage.places.items)
      (basis_costs Second columns stage.places.items) stage.potentials
  pub reached : IsReached (suc b) target stage
  pub spare : (j : ℕ) → j < done → j < suc b → get_or stage.places.items j None ≡ None →
      KillsAll (suc b) columns stage.rows.items j
