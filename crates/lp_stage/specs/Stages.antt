-- Where a phase stands: the column at each place, the rows of the basis and its potentials.
use Rattle.std.specs.Prelude.{◌≡◌, ℕ, zero, suc, ◌*◌, ◌<◌, ◌≤◌, ◌^◌, ◌≢◌}
use Rattle.std.specs.Prelude.{List, [], ◌∷◌, length, get_or, set, Option, Some, None, MatchOption}
use Rattle.std.specs.Prelude.{ℤ, pos, ◌≤ℤ◌, unsigned_abs}
use Rattle.cal_math.specs.Vectors.{at}
use Rattle.lp_basis.specs.Held.{IsHeld}
use Rattle.lp_basis.specs.Potentials.{IsPotentials}
use Rattle.lp_stage.specs.Pricing.{cost_in}
use Rattle.lp_stage.specs.Leaving.{amounts_at, IsStart, row_product, CanLeave, IsLeaving}
use Rattle.lp_basis.specs.declared.row.Row.{Row}
use Rattle.lp_basis.specs.declared.column.Column.{Column}
use Rattle.lp_stage.specs.declared.phase.Phase.{Phase}
use Rattle.lp_stage.specs.declared.phase.Phase.TheVariants.{First, Second}
use Rattle.lp_stage.specs.declared.stage.Stage.{Stage}

-- 1 at component j, 0 at every other
abbrev pub unit_at : ℕ → ℕ → ℤ
unit_at zero zero = pos 1
unit_at zero (suc c) = pos 0
unit_at (suc j) zero = pos 0
unit_at (suc j) (suc c) = unit_at j c

-- the column at place j: the known one that came in, or the unit of component j
abbrev pub column_at : List Column → Option ℕ → ℕ → ℕ → ℤ
column_at columns None j = unit_at j
column_at columns (Some k) j = at (amounts_at columns k)

-- what a unit column costs: 1 in the first phase, nothing in the second
abbrev pub unit_cost_in : Phase → ℤ
unit_cost_in First = pos 1
unit_cost_in Second = pos 0

-- what the known column at k costs
abbrev pub known_cost : Phase → List Column → ℕ → ℤ
known_cost phase [] k = pos 0
known_cost phase (column ∷ columns) zero = cost_in phase column
known_cost phase (column ∷ columns) (suc k) = known_cost phase columns k

abbrev pub cost_at : Phase → List Column → Option ℕ → ℤ
cost_at phase columns None = unit_cost_in phase
cost_at phase columns (Some k) = known_cost phase columns k

-- a unit, or a column of the first n
abbrev pub IsKnown : ℕ → Option ℕ → Type 0
IsKnown n None = Unit {0}
IsKnown n (Some k) = k < n

-- every place has one
abbrev pub AreKnown : ℕ → List (Option ℕ) → Type 0
AreKnown n places = (j : ℕ) → j < length places → IsKnown n (get_or places j None)

-- the columns of the basis, and what they cost
abbrev pub basis_columns : List Column → List (Option ℕ) → ℕ → ℕ → ℤ
basis_columns columns places j = column_at columns (get_or places j None) j

abbrev pub basis_costs : Phase → List Column → List (Option ℕ) → ℕ → ℤ
basis_costs phase columns places j = cost_at phase columns (get_or places j None)

-- known columns of n amounts that add to at most w, costs of magnitudes at most s, and room for w^n * s
pub record IsPhase (b w s : ℕ) (phase : Phase) (columns : List Column) : Type 0 where
  pub few : b < 8
  pub fine : (k : ℕ) → k < length columns → IsStart (suc b) w (amounts_at columns k)
  pub small : (place : Option ℕ) → unsigned_abs (cost_at phase columns place) ≤ s
  pub cost_room : s ≤ 2 ^ 55
  pub room : w ^ suc b * s ≤ 2 ^ 94

-- the rows of the basis at these places
pub record IsPlacedBasis (b w : ℕ) (columns : List Column) (places : List (Option ℕ))
    (rows : List Row) : Type 0 where
  pub count : length places ≡ suc b
  pub known : AreKnown (length columns) places
  pub held : IsHeld (suc b) w (basis_columns columns places) rows

-- the rows and the potentials of the basis at these places
pub record IsStage (b w : ℕ) (phase : Phase) (columns : List Column) (places : List (Option ℕ))
    (stage : Stage) : Type 0 where
  pub places_are : stage.places.items ≡ places
  pub basis : IsPlacedBasis b w columns places stage.rows.items
  pub potentials : IsPotentials (suc b) (basis_columns columns places) (basis_costs phase columns places) stage.potentials

-- a stage of the phase can stand at these places
pub record CanStand (b w s : ℕ) (phase : Phase) (columns : List Column) (places : List (Option ℕ))
    (rows : List Row) : Type 0 where
  pub during : IsPhase b w s phase columns
  pub basis : IsPlacedBasis b w columns places rows

-- the known column k can come in at place i
pub record CanMove (b w s : ℕ) (phase : Phase) (columns : List Column) (places : List (Option ℕ))
    (rows : List Row) (i k : ℕ) : Type 0 where
  pub during : IsPhase b w s phase columns
  pub basis : IsPlacedBasis b w columns places rows
  pub place : i < suc b
  pub known : k < length columns
  pub met : row_product (suc b) rows (amounts_at columns k) i ≢ pos 0

-- the known column k can enter in a phase that began with the starts: the target, then the columns of a basis
pub record CanStep (b w s v : ℕ) (phase : Phase) (columns starts : List Column)
    (places : List (Option ℕ)) (rows : List Row) (k : ℕ) : Type 0 where
  pub during : IsPhase b w s phase columns
  pub basis : IsPlacedBasis b w columns places rows
  pub known : k < length columns
  pub leaves : CanLeave b w v (basis_columns columns places) rows (amounts_at columns k) starts

-- the stage with the known column k at the place that leaves
pub record IsStep (b w : ℕ) (phase : Phase) (columns starts : List Column)
    (places : List (Option ℕ)) (rows : List Row) (k : ℕ) (next : Stage) : Type 0 where
  pub place : ℕ
  pub leaving : IsLeaving (suc b) rows (amounts_at columns k) starts (suc b) place
  pub stage : IsStage b w phase columns (set places place (Some k)) next

-- a step, or no row that meets the column above 0
abbrev pub IsStepOf : Phase → List Column → List Column → List (Option ℕ) → List Row → ℕ →
    Option Stage → Type 0
IsStepOf phase columns starts places rows k found =
    (b w s v : ℕ) → CanStep b w s v phase columns starts places rows k →
    MatchOption found ((j : ℕ) → j < suc b →
    row_product (suc b) rows (amounts_at columns k) j ≤ℤ pos 0)
    (IsStep b w phase columns starts places rows k)
