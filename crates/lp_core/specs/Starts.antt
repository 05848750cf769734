-- The starts of a phase, and how it runs from a stage with no weight below 0.
use Rattle.std.specs.Prelude.{◌≡◌, ℕ, suc, ◌<◌, List, length, Option, All}
use Rattle.std.specs.Prelude.{ℤ, pos, ◌≤ℤ◌}
use Rattle.cal_math.specs.Vectors.{at}
use Rattle.lp_basis.specs.Columns.{IsColumn}
use Rattle.lp_basis.specs.Potentials.{IsPotentials}
use Rattle.lp_basis.specs.declared.column.Column.{Column}
use Rattle.lp_stage.specs.Pricing.{IsDear}
use Rattle.lp_stage.specs.Leaving.{amounts_at}
use Rattle.lp_stage.specs.Stages.{basis_columns, basis_costs, IsPhase, IsPlacedBasis}
use Rattle.lp_stage.specs.Running.{KeepsKnown}
use Rattle.lp_stage.specs.declared.phase.Phase.{Phase}
use Rattle.lp_stage.specs.declared.stage.Stage.{Stage}
use Rattle.lp_core.specs.Fitting.{IsTarget}
use Rattle.lp_core.specs.Ends.{target_product}

-- the target, and the columns of the first `size` places
pub record AreStarts (n : ℕ) (columns : List Column) (target : List ℤ)
    (places : List (Option ℕ)) (size : ℕ) (starts : List Column) : Type 0 where
  pub count : length starts ≡ suc size
  pub first : amounts_at starts 0 ≡ target
  pub lengths : (j : ℕ) → j < size → length (amounts_at starts (suc j)) ≡ n
  pub others : (j c : ℕ) → j < size → c < n →
      at (amounts_at starts (suc j)) c ≡ basis_columns columns places j c

-- a stage from which the phase can run
pub record CanRun (b w s : ℕ) (phase : Phase) (columns : List Column) (target : List ℤ)
    (stage : Stage) : Type 0 where
  pub during : IsPhase b w s phase columns
  pub fine : All (IsColumn (suc b)) columns
  pub aim : IsTarget target
  pub size : length target ≡ suc b
  pub basis : IsPlacedBasis b w columns stage.places.items stage.rows.items
  pub potentials : IsPotentials (suc b) (basis_columns columns stage.places.items)
      (basis_costs phase columns stage.places.items) stage.potentials
  pub least : (j : ℕ) → j < suc b → pos 0 ≤ℤ target_product stage.rows.items target j

-- the stage with which it ends
pub record HasRun (b w s : ℕ) (phase : Phase) (columns : List Column) (target : List ℤ)
    (stage end : Stage) : Type 0 where
  pub run : CanRun b w s phase columns target end
  pub dear : All (IsDear (suc b) phase (at end.potentials.numbers.items) end.potentials.denominator) columns
  pub keeps : KeepsKnown stage end

abbrev pub HasRunFrom : Phase → List Column → List ℤ → Stage → Stage → Type 0
HasRunFrom phase columns target stage end =
    (b w s : ℕ) → CanRun b w s phase columns target stage →
    HasRun b w s phase columns target stage end
