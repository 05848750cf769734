-- How a phase ends: what the first leaves to the second, and the second to the plan.
use Rattle.std.specs.Prelude.{◌≡◌, ℕ, suc, ◌<◌, List, length, get_or, None, All}
use Rattle.std.specs.Prelude.{ℤ, pos, ◌≤ℤ◌}
use Rattle.cal_math.specs.Vectors.{at, dot}
use Rattle.lp_basis.specs.Held.{numbers_at}
use Rattle.lp_basis.specs.Potentials.{IsPotentials}
use Rattle.lp_basis.specs.declared.column.Column.{Column}
use Rattle.lp_basis.specs.declared.row.Row.{Row}
use Rattle.lp_stage.specs.Pricing.{IsDear}
use Rattle.lp_stage.specs.Stages.{basis_columns, basis_costs, IsPlacedBasis}
use Rattle.lp_stage.specs.declared.phase.Phase.TheVariants.{Second}
use Rattle.lp_stage.specs.declared.stage.Stage.{Stage}
use Rattle.lp_core.specs.Fitting.{widest, Fits}

-- the product of the row at place j with the target: its weight times its own product
abbrev pub target_product : List Row → List ℤ → ℕ → ℤ
target_product rows target j = dot (length target) (at (numbers_at rows j)) (at target)

-- every weight is at least 0, and that of each unit column 0
pub record IsReached (n : ℕ) (target : List ℤ) (stage : Stage) : Type 0 where
  pub least : (j : ℕ) → j < n → pos 0 ≤ℤ target_product stage.rows.items target j
  pub idle : (j : ℕ) → j < n → get_or stage.places.items j None ≡ None →
      target_product stage.rows.items target j ≡ pos 0

-- the last stage: it reaches the target, and no known column costs less than the potentials ask for it
pub record IsLast (b : ℕ) (columns : List Column) (target : List ℤ) (stage : Stage) : Type 0 where
  pub fits : Fits columns target
  pub size : length target ≡ suc b
  pub basis : IsPlacedBasis b (widest (suc b) columns) columns stage.places.items stage.rows.items
  pub potentials : IsPotentials (suc b) (basis_columns columns stage.places.items)
      (basis_costs Second columns stage.places.items) stage.potentials
  pub reached : IsReached (suc b) target stage
  pub dear : All (IsDear (suc b) Second (at stage.potentials.numbers.items) stage.potentials.denominator) columns
