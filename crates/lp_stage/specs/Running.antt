-- A phase as it runs: its stage, the starts, and that every row's list is above 0.
use Rattle.std.specs.Prelude.{◌≡◌, ℕ, suc, ◌*◌, ◌<◌, ◌^◌, List, length, get_or, All, Option, None, MatchOption}
use Rattle.std.specs.Prelude.{ℤ, pos, ◌-ℤ◌, ◌*ℤ◌}
use Rattle.cal_math.specs.Vectors.{at, dot}
use Rattle.lp_laws.specs.Bases.{IsBasis}
use Rattle.lp_laws.specs.Orders.{IsLexAbove}
use Rattle.lp_basis.specs.Held.{numbers_at}
use Rattle.lp_basis.specs.Columns.{IsColumn}
use Rattle.lp_basis.specs.Potentials.{IsPotentials}
use Rattle.lp_stage.specs.Pricing.{IsDear}
use Rattle.lp_stage.specs.Leaving.{amounts_at, start_product, IsStart}
use Rattle.lp_stage.specs.Stages.{basis_columns, basis_costs, IsPhase, IsPlacedBasis}
use Rattle.lp_basis.specs.declared.column.Column.{Column}
use Rattle.lp_stage.specs.declared.phase.Phase.{Phase}
use Rattle.lp_stage.specs.declared.stage.Stage.{Stage}

-- known columns, a stage of the phase, and the starts: the target, then the columns of a basis
pub record IsRunning (b w s v : ℕ) (phase : Phase) (columns starts : List Column)
    (stage : Stage) : Type 0 where
  pub during : IsPhase b w s phase columns
  pub fine : All (IsColumn (suc b)) columns
  pub basis : IsPlacedBasis b w columns stage.places.items stage.rows.items
  pub potentials : IsPotentials (suc b) (basis_columns columns stage.places.items)
      (basis_costs phase columns stage.places.items) stage.potentials
  pub count : length starts ≡ suc (suc b)
  pub fits : (k : ℕ) → k < suc (suc b) → IsStart (suc b) v (amounts_at starts k)
  pub room : w ^ b * v < 2 ^ 126
  pub rows0 : ℕ → ℕ → ℤ
  pub own0 : ℕ → ℤ
  pub begun : IsBasis (suc b) (suc b) (λ k. at (amounts_at starts (suc k))) rows0 own0
  pub above : (j : ℕ) → j < suc b →
      IsLexAbove (suc (suc b)) (λ k. start_product (suc b) starts (numbers_at stage.rows.items j) k)

-- the list of what the basis costs at each of the starts, over its denominator, has fallen
abbrev pub HasFallen : ℕ → List Column → Stage → Stage → Type 0
HasFallen n starts old next =
    IsLexAbove (suc n)
    (λ k. pos next.potentials.denominator *ℤ dot n (at old.potentials.numbers.items) (at (amounts_at starts k))
    -ℤ pos old.potentials.denominator *ℤ dot n (at next.potentials.numbers.items) (at (amounts_at starts k)))

-- a place that had a known column has one still
abbrev pub KeepsKnown : Stage → Stage → Type 0
KeepsKnown old next = (j : ℕ) → get_or next.places.items j None ≡ None →
    get_or old.places.items j None ≡ None

-- a later stage of the same phase that costs less
pub record IsBetter (b w s v : ℕ) (phase : Phase) (columns starts : List Column)
    (old next : Stage) : Type 0 where
  pub running : IsRunning b w s v phase columns starts next
  pub fallen : HasFallen (suc b) starts old next
  pub keeps : KeepsKnown old next

-- a better stage, or no column that costs less than the potentials ask for it
abbrev pub IsImproved : Phase → List Column → List Column → Stage → Option Stage → Type 0
IsImproved phase columns starts stage found =
    (b w s v : ℕ) → IsRunning b w s v phase columns starts stage →
    MatchOption found (All (IsDear (suc b) phase (at stage.potentials.numbers.items) stage.potentials.denominator) columns)
    (IsBetter b w s v phase columns starts stage)

-- a stage of the same phase in which every known column costs what the potentials ask for it, or more
abbrev pub IsSettled : Phase → List Column → List Column → Stage → Stage → Type 0
IsSettled phase columns starts stage end =
    (b w s v : ℕ) → IsRunning b w s v phase columns starts stage →
    IsRunning b w s v phase columns starts end
    × All (IsDear (suc b) phase (at end.potentials.numbers.items) end.potentials.denominator) columns
    × KeepsKnown stage end
