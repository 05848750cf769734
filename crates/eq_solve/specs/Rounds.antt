-- What one round comes to.
use Rattle.std.specs.Prelude.{◌≡◌, ℕ, ◌≤◌, ◌<◌, ◌^◌, List, length, map, Option, Some, None, slice_get, AllPairs, ℤ, pos, ◌≤ℤ◌}
use Rattle.std.specs.List.{insert}
use Rattle.cal_limits.specs.declared.TheConstants.{LEAST_GAP, MOST_GAP}
use Rattle.lp_basis.specs.declared.column.Column.{Column}
use Rattle.lp_core.specs.Fitting.{IsTarget}
use Rattle.cef_core.specs.declared.phase.PhaseAt.{PhaseAt}
use Rattle.cef_core.specs.declared.system.System.{System}
use Rattle.cef_core.specs.Constitutions.{IsConstitution, content}
use Rattle.cef_report.specs.declared.entry.Entry.{Entry}
use Rattle.cef_report.specs.Assemblages.{content_of}
use Rattle.cef_core.specs.Worth.{worth}
use Rattle.cef_report.specs.Feasibility.{IsFeasible}
use Rattle.cef_report.specs.Holding.{IsBefore}
use Rattle.eq_sweep.specs.declared.swept.Swept.{Swept}
use Rattle.eq_solve.specs.declared.point.Gain.{Gain}
use Rattle.eq_solve.specs.declared.point.Point.{Point}
use Rattle.eq_solve.specs.declared.point.Round.{Round}
use Rattle.eq_solve.specs.declared.point.Round.TheVariants.{Done, Next}
use Rattle.eq_solve.specs.Points.{IsNew, IsKnownAs, AreKnown, IsSized}
use Rattle.eq_solve.specs.Finding.{IsFound}

-- what an equilibrium is asked of: a system within its limits, totals, a gap of 1 to 10^12
pub record CanSolve (system : System) (asked : List ℤ) (gap : ℕ) : Type 0 where
  pub sized : IsSized system
  pub aim : IsTarget asked
  pub size : length asked ≡ length system.elements
  pub gap_low : LEAST_GAP ≤ gap
  pub gap_high : gap ≤ MOST_GAP

-- what a round starts from: what an equilibrium is asked of, and known constitutions with their columns
pub record CanRound (system : System) (asked : List ℤ) (gap : ℕ) (known : List Entry) (columns : List Column) : Type 0 where
  pub can : CanSolve system asked gap
  pub are_known : AreKnown system known columns

-- an equilibrium, or a constitution that was not known, with its column
abbrev pub IsRound : System → (List ℤ → ℕ → Swept → Type 0) → List ℤ → ℕ → ℕ → List Entry → Round → Type 0
IsRound system swept asked gap budget known (Done found) = IsFound system swept asked gap budget found × IsFeasible system asked
IsRound system swept asked gap budget known (Next gain) = IsKnownAs system gain.first.entry gain.first.column × IsNew known gain.first.entry

-- no constitution of a value above 0, or one with its column
abbrev pub IsRising : System → List ℤ → Option Point → Type 0
IsRising system v None = (p : ℕ) (phase : PhaseAt) (counts : List (List ℕ)) → slice_get system.phases p ≡ Some phase → IsConstitution phase counts → worth v (content phase counts) ≤ℤ pos 0
IsRising system v (Some point) = IsKnownAs system point.entry point.column × (pos 1 ≤ℤ worth v (content_of system point.entry))

-- the same of the phase at a place
abbrev pub IsRisingAt : System → List ℤ → ℕ → Option Point → Type 0
IsRisingAt system v p None = (phase : PhaseAt) (counts : List (List ℕ)) → slice_get system.phases p ≡ Some phase → IsConstitution phase counts → worth v (content phase counts) ≤ℤ pos 0
IsRisingAt system v p (Some point) = IsKnownAs system point.entry point.column × (pos 1 ≤ℤ worth v (content_of system point.entry))

-- nothing, or a constitution that was not known, with its column
abbrev pub IsNewPoint : System → List Entry → Option Point → Type 0
IsNewPoint system known None = Unit {0}
IsNewPoint system known (Some point) = IsKnownAs system point.entry point.column × IsNew known point.entry

-- nothing, or such a constitution before all else
abbrev pub IsGain : System → List Entry → Option Gain → Type 0
IsGain system known None = Unit {0}
IsGain system known (Some gain) = IsKnownAs system gain.first.entry gain.first.column × IsNew known gain.first.entry
