-- Which equilibria are answered, and why there is none.
use Rattle.std.specs.Prelude.{◌≡◌, ℕ, ◌-◌, ◌*◌, ◌/◌, ◌<◌, ◌≤◌, List, length, All, AllPairs, ℤ, pos, ◌-ℤ◌, ◌*ℤ◌, ◌≤ℤ◌, ◌<ℤ◌}
use Rattle.cal_math.specs.Vectors.{at, sum_to}
use Rattle.cef_core.specs.declared.system.System.{System}
use Rattle.cef_report.specs.declared.entry.Entry.{Entry}
use Rattle.cef_report.specs.declared.report.Report.{Report}
use Rattle.cef_report.specs.Assemblages.{content_of, energy_of, total}
use Rattle.cef_core.specs.Worth.{worth}
use Rattle.cef_report.specs.Feasibility.{IsFeasible, IsProofOfNone}
use Rattle.cef_report.specs.Holding.{IsBefore}
use Rattle.eq_sweep.specs.declared.swept.Swept.{Swept}
use Rattle.eq_sweep.specs.declared.swept.Swept.TheVariants.{Out}
use Rattle.eq_solve.specs.declared.fault.Open.{Open}
use Rattle.eq_solve.specs.declared.fault.SolveFault.{SolveFault}
use Rattle.eq_solve.specs.declared.fault.SolveFault.TheVariants.{Infeasible, GapNotClosed, Memory}
use Rattle.eq_solve.specs.Points.{IsConstitutionOf}
use Rattle.eq_solve.specs.Sweeps.{CanSweep}

-- a tolerance below C*W, and potentials of a magnitude of at most 2^116 / W
pub record IsNear (system : System) (report : Report) : Type 0 where
  pub tolerance_small : report.tolerance <ℤ pos (length system.elements * system.widest)
  pub potentials_small : CanSweep system report.potentials

-- the kept entry lies above the plane by s - 1 to s for each unit of its content: (s-1)*sum b <= 2^16*G - M*b < s*sum b
pub record IsKept (system : System) (s : ℕ) (potentials : List ℤ) (entry : Entry) : Type 0 where
  pub is_constitution : IsConstitutionOf system entry
  pub least : pos 0 ≤ℤ entry.amount
  pub clear : (pos (s - 1) *ℤ sum_to (length system.elements) (content_of system entry))
      ≤ℤ (pos 65536 *ℤ energy_of system entry -ℤ worth potentials (content_of system entry))
  pub near : (pos 65536 *ℤ energy_of system entry -ℤ worth potentials (content_of system entry))
      <ℤ (pos s *ℤ sum_to (length system.elements) (content_of system entry))

-- Why an equilibrium is left open: the budget is below the number of lists; under the kept potentials the sweep spends it at the kept phase;
-- there is a kept entry, and their totals differ from the asked ones by less than C*W; and with s = floor(2^16*g/N) each kept entry is
-- close to the plane, so that they would have met the asked gap.
pub record IsOpen (system : System) (swept : List ℤ → ℕ → Swept → Type 0) (asked : List ℤ) (asked_gap budget : ℕ) (left : Open) : Type 0 where
  pub budget_low : budget < system.lists
  pub can_sweep : CanSweep system left.potentials
  pub phase_in : left.phase < length system.phases
  pub out : swept left.potentials budget (Out left.phase)
  pub present : 0 < length left.entries
  pub rising : AllPairs IsBefore left.entries
  pub none_above : (c : ℕ) → c < length system.elements → total system left.entries c ≤ℤ at asked c
  pub close : (c : ℕ) → c < length system.elements →
      (at asked c -ℤ total system left.entries c) <ℤ pos (length system.elements * system.widest)
  pub kept : All (IsKept system (65536 * asked_gap / system.lattice) left.potentials) left.entries

-- Why there is no equilibrium: numbers that show that the asked totals are not feasible, and they are not; or a budget that was spent,
-- where they are.
abbrev pub IsFault : System → (List ℤ → ℕ → Swept → Type 0) → List ℤ → ℕ → ℕ → SolveFault → Type 0
IsFault system swept asked gap budget (Infeasible v) = IsProofOfNone system asked v.items × ¬ IsFeasible system asked
IsFault system swept asked gap budget (GapNotClosed left) = IsOpen system swept asked gap budget left × IsFeasible system asked
IsFault system swept asked gap budget Memory = Unit {0}
