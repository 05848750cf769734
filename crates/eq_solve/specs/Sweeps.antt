-- What a sweep answers.
use Rattle.std.specs.Prelude.{◌≡◌, ℕ, ◌<◌, ◌≤◌, ◌*◌, List, length, All, ℤ, pos, ◌*ℤ◌, ◌<ℤ◌, unsigned_abs}
use Rattle.cal_limits.specs.declared.TheConstants.{MOST_SWEPT}
use Rattle.cef_core.specs.declared.system.System.{System}
use Rattle.cef_report.specs.declared.entry.Entry.{Entry}
use Rattle.cef_report.specs.Assemblages.{content_of, energy_of}
use Rattle.cef_report.specs.Certificates.{IsAbove}
use Rattle.cef_core.specs.Worth.{worth}
use Rattle.eq_solve.specs.Points.{IsConstitutionOf}
use Rattle.eq_sweep.specs.declared.swept.Swept.{Swept}
use Rattle.eq_sweep.specs.declared.swept.Swept.TheVariants.{Closed, Below, Out}

-- one potential for each element, each of a magnitude of at most 2^116 / W
pub record CanSweep (system : System) (potentials : List ℤ) : Type 0 where
  pub one_each : length potentials ≡ length system.elements
  pub small : All (λ m. unsigned_abs m * system.widest ≤ MOST_SWEPT) potentials

-- a constitution below the plane of the potentials: 2^16*G < M*b
pub record IsBelow (system : System) (potentials : List ℤ) (entry : Entry) : Type 0 where
  pub is_constitution : IsConstitutionOf system entry
  pub below : (pos 65536 *ℤ energy_of system entry) <ℤ worth potentials (content_of system entry)

-- All lies on or above the plane; or one constitution lies below it; or the budget, less than the number of lists, is spent at a phase.
abbrev pub Sweeps : System → List ℤ → ℕ → Swept → Type 0
Sweeps system potentials budget (Closed trees) = (length trees ≡ length system.phases) × IsAbove system potentials
Sweeps system potentials budget (Below phase site) = IsBelow system potentials (record { phase = phase; amount = pos 0; site = site })
Sweeps system potentials budget (Out phase) = (phase < length system.phases) × (budget < system.lists)
