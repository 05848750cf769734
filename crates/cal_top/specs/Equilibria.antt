-- What `equilibrium` replies over its database, and why: one constructor for each cause.
use Rattle.std.specs.Prelude.{◌≡◌, ◌≢◌, ℕ, ◌*◌, List, [], ◌∷◌, map, Err, Ok, ℤ, pos, if◌then◌else◌}
use Rattle.cal_base.specs.declared.status.Status.{Status}
use Rattle.cal_base.specs.declared.status.Status.TheVariants.{Done, BadSystem, GapNotClosed}
use Rattle.cal_scan.specs.Names.{same_name}
use Rattle.cal_job.specs.declared.request.Request.{Request}
use Rattle.cal_job.specs.Saying.{Word}
use Rattle.cef_core.specs.declared.job.Job.{Job}
use Rattle.cef_core.specs.declared.system.System.{System}
use Rattle.cef_report.specs.declared.report.Report.{Report}
use Rattle.cef_report.specs.Holding.{Holds}
use Rattle.cef_report.specs.Certificates.{IsCertified}
use Rattle.cef_report.specs.Feasibility.{IsFeasible, IsProofOfNone}
use Rattle.cef_report.specs.Spelled.{IsSpelled}
use Rattle.cef_report.specs.Texts.{text}
use Rattle.tdb_read.specs.Database.{Database}
use Rattle.cal_select.specs.declared.fault.SystemFault.{SystemFault}
use Rattle.cal_select.specs.declared.fault.SystemFault.TheVariants as faults
use Rattle.cal_select.specs.Causes.{Answers}
use Rattle.eq_sweep.specs.declared.swept.Swept.TheVariants.{Closed}
use Rattle.eq_sweep.specs.Sweeps.{IsSweep}
use Rattle.eq_solve.specs.declared.fault.Open.{Open}
use Rattle.eq_solve.specs.Answers.{IsNear, IsOpen}
use Rattle.cal_refusal.specs.Refusals.{system_line, infeasible_line, open_text}

-- ---- what is asked

-- the amount beside the name of its element, and 0 where it is not asked
abbrev pub amount_beside : List Word → List ℕ → Word → ℕ
amount_beside (element ∷ elements) (amount ∷ amounts) name =
    if same_name name element then amount else amount_beside elements amounts name
amount_beside _ _ name = 0

-- the asked totals in the order of the system's elements, in units of 1/N nmol
abbrev pub totals_asked : Request → List Word → List ℤ
totals_asked request elements =
    map (λ name. pos (amount_beside request.job.elements request.amounts name * request.job.lattice)) elements

abbrev pub asked_of : Request → System → List ℤ
asked_of request system = totals_asked request system.elements

-- ---- the system

-- the database gives this system for the job
abbrev pub IsSelected : Database → Job → System → Type 0
IsSelected db job system = Answers db job (Ok system)

-- this is the first cause why it gives none
pub record IsRefused (db : Database) (job : Job) (fault : SystemFault) : Type 0 where
  pub no_want : fault ≢ faults.Memory
  pub first : Answers db job (Err fault)

-- ---- the equilibrium

-- The text is that of one report, which holds for the system and what is asked of it, with its certificate for the asked gap. Its trees
-- are those of the sweep under its potentials with the asked budget, and the report is within the limits of texts.
pub record IsAnswer (system : System) (request : Request) (printed : List ℕ) : Type 0 where
  pub report : Report
  pub printed_is : printed ≡ text report
  pub holds : Holds system (asked_of request system) report
  pub certified : IsCertified system request.gap report
  pub near : IsNear system report
  pub feasible : IsFeasible system (asked_of request system)
  pub trees : IsSweep system.phases report.potentials request.budget (Closed report.trees)
  pub spelled : IsSpelled report

-- The numbers show that the asked totals are not feasible.
pub record IsInfeasible (system : System) (request : Request) (numbers : List ℤ) : Type 0 where
  pub shown : IsProofOfNone system (asked_of request system) numbers
  pub infeasible : ¬ IsFeasible system (asked_of request system)

-- the names of a system's phases
abbrev pub phase_names : System → List Word
phase_names system = map (λ phase. phase.name) system.phases

-- The text is that of what is kept of an equilibrium that is left open, where the asked totals are feasible.
pub record IsLeftOpen (system : System) (request : Request) (printed : List ℕ) : Type 0 where
  pub left : Open
  pub open_is : IsOpen system (IsSweep system.phases) (asked_of request system) request.gap request.budget left
  pub feasible : IsFeasible system (asked_of request system)
  pub printed_is : printed ≡ open_text (phase_names system) request.budget left

-- The reply over a system.
pub data FromSystem (system : System) (request : Request) (status : Status) (printed : List ℕ) : Type 0 where
  -- no constitutions give the asked totals
  infeasible : (numbers : List ℤ) → IsInfeasible system request numbers → status ≡ BadSystem → printed ≡ infeasible_line numbers →
      FromSystem system request status printed
  -- a sweep spent the budget
  left_open : IsLeftOpen system request printed → status ≡ GapNotClosed → FromSystem system request status printed
  -- the equilibrium
  answered : IsAnswer system request printed → status ≡ Done → FromSystem system request status printed

-- The reply over a database.
pub data FromDatabase (db : Database) (request : Request) (status : Status) (printed : List ℕ) : Type 0 where
  -- there is no system
  refused : (fault : SystemFault) → IsRefused db request.job fault → status ≡ BadSystem → printed ≡ system_line fault → FromDatabase db request status printed
  -- there is this one
  selected : (system : System) → IsSelected db request.job system → FromSystem system request status printed → FromDatabase db request status printed
