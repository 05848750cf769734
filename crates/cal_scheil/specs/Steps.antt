-- What a step makes of a walk, and why there is none.
use Rattle.std.specs.Prelude.{◌≡◌, ◌≢◌, ◌⊎◌, ℕ, ◌+◌, ◌*◌, ◌-◌, ◌<◌, List, length, Bool, true, false, Ok, Err, ℤ, pos, ◌+ℤ◌, ◌-ℤ◌, ◌≤ℤ◌, ◌<ℤ◌}
use Rattle.std.specs.List.{list_any}
use Rattle.cal_math.specs.Vectors.{at}
use Rattle.cal_scan.specs.Lines.{Word}
use Rattle.cal_scan.specs.Names.{same_name}
use Rattle.cef_core.specs.declared.job.Job.{Job}
use Rattle.cef_core.specs.declared.system.System.{System}
use Rattle.cef_report.specs.declared.report.Report.{Report}
use Rattle.cef_path.specs.Finishing.{FinishIs}
use Rattle.cef_path.specs.Ledgers.{solid_total, IsLeft}
use Rattle.tdb_read.specs.Database.{Database}
use Rattle.cal_select.specs.declared.fault.SystemFault.{SystemFault}
use Rattle.cal_select.specs.declared.fault.SystemFault.TheVariants as faults
use Rattle.cal_select.specs.Causes.{Answers}
use Rattle.eq_sweep.specs.Sweeps.{IsSweep}
use Rattle.eq_solve.specs.declared.fault.SolveFault.TheVariants as unsolved
use Rattle.eq_solve.specs.Answers.{IsFault}
use Rattle.eq_solve.specs.Equilibria.{IsEquilibrium}
use Rattle.cal_scheil.specs.declared.account.Account.{Account}
use Rattle.cal_scheil.specs.declared.fault.StepFault.{StepFault}
use Rattle.cal_scheil.specs.declared.fault.StepFault.TheVariants.{System as NoSystem, Infeasible, GapNotClosed, Memory}
use Rattle.cal_scheil.specs.declared.job.PathJob.{PathJob}
use Rattle.cal_scheil.specs.declared.step.Stepped.{Stepped}
use Rattle.cal_scheil.specs.Accounts.{account_in_order}
use Rattle.cal_scheil.specs.Walks.{path_job_at, start_of, WalkState}

-- ---- the system of a step

-- the database gives this system for the job
abbrev pub IsSelected : Database → Job → System → Type 0
IsSelected db job system = Answers db job (Ok system)

-- whether a phase of the system has this name
abbrev pub has_phase : System → Word → Bool
has_phase system name = list_any (λ phase. same_name phase.name name) system.phases

-- the database gives this system, and the liquid is one of its phases
pub record IsSystemOf (db : Database) (job : PathJob) (system : System) : Type 0 where
  pub selected : IsSelected db job.job system
  pub has_liquid : has_phase system job.liquid ≡ true

-- ---- the account of a step

-- What a step makes of an account in the order of the system's elements: what it leaves of the liquid remains, the total of all other
-- entries became solid, and what was asked less the total was lost.
pub record Moves (system : System) (liquid : Word) (report : Report) (left : List ℤ) (before after : Account) : Type 0 where
  pub same_names : after.names ≡ before.names
  pub same_asked : after.asked ≡ before.asked
  pub solids_each : length after.solids ≡ length before.names
  pub solids_are : (c : ℕ) → c < length before.names → at after.solids c ≡ at before.solids c +ℤ solid_total system liquid report c
  pub remains_are : after.remains ≡ left
  pub lost_each : length after.lost ≡ length before.names
  pub lost_are : (c : ℕ) → c < length before.names → at after.lost c ≡ at before.lost c +ℤ (at before.remains c -ℤ at report.totals c)

-- What a step at the job's temperature makes of an account: the equilibrium of what remains, each element's number beside its name.
pub record Makes (db : Database) (job : PathJob) (before : Account) (report : Report) (left : List ℤ) (after : Account) : Type 0 where
  pub system : System
  pub system_is : IsSystemOf db job system
  pub answers : IsEquilibrium system (account_in_order before system.elements).remains job.gap job.budget report
  pub left_is : IsLeft system job.liquid report left
  pub moves : Moves system job.liquid report left (account_in_order before system.elements) after

-- ---- a step

-- what is asked of the walk's next step
abbrev pub job_of : WalkState → PathJob
job_of walk = path_job_at walk.job walk.t

-- What one step makes of a walk: its report is the equilibrium at the walk's temperature of what the walk asks; what it leaves is asked
-- next, one descent lower.
pub record Takes (db : Database) (before : WalkState) (step : Stepped) (after : WalkState) : Type 0 where
  pub makes : Makes db (job_of before) before.account step.report step.left after.account
  pub finish_is : FinishIs (start_of before.job after.account.asked) before.t step.left step.finish
  pub same_job : after.job ≡ before.job
  pub lower : after.t ≡ before.t - before.job.descent
  pub one_more : after.steps ≡ before.steps + 1
  pub same_finish : after.finish ≡ step.finish

-- ---- why there is no step

-- this is the first cause why there is no system
pub record IsRefused (db : Database) (job : Job) (fault : SystemFault) : Type 0 where
  pub no_want : fault ≢ faults.Memory
  pub first : Answers db job (Err fault)

-- there is a system, and the liquid is none of its phases
pub record LacksLiquid (db : Database) (job : PathJob) (fault : SystemFault) : Type 0 where
  pub system : System
  pub selected : IsSelected db job.job system
  pub no_liquid : has_phase system job.liquid ≡ false
  pub fault_is : fault ≡ faults.UnknownPhase job.liquid

-- Why there is no equilibrium of the system for what is asked.
abbrev pub IsUnsolved : System → List ℤ → PathJob → StepFault → Type 0
IsUnsolved system asked job (NoSystem fault) = ⊥
IsUnsolved system asked job (Infeasible v) = IsFault system (IsSweep system.phases) asked job.gap job.budget (unsolved.Infeasible v)
IsUnsolved system asked job (GapNotClosed left) = IsFault system (IsSweep system.phases) asked job.gap job.budget (unsolved.GapNotClosed left)
IsUnsolved system asked job Memory = Unit {0}

-- there is a system with the liquid, and no equilibrium of what remains
pub record HasNone (db : Database) (job : PathJob) (account : Account) (fault : StepFault) : Type 0 where
  pub system : System
  pub system_is : IsSystemOf db job system
  pub unsolved : IsUnsolved system (account_in_order account system.elements).remains job fault

-- Why there is no step at the job's temperature: the first cause why there is no system, then a liquid that is none of its phases, then
-- what stands in the way of the equilibrium. Want of memory may come at any place.
abbrev pub IsStepFault : Database → PathJob → Account → StepFault → Type 0
IsStepFault db job account (NoSystem fault) = IsRefused db job.job fault ⊎ LacksLiquid db job fault
IsStepFault db job account (Infeasible v) = HasNone db job account (Infeasible v)
IsStepFault db job account (GapNotClosed left) = HasNone db job account (GapNotClosed left)
IsStepFault db job account Memory = Unit {0}

-- ---- what a step loses

-- A step loses of each element less than C*W, and nothing is gained.
abbrev pub LossIsSmall : Type 0
LossIsSmall = (db : Database) (job : PathJob) (before after : Account) (report : Report) (left : List ℤ)
    (makes : Makes db job before report left after) (c : ℕ) → c < length makes.system.elements →
    (pos 0 ≤ℤ (at report.asked c -ℤ at report.totals c))
    × ((at report.asked c -ℤ at report.totals c) <ℤ pos (length makes.system.elements * makes.system.widest))
