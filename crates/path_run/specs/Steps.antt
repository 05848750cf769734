-- The steps of a path over a database, and why the step behind them has no answer.
use Rattle.std.specs.Prelude.{◌≡◌, ℕ, ◌*◌, ◌-◌, List, length, map, slice_get, Some, false, ℤ}
use Rattle.cal_base.specs.declared.status.Status.{Status}
use Rattle.cal_base.specs.declared.status.Status.TheVariants as statuses
use Rattle.cal_scan.specs.Lines.{Word}
use Rattle.cef_core.specs.declared.system.System.{System}
use Rattle.cef_report.specs.Feasibility.{IsFeasible, IsProofOfNone}
use Rattle.cef_path.specs.declared.start.PathStart.{PathStart}
use Rattle.cef_path.specs.declared.step.StepText.{StepText}
use Rattle.cef_path.specs.Paths.{asked_at, StepsHold, GoOn}
use Rattle.tdb_read.specs.Database.{Database}
use Rattle.cal_select.specs.declared.fault.SystemFault.{SystemFault}
use Rattle.cal_select.specs.declared.fault.SystemFault.TheVariants as faults
use Rattle.cal_select.specs.Chosen.{components_of}
use Rattle.eq_sweep.specs.Sweeps.{IsSweep}
use Rattle.eq_solve.specs.declared.fault.Open.{Open}
use Rattle.eq_solve.specs.Answers.{IsOpen}
use Rattle.eq_solve.specs.Equilibria.{IsEquilibrium}
use Rattle.cal_scheil.specs.declared.job.PathJob.{PathJob}
use Rattle.cal_scheil.specs.Accounts.{in_order}
use Rattle.cal_scheil.specs.Walks.{path_job_at, start_of}
use Rattle.cal_scheil.specs.Steps.{IsSelected, has_phase, IsSystemOf, IsRefused}
use Rattle.cal_refusal.specs.Refusals.{system_line, infeasible_line, open_text}

-- ---- what is asked

-- what is asked of each element at first, in the order of the database
abbrev pub first_asked : Database → PathJob → List ℤ
first_asked db job = in_order job.job.elements job.asked (components_of db job.job)

-- what the path is started with
abbrev pub path_start : Database → PathJob → PathStart
path_start db job = start_of job (first_asked db job)

-- ---- the steps

-- The steps are those of a path over the systems that the database gives at their temperatures, and each report is the equilibrium of
-- what is asked of its step.
pub record AreSteps (db : Database) (job : PathJob) (systems : ℕ → System) (steps : List StepText) : Type 0 where
  pub systems_are : (i : ℕ) (step : StepText) → slice_get steps i ≡ Some step → IsSystemOf db (path_job_at job step.report.t) (systems step.report.t)
  pub hold : StepsHold systems (path_start db job) steps
  pub equilibria : (i : ℕ) (step : StepText) → slice_get steps i ≡ Some step →
      IsEquilibrium (systems step.report.t) (asked_at (first_asked db job) steps i) job.gap job.budget step.report

-- ---- the step behind them

-- its job: it is one descent below the last, or at the first temperature
abbrev pub job_behind : PathJob → List StepText → PathJob
job_behind job steps = path_job_at job (job.job.t - length steps * job.descent)

-- what it asks: what the last left of the liquid, or what is asked at first
abbrev pub asked_behind : Database → PathJob → List StepText → List ℤ
asked_behind db job steps = asked_at (first_asked db job) steps (length steps)

-- the names of a system's phases
abbrev pub phase_names : System → List Word
phase_names system = map (λ phase. phase.name) system.phases

-- Why there is no step behind these: one constructor for each cause, with the status of the run and the text of the refusal.
pub data RefusesStep (db : Database) (job : PathJob) (steps : List StepText) (status : Status) (text : List ℕ) : Type 0 where
  -- the database gives no system
  no_system : (fault : SystemFault) → IsRefused db (job_behind job steps).job fault →
      status ≡ statuses.BadSystem → text ≡ system_line fault → RefusesStep db job steps status text
  -- it gives one, and the liquid is none of its phases
  no_liquid : (system : System) → IsSelected db (job_behind job steps).job system → has_phase system job.liquid ≡ false →
      status ≡ statuses.BadSystem → text ≡ system_line (faults.UnknownPhase job.liquid) → RefusesStep db job steps status text
  -- no constitutions give what is asked, as the numbers show
  infeasible : (system : System) (numbers : List ℤ) → IsSystemOf db (job_behind job steps) system →
      IsProofOfNone system (asked_behind db job steps) numbers → ¬ IsFeasible system (asked_behind db job steps) →
      status ≡ statuses.BadSystem → text ≡ infeasible_line numbers → RefusesStep db job steps status text
  -- a sweep spent the budget, where some do
  left_open : (system : System) (left : Open) → IsSystemOf db (job_behind job steps) system →
      IsOpen system (IsSweep system.phases) (asked_behind db job steps) job.gap job.budget left → IsFeasible system (asked_behind db job steps) →
      status ≡ statuses.GapNotClosed → text ≡ open_text (phase_names system) job.budget left → RefusesStep db job steps status text

-- No step that the path may come to is refused: none behind steps without a finish.
abbrev pub IsNeverRefused : Database → PathJob → Type 0
IsNeverRefused db job =
    (systems : ℕ → System) (steps : List StepText) (status : Status) (text : List ℕ) →
    AreSteps db job systems steps → GoOn (path_start db job) (length steps) steps → ¬ RefusesStep db job steps status text
