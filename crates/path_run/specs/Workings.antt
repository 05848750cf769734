-- What a run keeps of the steps that it made, and what of them was printed.
use Rattle.std.specs.Prelude.{◌≡◌, ℕ, zero, suc, ◌+◌, ◌<◌, List, [], ◌++◌, length, slice_get, All, Option, Some, None}
use Rattle.std.specs.List.{flat_map}
use Rattle.cal_base.specs.declared.status.Status.{Status}
use Rattle.cal_base.specs.declared.status.Status.TheVariants as statuses
use Rattle.cal_base.specs.Outside.{append_told, AppendsAllBut}
use Rattle.cal_scan.specs.Lines.{Word}
use Rattle.cef_core.specs.declared.system.System.{System}
use Rattle.cef_path.specs.declared.step.StepText.{StepText}
use Rattle.cef_path.specs.Paths.{asked_at}
use Rattle.cef_path.specs.Texts.{lines_of_step, text_of_step}
use Rattle.cef_path.specs.Spelled.{first_step_line, StandAt}
use Rattle.temp_fun.specs.Functions.{AreFunctions}
use Rattle.tdb_read.specs.Database.{Database}
use Rattle.eq_solve.specs.Equilibria.{IsEquilibrium}
use Rattle.cal_scheil.specs.declared.fault.StepFault.{StepFault}
use Rattle.cal_scheil.specs.declared.fault.StepFault.TheVariants.{System as NoSystem, Infeasible, GapNotClosed, Memory}
use Rattle.cal_scheil.specs.declared.job.PathJob.{PathJob}
use Rattle.cal_scheil.specs.declared.step.Stepped.{Stepped}
use Rattle.cal_scheil.specs.Walks.{path_job_at, WalkState, IsWalk}
use Rattle.cal_scheil.specs.Steps.{IsSystemOf, IsSelected, job_of, Takes, IsStepFault}
use Rattle.cal_scheil.specs.Walked.{numbered, Walked}
use Rattle.cal_scheil.specs.Workings.{EachHasOutcome}
use Rattle.cal_refusal.specs.Refusals.{system_line, infeasible_line, open_text}
use Rattle.path_run.specs.Steps.{first_asked, phase_names}
use Rattle.path_run.specs.Outputs.{head_of, opened}

-- the functions of the database have outcomes, so that it gives one system for a job
pub record HasOutcomes (db : Database) : Type 0 where
  pub law : EachHasOutcome
  pub functions : AreFunctions db.functions

-- ---- steps that were made

-- the report of the step at place i is the equilibrium of what the step asks, over a system that the database gives
pub record IsSolved (db : Database) (job : PathJob) (steps : List StepText) (i : ℕ) (step : StepText) : Type 0 where
  pub system : System
  pub system_is : IsSystemOf db (path_job_at job step.report.t) system
  pub equilibrium : IsEquilibrium system (asked_at (first_asked db job) steps i) job.gap job.budget step.report

-- the walk has made these steps, and each stands where it was printed
pub record HasMade (db : Database) (job : PathJob) (steps : List StepText) (walk : WalkState) : Type 0 where
  pub walked : Walked db job steps walk
  pub solved : (i : ℕ) (step : StepText) → slice_get steps i ≡ Some step → IsSolved db job steps i step
  pub stand : StandAt first_step_line steps

-- the line at which the step behind these begins
abbrev pub line_behind : List StepText → ℕ
line_behind steps = first_step_line + length (flat_map lines_of_step steps)

-- ---- and printed

-- what is printed for a step behind so many others: the first stands behind the head
abbrev pub piece : List ℕ → ℕ → StepText → List ℕ
piece head zero step = head ++ text_of_step step
piece head (suc n) step = text_of_step step

-- one more step was made and printed
pub record PrintsStep (db : Database) (head : List ℕ) (before after : WalkState) (old new : Option (List ℕ)) : Type 0 where
  pub step : Stepped
  pub takes : Takes db before step after
  pub keeps : IsWalk after
  pub appended : new ≡ append_told old (piece head before.steps (numbered (before.steps + 1) 0 step))

-- one more step was made, and all but the rest of its text printed
pub record PrintsStepPartly (db : Database) (head : List ℕ) (before after : WalkState) (old new : Option (List ℕ)) : Type 0 where
  pub step : Stepped
  pub takes : Takes db before step after
  pub keeps : IsWalk after
  pub rest : List ℕ
  pub appended : AppendsAllBut rest old new (piece head before.steps (numbered (before.steps + 1) 0 step))

-- all steps of a walk were printed
pub record PrintedSteps (db : Database) (job : PathJob) (walk : WalkState) (old new : Option (List ℕ)) : Type 0 where
  pub steps : List StepText
  pub made : HasMade db job steps walk
  pub appended : new ≡ append_told old (opened job steps)

-- of the text of these steps all but the rest was printed
pub record PrintedStepsPartly (db : Database) (job : PathJob) (walk : WalkState) (old new : Option (List ℕ)) : Type 0 where
  pub steps : List StepText
  pub made : HasMade db job steps walk
  pub rest : List ℕ
  pub appended : AppendsAllBut rest old new (opened job steps)

-- All steps of a walk were printed, none of which has a finish, and there is no step behind them.
pub record IsStopped (db : Database) (job : PathJob) (fault : StepFault) (old new : Option (List ℕ)) : Type 0 where
  pub walk : WalkState
  pub printed : PrintedSteps db job walk old new
  pub unfinished : walk.finish ≡ None
  pub fault_is : IsStepFault db (job_of walk) walk.account fault

-- ---- the text of a refusal

-- these are the names of the phases that the database selects for the job
pub record AreNamesOf (db : Database) (job : PathJob) (names : List Word) : Type 0 where
  pub system : System
  pub selected : IsSelected db job.job system
  pub names_are : names ≡ phase_names system

-- the phases of what is left open are among those with a name
abbrev pub FitsNames : List Word → StepFault → Type 0
FitsNames names (NoSystem fault) = Unit {0}
FitsNames names (Infeasible numbers) = Unit {0}
FitsNames names (GapNotClosed left) = (left.phase < length names) × All (λ entry. entry.phase < length names) left.entries
FitsNames names Memory = Unit {0}

-- the status and the text of a fault, under these names of phases; want of memory has none
abbrev pub HasText : List Word → ℕ → StepFault → Status → List ℕ → Type 0
HasText names budget (NoSystem fault) status text = (status ≡ statuses.BadSystem) × (text ≡ system_line fault)
HasText names budget (Infeasible numbers) status text = (status ≡ statuses.BadSystem) × (text ≡ infeasible_line numbers.items)
HasText names budget (GapNotClosed left) status text = (status ≡ statuses.GapNotClosed) × (text ≡ open_text names budget left)
HasText names budget Memory status text = ⊥

-- a fault was printed, or there was no memory for its text
pub data PrintsFault (names : List Word) (budget : ℕ) (fault : StepFault) (status : Status) (old new : Option (List ℕ)) : Type 0 where
  with_text : (text : List ℕ) → HasText names budget fault status text → new ≡ append_told old text → PrintsFault names budget fault status old new
  without_text : status ≡ statuses.Memory → new ≡ old → PrintsFault names budget fault status old new

-- all but the rest of the text of a fault was printed
pub record PrintsFaultPartly (names : List Word) (budget : ℕ) (fault : StepFault) (old new : Option (List ℕ)) : Type 0 where
  pub status : Status
  pub text : List ℕ
  pub has_text : HasText names budget fault status text
  pub rest : List ℕ
  pub appended : AppendsAllBut rest old new text
