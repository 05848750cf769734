-- The steps that a walk made over one database, and that they are those of a path that holds.
use Rattle.std.specs.Prelude.{◌≡◌, ℕ, ◌+◌, ◌-◌, ◌<◌, List, [], ◌∷◌, ◌++◌, length, slice_get, Option, Some, None, ℤ}
use Rattle.cal_math.specs.Vectors.{at}
use Rattle.cef_core.specs.declared.system.System.{System}
use Rattle.cef_path.specs.declared.finish.Finish.{Finish}
use Rattle.cef_path.specs.declared.path.PathText.{PathText}
use Rattle.cef_path.specs.declared.start.PathStart.{PathStart}
use Rattle.cef_path.specs.declared.step.StepText.{StepText}
use Rattle.cef_path.specs.Paths.{asked_at, StepsHold, HasFinish, GoOn, solids_of, lost_of, PathHolds}
use Rattle.temp_fun.specs.Functions.{AreFunctions}
use Rattle.tdb_read.specs.Database.{Database}
use Rattle.cal_select.specs.Chosen.{components_of}
use Rattle.cal_scheil.specs.declared.job.PathJob.{PathJob}
use Rattle.cal_scheil.specs.declared.step.Stepped.{Stepped}
use Rattle.cal_scheil.specs.Accounts.{in_order}
use Rattle.cal_scheil.specs.Walks.{IsPathJob, job_at, start_of, WalkState, walk_of, IsWalk}
use Rattle.cal_scheil.specs.Steps.{IsSelected, Takes}

-- the step with its number, at a line of a text
abbrev pub numbered : ℕ → ℕ → Stepped → StepText
numbered number line step = record { number = number; report = step.report; left = step.left; line = line }

-- at the temperature of each step, this is what the database selects
abbrev pub AreSelected : Database → PathJob → (ℕ → System) → List StepText → Type 0
AreSelected db job systems steps =
    (i : ℕ) (step : StepText) → slice_get steps i ≡ Some step → IsSelected db (job_at job.job step.report.t) (systems step.report.t)

-- what the walk's path is started with: what was asked of each element at first, in the order of the walk's names
abbrev pub start_at : PathJob → WalkState → PathStart
start_at job walk = start_of job walk.account.asked

-- The walk has made these steps: they hold, over what the database selects at their temperatures, none before the last has a finish, and
-- the walk keeps what they make of what was asked.
pub record Walked (db : Database) (job : PathJob) (steps : List StepText) (walk : WalkState) : Type 0 where
  pub same_job : walk.job ≡ job
  pub keeps : IsWalk walk
  pub count : walk.steps ≡ length steps
  pub unmoved : steps ≡ [] → walk ≡ walk_of job
  pub in_system_order : ¬ (steps ≡ []) → walk.account.names ≡ components_of db job.job
  pub asked_first : walk.account.asked ≡ in_order job.job.elements job.asked walk.account.names
  pub selected : (i : ℕ) (step : StepText) → slice_get steps i ≡ Some step → (system : System) × IsSelected db (job_at job.job step.report.t) system
  pub hold : (systems : ℕ → System) → AreSelected db job systems steps → StepsHold systems (start_at job walk) steps
  pub go_on : GoOn (start_at job walk) (length steps - 1) steps
  pub last : (step : StepText) → slice_get steps (length steps - 1) ≡ Some step → HasFinish (start_at job walk) walk.finish step
  pub asks : walk.account.remains ≡ asked_at walk.account.asked steps (length steps)
  pub solids : (systems : ℕ → System) → AreSelected db job systems steps → (c : ℕ) → c < length walk.account.names →
      at walk.account.solids c ≡ solids_of systems (start_at job walk) steps c
  pub lost : (c : ℕ) → c < length walk.account.names → at walk.account.lost c ≡ lost_of steps c

-- ---- the law

-- a walk begins without steps
abbrev pub WalkBegins : Type 0
WalkBegins = (db : Database) (job : PathJob) → IsPathJob job → Walked db job [] (walk_of job)

-- and goes on step by step
abbrev pub WalkGoesOn : Type 0
WalkGoesOn = (db : Database) (job : PathJob) (steps : List StepText) (before after : WalkState) (step : Stepped) (line : ℕ) →
    AreFunctions db.functions → Walked db job steps before → before.finish ≡ None → Takes db before step after → IsWalk after →
    Walked db job (steps ++ numbered (before.steps + 1) line step ∷ []) after

-- there are systems that the database selects at the temperatures of its steps
abbrev pub WalkSelects : Type 0
WalkSelects = (db : Database) (job : PathJob) (steps : List StepText) (walk : WalkState) →
    AreFunctions db.functions → Walked db job steps walk → (systems : ℕ → System) × AreSelected db job systems steps

-- the path of a walk with a finish
abbrev pub path_of : PathJob → List StepText → WalkState → Finish → PathText
path_of job steps walk finish = record {
  liquid = job.liquid;
  descent = job.descent;
  floor = job.floor;
  stop = job.stop;
  steps = steps;
  finish = finish;
  solids = walk.account.solids;
  remains = walk.account.remains;
  lost = walk.account.lost;
}

-- At a finish the path holds, over any systems that the database selects at the temperatures of its steps.
abbrev pub WalkEnds : Type 0
WalkEnds = (db : Database) (job : PathJob) (steps : List StepText) (walk : WalkState) (finish : Finish) (systems : ℕ → System) →
    Walked db job steps walk → walk.finish ≡ Some finish → AreSelected db job systems steps →
    PathHolds systems (start_at job walk) (path_of job steps walk finish)
