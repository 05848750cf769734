-- What the run of a path prints, and how it ends.
use Rattle.std.specs.Prelude.{◌≡◌, ℕ, ◌-◌, ◌<◌, List, [], ◌∷◌, ◌++◌, length, Option, ℤ, ◌+ℤ◌}
use Rattle.std.specs.List.{flat_map}
use Rattle.cal_base.specs.declared.status.Status.{Status}
use Rattle.cal_base.specs.declared.status.Status.TheVariants as statuses
use Rattle.cal_base.specs.Outside.{append_told, AppendsAllBut}
use Rattle.cal_math.specs.Vectors.{at}
use Rattle.cef_core.specs.declared.system.System.{System}
use Rattle.cef_path.specs.declared.path.PathText.{PathText}
use Rattle.cef_path.specs.declared.step.StepText.{StepText}
use Rattle.cef_path.specs.Paths.{GoOn, PathHolds}
use Rattle.cef_path.specs.Texts.{head_text, text_of_step, path_text}
use Rattle.cef_path.specs.Spelled.{IsSpelledPath}
use Rattle.tdb_read.specs.Database.{Database}
use Rattle.cal_scheil.specs.declared.job.PathJob.{PathJob}
use Rattle.path_run.specs.Steps.{first_asked, path_start, AreSteps, RefusesStep}

-- ---- texts

abbrev pub head_of : PathJob → List ℕ
head_of job = head_text job.liquid job.descent job.floor job.stop

-- the head of the path and these steps; nothing before the first step
abbrev pub opened : PathJob → List StepText → List ℕ
opened job [] = []
opened job (step ∷ steps) = head_of job ++ flat_map text_of_step (step ∷ steps)

-- ---- what is printed

-- The text of one path that holds, within the limits of texts, each step an equilibrium of the system that the database gives. Of each
-- element what became solid, what remains and what was lost add to what was asked at first.
pub record PrintsPath (db : Database) (job : PathJob) (printed : List ℕ) : Type 0 where
  pub systems : ℕ → System
  pub path : PathText
  pub are_steps : AreSteps db job systems path.steps
  pub holds : PathHolds systems (path_start db job) path
  pub spelled : IsSpelledPath path
  pub balanced : (c : ℕ) → c < length (first_asked db job) →
      at (first_asked db job) c ≡ (at path.solids c +ℤ at path.remains c) +ℤ at path.lost c
  pub printed_is : printed ≡ path_text path

-- Steps of which none has a finish, and behind them the text of the refusal of the next. Where there is no step it stands alone.
pub record PrintsRefusal (db : Database) (job : PathJob) (status : Status) (printed : List ℕ) : Type 0 where
  pub systems : ℕ → System
  pub steps : List StepText
  pub are_steps : AreSteps db job systems steps
  pub go_on : GoOn (path_start db job) (length steps) steps
  pub refusal : List ℕ
  pub refuses : RefusesStep db job steps status refusal
  pub printed_is : printed ≡ opened job steps ++ refusal

-- Steps of which none before the last has a finish.
pub record PrintsSteps (db : Database) (job : PathJob) (printed : List ℕ) : Type 0 where
  pub systems : ℕ → System
  pub steps : List StepText
  pub are_steps : AreSteps db job systems steps
  pub go_on : GoOn (path_start db job) (length steps - 1) steps
  pub printed_is : printed ≡ opened job steps

-- The whole output of a run, by its status.
pub data PathReplies (db : Database) (job : PathJob) (status : Status) (printed : List ℕ) : Type 0 where
  -- a path
  path : status ≡ statuses.Done → PrintsPath db job printed → PathReplies db job status printed
  -- a step has no answer
  refused : PrintsRefusal db job status printed → PathReplies db job status printed
  -- there was no memory for more than these steps
  steps : status ≡ statuses.Memory → PrintsSteps db job printed → PathReplies db job status printed

-- the run has appended a whole output, or all but the rest of one
pub record PathPrinted (db : Database) (job : PathJob) (status : Status) (old new : Option (List ℕ)) : Type 0 where
  pub printed : List ℕ
  pub why : PathReplies db job status printed
  pub appended : new ≡ append_told old printed

pub record PathPrintedPartly (db : Database) (job : PathJob) (old new : Option (List ℕ)) : Type 0 where
  pub status : Status
  pub printed : List ℕ
  pub rest : List ℕ
  pub why : PathReplies db job status printed
  pub appended : AppendsAllBut rest old new printed
