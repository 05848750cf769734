-- What is asked of a path, and what a walk down it keeps.
use Rattle.std.specs.Prelude.{◌≡◌, ℕ, ◌+◌, ◌*◌, ◌-◌, ◌<◌, ◌≤◌, List, length, replicate, Option, None, ℤ, pos, ◌≤ℤ◌}
use Rattle.std.specs.List.{AllByRecursion, Any}
use Rattle.cal_limits.specs.declared.TheConstants.{LOWEST_TEMPERATURE, HIGHEST_TEMPERATURE, LEAST_GAP, MOST_GAP}
use Rattle.cal_scan.specs.Lines.{Word}
use Rattle.cef_core.specs.declared.job.Job.{Job}
use Rattle.cef_core.specs.Jobs.{IsJob}
use Rattle.cef_report.specs.Spelled.{IsAsked}
use Rattle.cef_path.specs.declared.limit.TheConstants.{MOST_STEPS, MOST_STOP}
use Rattle.cef_path.specs.declared.finish.Finish.{Finish}
use Rattle.cef_path.specs.declared.start.PathStart.{PathStart}
use Rattle.cef_path.specs.Finishing.{IsNone}
use Rattle.cal_select.specs.Chosen.{is_in}
use Rattle.cal_scheil.specs.declared.account.Account.{Account}
use Rattle.cal_scheil.specs.declared.job.PathJob.{PathJob}
use Rattle.cal_scheil.specs.Accounts.{IsAccount}

-- The limits of what is asked of a path: a number for each element, one of them above 0; fewer than 10000 descents from the first
-- temperature to the lowest one.
pub record IsPathJob (job : PathJob) : Type 0 where
  pub job_is : IsJob job.job
  pub one_each : length job.asked ≡ length job.job.elements
  pub within : AllByRecursion IsAsked job.asked
  pub positive : Any (λ x. pos 1 ≤ℤ x) job.asked
  pub descent_low : 1 ≤ job.descent
  pub descent_high : job.descent ≤ HIGHEST_TEMPERATURE
  pub floor_low : LOWEST_TEMPERATURE ≤ job.floor
  pub floor_high : job.floor ≤ job.job.t
  pub few_steps : job.job.t < job.floor + MOST_STEPS * job.descent
  pub stop_high : job.stop ≤ MOST_STOP
  pub gap_low : LEAST_GAP ≤ job.gap
  pub gap_high : job.gap ≤ MOST_GAP

-- the job at another temperature
abbrev pub job_at : Job → ℕ → Job
job_at job t = record { t = t; lattice = job.lattice; elements = job.elements; phases = job.phases }

abbrev pub path_job_at : PathJob → ℕ → PathJob
path_job_at job t = record {
  job = job_at job.job t;
  asked = job.asked;
  descent = job.descent;
  floor = job.floor;
  stop = job.stop;
  liquid = job.liquid;
  gap = job.gap;
  budget = job.budget;
}

-- what the path is started with, where so much is asked of each element at first
abbrev pub start_of : PathJob → List ℤ → PathStart
start_of job asked = record {
  liquid = job.liquid;
  t = job.job.t;
  descent = job.descent;
  floor = job.floor;
  stop = job.stop;
  asked = asked;
}

-- What was asked of the path; the temperature of the next step, in hundredths of a kelvin; what is kept of each element, in the order
-- of the names; how many steps were made, and the finish of the last.
pub record WalkState : Type 0 where
  pub job : PathJob
  pub t : ℕ
  pub account : Account
  pub steps : ℕ
  pub finish : Option Finish

-- before its first step: the names are those of the job, all that was asked remains
abbrev pub walk_of : PathJob → WalkState
walk_of job = record {
  job = job;
  t = job.job.t;
  account = record {
    names = job.job.elements;
    asked = job.asked;
    solids = replicate (length job.asked) (pos 0);
    remains = job.asked;
    lost = replicate (length job.asked) (pos 0);
  };
  steps = 0;
  finish = None;
}

-- What holds of every walk. While it has no finish it is not below the lowest temperature, and something remains.
pub record IsWalk (walk : WalkState) : Type 0 where
  pub asks : IsPathJob walk.job
  pub temperature : walk.t ≡ walk.job.job.t - walk.steps * walk.job.descent
  pub few_steps : walk.steps ≤ MOST_STEPS
  pub goes_on : walk.finish ≡ None → (walk.job.floor ≤ walk.t) × (walk.steps < MOST_STEPS) × ¬ IsNone walk.account.remains
  pub same_elements : (name : Word) → is_in walk.account.names name ≡ is_in walk.job.job.elements name
  pub account : IsAccount walk.account
