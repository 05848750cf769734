-- What every order keeps: the ranges of its numbers, and its names.
use Rattle.std.specs.Prelude.{◌≡◌, ℕ, ◌-◌, ◌*◌, ◌≤◌, ◌<◌, List, length, sum, Some, All, true}
use Rattle.cal_limits.specs.declared.TheConstants.{LOWEST_TEMPERATURE, HIGHEST_TEMPERATURE}
use Rattle.cal_limits.specs.declared.TheConstants.{LEAST_NANOMOLES, MOST_NANOMOLES, LEAST_GAP, MOST_GAP, MOST_BUDGET, MOST_ELEMENTS}
use Rattle.cal_scan.specs.Names.{AreNamesWithin}
use Rattle.cal_scan.specs.Words.{is_name}
use Rattle.cef_core.specs.Jobs.{IsJob}
use Rattle.cef_path.specs.declared.limit.TheConstants.{MOST_STEPS, MOST_STOP}
use Rattle.cal_job.specs.declared.order.Order.{Order}
use Rattle.cal_job.specs.declared.order.Order.TheVariants as order
use Rattle.cal_job.specs.declared.request.Request.{Request}
use Rattle.cal_job.specs.declared.request.PathRequest.{PathRequest}

abbrev pub IsBetween : ℕ → ℕ → ℕ → Type 0
IsBetween least most n = (least ≤ n) × (n ≤ most)

-- the amounts of elements: one for each, none of them 0, and together not too little
pub record AreAmounts (elements : List (List ℕ)) (amounts : List ℕ) : Type 0 where
  pub names : AreNamesWithin (Some MOST_ELEMENTS) elements
  pub one_each : length amounts ≡ length elements
  pub each : All (IsBetween 1 MOST_NANOMOLES) amounts
  pub total : LEAST_NANOMOLES ≤ sum amounts

pub record IsRequest (request : Request) : Type 0 where
  pub job : IsJob request.job
  pub amounts : AreAmounts request.job.elements request.amounts
  pub gap : IsBetween LEAST_GAP MOST_GAP request.gap
  pub budget : request.budget ≤ MOST_BUDGET

-- the floor is not above the temperature t, and the steps down to it are not too many:
-- (t - floor) / descent < 10000
pub record IsDescent (t descent floor : ℕ) : Type 0 where
  pub high : floor ≤ t
  pub few : t - floor < MOST_STEPS * descent

pub record IsPathRequest (path : PathRequest) : Type 0 where
  pub request : IsRequest path.request
  pub descent : IsBetween 1 HIGHEST_TEMPERATURE path.descent
  pub floor : IsBetween LOWEST_TEMPERATURE HIGHEST_TEMPERATURE path.floor
  pub steps : IsDescent path.request.job.t path.descent path.floor
  pub stop : path.stop ≤ MOST_STOP
  pub liquid : is_name path.liquid ≡ true

abbrev pub IsOrder : Order → Type 0
IsOrder (order.Equilibrium request) = IsRequest request
IsOrder (order.Scheil path) = IsPathRequest path
IsOrder (order.Check check) = Unit {0}
IsOrder (order.Table table) = Unit {0}
