-- When the steps of a path hold, and when a path does.
use Rattle.std.specs.Prelude.{◌≡◌, ℕ, zero, suc, ◌+◌, ◌*◌, ◌-◌, ◌<◌, List, [], length, slice_get, Option, Some, None, ℤ, ◌+ℤ◌, ◌-ℤ◌}
use Rattle.std.specs.Option.{option_map_or}
use Rattle.cal_math.specs.Sums.{sum_of}
use Rattle.cal_math.specs.Vectors.{at}
use Rattle.cef_core.specs.declared.system.System.{System}
use Rattle.cef_report.specs.Holding.{Holds}
use Rattle.cef_report.specs.Spelled.{IsSpelled}
use Rattle.cef_path.specs.declared.start.PathStart.{PathStart}
use Rattle.cef_path.specs.declared.step.StepText.{StepText}
use Rattle.cef_path.specs.declared.path.PathText.{PathText}
use Rattle.cef_path.specs.declared.finish.Finish.{Finish}
use Rattle.cef_path.specs.Finishing.{FinishIs}
use Rattle.cef_path.specs.Ledgers.{IsLeft, solid_total}

-- what is asked of the step at place i, counted from 0: what is asked first, or what the step before left
abbrev pub asked_at : List ℤ → List StepText → ℕ → List ℤ
asked_at asked steps zero = asked
asked_at asked steps (suc i) = option_map_or (λ step. step.left) (slice_get steps i) []

-- The step at place i: it has its number, and its temperature is i descents below the first. Its report holds for the system
-- at that temperature and what is asked of the step, and it leaves the totals of its liquid.
pub record IsStep (systems : ℕ → System) (start : PathStart) (steps : List StepText) (i : ℕ) (step : StepText) : Type 0 where
  pub number : step.number ≡ i + 1
  pub temperature : step.report.t + i * start.descent ≡ start.t
  pub holds : Holds (systems step.report.t) (asked_at start.asked steps i) step.report
  pub left : IsLeft (systems step.report.t) start.liquid step.report step.left
  pub spelled : IsSpelled step.report

-- each step holds
abbrev pub StepsHold : (ℕ → System) → PathStart → List StepText → Type 0
StepsHold systems start steps = (i : ℕ) (step : StepText) → slice_get steps i ≡ Some step → IsStep systems start steps i step

abbrev pub HasFinish : PathStart → Option Finish → StepText → Type 0
HasFinish start finish step = FinishIs start step.report.t step.left finish

-- none of the first n steps has a finish
abbrev pub GoOn : PathStart → ℕ → List StepText → Type 0
GoOn start n steps = (i : ℕ) (step : StepText) → i < n → slice_get steps i ≡ Some step → HasFinish start None step

-- the total of what became solid, and of what was asked less the total of the equilibrium
abbrev pub solids_of : (ℕ → System) → PathStart → List StepText → ℕ → ℤ
solids_of systems start steps c = sum_of (λ step. solid_total (systems step.report.t) start.liquid step.report c) steps

abbrev pub lost_of : List StepText → ℕ → ℤ
lost_of steps c = sum_of (λ step. at step.report.asked c -ℤ at step.report.totals c) steps

-- The path holds: each of its steps does, only the last one has a finish, which is the path's, and the three lists are
-- what became solid, what the last step left and what was lost.
pub record PathHolds (systems : ℕ → System) (start : PathStart) (path : PathText) : Type 0 where
  pub same_liquid : path.liquid ≡ start.liquid
  pub same_descent : path.descent ≡ start.descent
  pub same_floor : path.floor ≡ start.floor
  pub same_stop : path.stop ≡ start.stop
  pub steps_hold : StepsHold systems start path.steps
  pub last : StepText
  pub is_last : slice_get path.steps (length path.steps - 1) ≡ Some last
  pub go_on : GoOn start (length path.steps - 1) path.steps
  pub finish : HasFinish start (Some path.finish) last
  pub components : (length path.solids ≡ length start.asked) × (length path.lost ≡ length start.asked)
  pub solids_are : (c : ℕ) → c < length start.asked → at path.solids c ≡ solids_of systems start path.steps c
  pub remains_are : path.remains ≡ last.left
  pub lost_are : (c : ℕ) → c < length start.asked → at path.lost c ≡ lost_of path.steps c

-- The ledger of a path that holds balances: of each element, asked first = solids + remains + lost.
abbrev pub LedgerBalances : Type 0
LedgerBalances = (systems : ℕ → System) (start : PathStart) (path : PathText) → PathHolds systems start path → (c : ℕ) → c < length start.asked →
    at start.asked c ≡ (at path.solids c +ℤ at path.remains c) +ℤ at path.lost c
