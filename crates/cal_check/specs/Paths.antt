-- The rules of a path, beside those of its reports, each at its line. Lines are counted from 1.
use Rattle.std.specs.Prelude.{◌≡◌, ℕ, suc, ◌+◌, ◌-◌, ◌<◌, List, [], ◌∷◌, length, slice_get, Some, None, ℤ}
use Rattle.std.specs.List.{flat_map, Any}
use Rattle.cal_math.specs.Vectors.{at}
use Rattle.cef_core.specs.declared.system.System.{System}
use Rattle.cef_report.specs.declared.report.Report.{Report}
use Rattle.cef_report.specs.Texts.{lines}
use Rattle.cef_path.specs.declared.start.PathStart.{PathStart}
use Rattle.cef_path.specs.declared.step.StepText.{StepText}
use Rattle.cef_path.specs.declared.path.PathText.{PathText}
use Rattle.cef_path.specs.Ledgers.{IsLeft}
use Rattle.cef_path.specs.Paths.{HasFinish, solids_of, lost_of}
use Rattle.cef_path.specs.Spelled.{first_step_line}
use Rattle.cef_path.specs.Texts.{lines_of_step}
use Rattle.tdb_read.specs.Database.{Database}
use Rattle.cal_select.specs.Chosen.{Word}
use Rattle.cal_check.specs.Systems.{IsSystemFor, AreSystemsFor}

-- ---- what a path is started with

abbrev pub first_temperature : List StepText → ℕ
first_temperature [] = 0
first_temperature (step ∷ steps) = step.report.t

abbrev pub first_asked : List StepText → List ℤ
first_asked [] = []
first_asked (step ∷ steps) = step.report.asked

-- its heads, with the temperature and what is asked of its first step
abbrev pub start_of : PathText → PathStart
start_of path = record {
  liquid = path.liquid;
  t = first_temperature path.steps;
  descent = path.descent;
  floor = path.floor;
  stop = path.stop;
  asked = first_asked path.steps;
}

-- ---- a step beside others

-- to the first step
abbrev pub OfFirst : (StepText → Type 0) → List StepText → Type 0
OfFirst P steps = (first : StepText) → slice_get steps 0 ≡ Some first → P first

-- to the last one
abbrev pub OfLast : (StepText → Type 0) → List StepText → Type 0
OfLast P steps = (last : StepText) → slice_get steps (length steps - 1) ≡ Some last → P last

-- to the one before the step at place i, where there is one
abbrev pub OfBefore : (StepText → Type 0) → List StepText → ℕ → Type 0
OfBefore P steps i = (before : StepText) (j : ℕ) → suc j ≡ i → slice_get steps j ≡ Some before → P before

-- ---- the head of a path

-- the liquid is a phase of the first report
abbrev pub HasLiquid : PathText → Type 0
HasLiquid path = OfFirst (λ first. Any (λ name. name ≡ path.liquid) first.report.phases) path.steps

abbrev pub liquid_line : ℕ
liquid_line = 2

abbrev pub IsHeadKept : PathText → ℕ → Type 0
IsHeadKept path line = line ≡ liquid_line → HasLiquid path

-- ---- a step

-- steps are counted from 1, and no step follows one with a finish
pub record IsNext (path : PathText) (i : ℕ) (step : StepText) : Type 0 where
  pub number : step.number ≡ i + 1
  pub goes_on : OfBefore (λ before. HasFinish (start_of path) None before) path.steps i

-- one descent below the step before
abbrev pub IsLowered : PathText → ℕ → StepText → Type 0
IsLowered path i step = OfBefore (λ before. step.report.t + path.descent ≡ before.report.t) path.steps i

abbrev pub HasSameLattice : PathText → StepText → Type 0
HasSameLattice path step = OfFirst (λ first. step.report.lattice ≡ first.report.lattice) path.steps

abbrev pub HasSameElements : PathText → StepText → Type 0
HasSameElements path step = OfFirst (λ first. step.report.elements ≡ first.report.elements) path.steps

abbrev pub HasSamePhases : PathText → StepText → Type 0
HasSamePhases path step = OfFirst (λ first. step.report.phases ≡ first.report.phases) path.steps

-- a step asks what the one before left
abbrev pub AsksLeft : PathText → ℕ → StepText → Type 0
AsksLeft path i step = OfBefore (λ before. step.report.asked ≡ before.left) path.steps i

-- what it leaves are the totals of its liquid
abbrev pub Leaves : Database → PathText → StepText → Type 0
Leaves db path step =
    (system : System) → IsSystemFor db step.report system → IsLeft system path.liquid step.report step.left

-- the first line of its report, and the line behind that
abbrev pub report_line : StepText → ℕ
report_line step = step.line + 1

abbrev pub left_line : StepText → ℕ
left_line step = report_line step + length (lines step.report)

-- the rules at the line of its number, and at five lines of the head of its report
pub record IsStepHeadKept (path : PathText) (i : ℕ) (step : StepText) (line : ℕ) : Type 0 where
  pub next : line ≡ step.line → IsNext path i step
  pub temperature : line ≡ report_line step + 1 → IsLowered path i step
  pub lattice : line ≡ report_line step + 2 → HasSameLattice path step
  pub elements : line ≡ report_line step + 3 → HasSameElements path step
  pub phases : line ≡ report_line step + 4 → HasSamePhases path step
  pub asked : line ≡ report_line step + 5 → AsksLeft path i step

abbrev pub IsLeftKept : Database → PathText → StepText → ℕ → Type 0
IsLeftKept db path step line = line ≡ left_line step → Leaves db path step

-- ---- the end

-- the line behind the steps
abbrev pub finish_line : PathText → ℕ
finish_line path = first_step_line + length (flat_map lines_of_step path.steps)

-- the last step has the finish
abbrev pub Finishes : PathText → Type 0
Finishes path = OfLast (λ last. HasFinish (start_of path) (Some path.finish) last) path.steps

-- what became solid in all steps
abbrev pub HasSolids : Database → PathText → Type 0
HasSolids db path =
    (systems : ℕ → System) → AreSystemsFor db systems path.steps →
    (c : ℕ) → c < length (first_asked path.steps) → at path.solids c ≡ solids_of systems (start_of path) path.steps c

-- what the last step left
abbrev pub HasRemains : PathText → Type 0
HasRemains path = OfLast (λ last. path.remains ≡ last.left) path.steps

-- what was asked of all steps and is in none
abbrev pub HasLost : PathText → Type 0
HasLost path = (c : ℕ) → c < length (first_asked path.steps) → at path.lost c ≡ lost_of path.steps c

pub record IsEndKept (db : Database) (path : PathText) (line : ℕ) : Type 0 where
  pub finish : line ≡ finish_line path → Finishes path
  pub solids : line ≡ finish_line path + 1 → HasSolids db path
  pub remains : line ≡ finish_line path + 2 → HasRemains path
  pub lost : line ≡ finish_line path + 3 → HasLost path
