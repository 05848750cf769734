-- What is known of a report and of a step that are right, and what the parts of the judge ask of one another.
use Rattle.std.specs.Prelude.{◌≡◌, ◌≢◌, ℕ, ◌+◌, ◌<◌, ◌≤◌, ◌^◌, ◌⊎◌, List, length, slice_get, Some, None, Option, Result, Ok, Err, ℤ, pos, ◌-ℤ◌, ◌≤ℤ◌, unsigned_abs}
use Rattle.std.specs.List.{AllByRecursion}
use Rattle.cal_limits.specs.declared.TheConstants.{MOST_ELEMENTS}
use Rattle.cal_math.specs.Sums.{sum_of}
use Rattle.cal_math.specs.Vectors.{at}
use Rattle.cef_core.specs.declared.job.Job.{Job}
use Rattle.cef_core.specs.declared.system.System.{System}
use Rattle.cef_core.specs.Systems.{IsSystem}
use Rattle.cef_report.specs.declared.entry.Entry.{Entry}
use Rattle.cef_report.specs.declared.report.Report.{Report}
use Rattle.cef_report.specs.Assemblages.{IsAssemblage, total}
use Rattle.cef_report.specs.Holding.{Holds}
use Rattle.cef_path.specs.declared.step.StepText.{StepText}
use Rattle.cef_path.specs.declared.path.PathText.{PathText}
use Rattle.cef_path.specs.Ledgers.{IsLeft}
use Rattle.cef_path.specs.Paths.{lost_of}
use Rattle.tdb_read.specs.Database.{Database}
use Rattle.cal_select.specs.Chosen.{Word}
use Rattle.cal_select.specs.declared.fault.SystemFault.TheVariants.{Memory as NoMemory}
use Rattle.cal_select.specs.Causes.{Answers}
use Rattle.eq_cert.specs.declared.rule.CheckRule.{CheckRule}
use Rattle.eq_cert.specs.declared.rule.CheckRule.TheVariants.{Path as by_path}
use Rattle.eq_cert.specs.Rules.{MeetsRules}
use Rattle.cal_check.specs.declared.fault.DocumentFault.{DocumentFault}
use Rattle.cal_check.specs.declared.fault.DocumentFault.TheVariants.{Broken, System as BadSystem, Memory}
use Rattle.cal_check.specs.Systems.{IsSystemFor}
use Rattle.cal_check.specs.Paths.{IsNext, IsLowered, HasSameLattice, HasSameElements, HasSamePhases, AsksLeft, Finishes, HasLiquid, HasRemains, finish_line, first_asked, report_line}
use Rattle.cal_check.specs.Faults.{IsFirst}
use Rattle.cal_check.specs.Documents.{IsReportKept, IsReportRefused, IsGiven, IsKeptInStep, IsKeptInPath, IsRefusedInPath, AreGivenInPath}

-- ---- a report

-- there is no system for the job, or no memory
abbrev pub HasNoSystem : Database → Job → DocumentFault → Type 0
HasNoSystem db job (Broken rule line) = ⊥
HasNoSystem db job (BadSystem fault) = (fault ≢ NoMemory) × Answers db job (Err fault)
HasNoSystem db job Memory = Unit {0}

-- the report meets all its rules for its system
pub record IsRightReport (db : Database) (report : Report) (system : System) : Type 0 where
  pub given : IsSystemFor db report system
  pub keeps : IsSystem system
  pub meets : MeetsRules system report
  pub holds : Holds system report.asked report

-- the first fault of a report
abbrev pub IsReportFault : Database → ℕ → Report → DocumentFault → Type 0
IsReportFault db first report fault =
    IsFirst (IsReportKept db first report) (IsReportRefused db first report) (IsGiven db first report) fault

-- ---- a step

-- of the step at the place
abbrev pub AtStep : List StepText → ℕ → (StepText → Type 0) → Type 0
AtStep steps i P = (step : StepText) → slice_get steps i ≡ Some step → P step

-- the rules at five lines of the head of a step's report
pub record HasRightHead (path : PathText) (i : ℕ) (step : StepText) : Type 0 where
  pub temperature : IsLowered path i step
  pub lattice : HasSameLattice path step
  pub elements : HasSameElements path step
  pub phases : HasSamePhases path step
  pub asked : AsksLeft path i step

-- the same, each at its line
pub record KeepsHead (path : PathText) (i : ℕ) (step : StepText) (line : ℕ) : Type 0 where
  pub temperature : line ≡ report_line step + 1 → IsLowered path i step
  pub lattice : line ≡ report_line step + 2 → HasSameLattice path step
  pub elements : line ≡ report_line step + 3 → HasSameElements path step
  pub phases : line ≡ report_line step + 4 → HasSamePhases path step
  pub asked : line ≡ report_line step + 5 → AsksLeft path i step

-- every rule of the step is kept
pub record IsRightStep (db : Database) (path : PathText) (i : ℕ) (step : StepText) : Type 0 where
  pub next : IsNext path i step
  pub system : System
  pub report : IsRightReport db step.report system
  pub head : HasRightHead path i step
  pub left : IsLeft system path.liquid step.report step.left

-- the first fault of a step
abbrev pub IsStepFault : Database → PathText → ℕ → StepText → DocumentFault → Type 0
IsStepFault db path i step fault =
    IsFirst (IsKeptInStep db path i step) (IsReportRefused db (report_line step) step.report) (IsGiven db (report_line step) step.report) fault

abbrev pub AreRightBefore : Database → PathText → ℕ → Type 0
AreRightBefore db path n = (i : ℕ) → i < n → AtStep path.steps i (IsRightStep db path i)

-- ---- numbers

-- what became solid in a step, and what was lost
abbrev pub solid_in : ℕ → StepText → ℤ
solid_in c step = at step.report.totals c -ℤ at step.left c

abbrev pub lost_in : ℕ → StepText → ℤ
lost_in c step = at step.report.asked c -ℤ at step.report.totals c

-- a few numbers, none below 0 or above 2^61
pub record AreModest (numbers : List ℤ) : Type 0 where
  pub few : length numbers ≤ MOST_ELEMENTS
  pub low : (c : ℕ) → pos 0 ≤ℤ at numbers c
  pub high : (c : ℕ) → at numbers c ≤ℤ pos (2 ^ 61)

-- the numbers of a step are such that sums over steps have room
pub record IsModest (step : StepText) : Type 0 where
  pub left : AreModest step.left
  pub solid : (c : ℕ) → unsigned_abs (solid_in c step) ≤ 2 ^ 62
  pub lost : (c : ℕ) → unsigned_abs (lost_in c step) ≤ 2 ^ 62

-- a step whose numbers of a component can be summed
pub record CanSum (c : ℕ) (step : StepText) : Type 0 where
  pub modest : IsModest step
  pub total : c < length step.report.totals
  pub left : c < length step.left
  pub asked : c < length step.report.asked

-- entries of the system whose total of the component has room
pub record CanTotal (system : System) (phases : List Word) (entries : List Entry) (c : ℕ) : Type 0 where
  pub assemblage : IsAssemblage system entries
  pub phase_each : length phases ≡ length system.phases
  pub most : total system entries c ≤ℤ pos (2 ^ 61)

-- ---- the end

abbrev pub HasPlainSolids : PathText → Type 0
HasPlainSolids path = (c : ℕ) → c < length path.solids → at path.solids c ≡ sum_of (solid_in c) path.steps

abbrev pub HasPlainLost : PathText → Type 0
HasPlainLost path = (c : ℕ) → c < length path.lost → at path.lost c ≡ sum_of (lost_in c) path.steps

-- the rules at the four lines of the end, by what the steps print
pub record KeepsEnd (path : PathText) (line : ℕ) : Type 0 where
  pub finish : line ≡ finish_line path → Finishes path
  pub solids : line ≡ finish_line path + 1 → HasPlainSolids path
  pub remains : line ≡ finish_line path + 2 → HasRemains path
  pub lost : line ≡ finish_line path + 3 → HasPlainLost path

-- the first line at which something does not hold, or that it does at each
abbrev pub IsLineVerdict : (ℕ → Type 0) → Option ℕ → Type 0
IsLineVerdict Right None = (line : ℕ) → Right line
IsLineVerdict Right (Some found) = (Right found → ⊥) × ((line : ℕ) → line < found → Right line)

-- a path whose steps are such that its end can be judged
pub record CanEnd (path : PathText) : Type 0 where
  pub some : 0 < length path.steps
  pub asked : AreModest (first_asked path.steps)
  pub modest : AllByRecursion IsModest path.steps
  pub solids : (c : ℕ) → c < length path.solids → AllByRecursion (CanSum c) path.steps
  pub lost : (c : ℕ) → c < length path.lost → AllByRecursion (CanSum c) path.steps

-- ---- the report of a step with the rules on its head

pub record IsRightHeaded (db : Database) (path : PathText) (i : ℕ) (step : StepText) (system : System) : Type 0 where
  pub report : IsRightReport db step.report system
  pub head : (line : ℕ) → KeepsHead path i step line

pub record IsKeptHeaded (db : Database) (path : PathText) (i : ℕ) (step : StepText) (line : ℕ) (rule : CheckRule) : Type 0 where
  pub report : IsReportKept db (report_line step) step.report line rule
  pub head : rule ≡ by_path → KeepsHead path i step line

abbrev pub IsHeadedFault : Database → PathText → ℕ → StepText → DocumentFault → Type 0
IsHeadedFault db path i step fault =
    IsFirst (IsKeptHeaded db path i step) (IsReportRefused db (report_line step) step.report) (IsGiven db (report_line step) step.report) fault

-- the first of what is found of a report and a line of its head that is broken
abbrev pub FollowsHead : Result System DocumentFault → Option ℕ → Result System DocumentFault → Type 0
FollowsHead (Ok system) None result = result ≡ Ok system
FollowsHead (Ok system) (Some line) result = result ≡ Err (Broken by_path line)
FollowsHead (Err (Broken rule line)) None result = result ≡ Err (Broken rule line)
FollowsHead (Err (Broken rule line)) (Some other) result =
    ((other < line) × (result ≡ Err (Broken by_path other))) ⊎ ((line ≤ other) × (result ≡ Err (Broken rule line)))
FollowsHead (Err (BadSystem fault)) head result = result ≡ Err (BadSystem fault)
FollowsHead (Err Memory) head result = result ≡ Err Memory

-- ---- a path

abbrev pub IsPathFault : Database → PathText → DocumentFault → Type 0
IsPathFault db path fault = IsFirst (IsKeptInPath db path) (IsRefusedInPath db path) (AreGivenInPath db path) fault

pub record IsRightPath (db : Database) (path : PathText) : Type 0 where
  pub liquid : HasLiquid path
  pub steps : AreRightBefore db path (length path.steps)
  pub end : (line : ℕ) → KeepsEnd path line
