-- The rules of a document over a database, and when a document holds.
use Rattle.std.specs.Prelude.{◌≡◌, ℕ, ◌+◌, ◌<◌, length, slice_get, Some}
use Rattle.cef_core.specs.declared.system.System.{System}
use Rattle.cef_report.specs.declared.report.Report.{Report}
use Rattle.cef_report.specs.Holding.{Holds}
use Rattle.cef_path.specs.declared.step.StepText.{StepText}
use Rattle.cef_path.specs.declared.path.PathText.{PathText}
use Rattle.cef_path.specs.Paths.{PathHolds}
use Rattle.tdb_read.specs.Database.{Database}
use Rattle.cal_select.specs.declared.fault.SystemFault.{SystemFault}
use Rattle.eq_cert.specs.declared.rule.CheckRule.{CheckRule}
use Rattle.eq_cert.specs.declared.rule.CheckRule.TheVariants.{Path as by_path}
use Rattle.eq_cert.specs.Rules.{Keeps}
use Rattle.path_text.specs.declared.kind.Document.{Document}
use Rattle.path_text.specs.declared.kind.Document.TheVariants as document
use Rattle.cal_check.specs.declared.fault.DocumentFault.{DocumentFault}
use Rattle.cal_check.specs.Systems.{IsSystemFor, HasSystem, IsRefusedFor, AreSystemsFor}
use Rattle.cal_check.specs.Paths.{start_of, report_line, IsHeadKept, IsStepHeadKept, IsLeftKept, IsEndKept}
use Rattle.cal_check.specs.Faults.{IsFirst}

-- ---- a report

-- the rule is kept at the line of the document, where the report's first line has this number
abbrev pub IsReportKept : Database → ℕ → Report → ℕ → CheckRule → Type 0
IsReportKept db first report line rule =
    (k : ℕ) (system : System) → line ≡ first + k → IsSystemFor db report system → Keeps system report k rule

-- a report without a system is refused at its first line
pub record IsReportRefused (db : Database) (first : ℕ) (report : Report) (line : ℕ) (fault : SystemFault) : Type 0 where
  pub here : line ≡ first
  pub refused : IsRefusedFor db report fault

-- it has a system, if it begins in front of the line
abbrev pub IsGiven : Database → ℕ → Report → ℕ → Type 0
IsGiven db first report line = first < line → HasSystem db report

-- ---- a path

pub record IsKeptInStep (db : Database) (path : PathText) (i : ℕ) (step : StepText) (line : ℕ) (rule : CheckRule) : Type 0 where
  pub report : IsReportKept db (report_line step) step.report line rule
  pub head : rule ≡ by_path → IsStepHeadKept path i step line
  pub left : rule ≡ by_path → IsLeftKept db path step line

pub record IsKeptInPath (db : Database) (path : PathText) (line : ℕ) (rule : CheckRule) : Type 0 where
  pub head : rule ≡ by_path → IsHeadKept path line
  pub steps : (i : ℕ) (step : StepText) → slice_get path.steps i ≡ Some step → IsKeptInStep db path i step line rule
  pub end : rule ≡ by_path → IsEndKept db path line

-- the report of a step is refused
pub record IsRefusedInPath (db : Database) (path : PathText) (line : ℕ) (fault : SystemFault) : Type 0 where
  pub i : ℕ
  pub step : StepText
  pub is_step : slice_get path.steps i ≡ Some step
  pub refused : IsReportRefused db (report_line step) step.report line fault

abbrev pub AreGivenInPath : Database → PathText → ℕ → Type 0
AreGivenInPath db path line =
    (i : ℕ) (step : StepText) → slice_get path.steps i ≡ Some step → IsGiven db (report_line step) step.report line

-- ---- a document

abbrev pub IsKept : Database → Document → ℕ → CheckRule → Type 0
IsKept db (document.One report) line rule = IsReportKept db 1 report line rule
IsKept db (document.Path path) line rule = IsKeptInPath db path line rule

abbrev pub IsRefused : Database → Document → ℕ → SystemFault → Type 0
IsRefused db (document.One report) line fault = IsReportRefused db 1 report line fault
IsRefused db (document.Path path) line fault = IsRefusedInPath db path line fault

-- each report that begins in front of the line has a system
abbrev pub AreGiven : Database → Document → ℕ → Type 0
AreGiven db (document.One report) line = IsGiven db 1 report line
AreGiven db (document.Path path) line = AreGivenInPath db path line

-- every report has a system, and every rule is kept at every line
pub record MeetsAll (db : Database) (d : Document) : Type 0 where
  pub given : (line : ℕ) → AreGiven db d line
  pub kept : (line : ℕ) (rule : CheckRule) → IsKept db d line rule

-- The first line at which a rule is broken, and the rule; or the cause why a report has no system, where that comes first.
abbrev pub IsFirstFault : Database → Document → DocumentFault → Type 0
IsFirstFault db d fault = IsFirst (IsKept db d) (IsRefused db d) (AreGiven db d) fault

-- how many reports there are
abbrev pub count_of : Document → ℕ
count_of (document.One report) = 1
count_of (document.Path path) = length path.steps

-- The report holds for its system; the path holds, over the system of each of its steps.
abbrev pub DocumentHolds : Database → Document → Type 0
DocumentHolds db (document.One report) = (system : System) × IsSystemFor db report system × Holds system report.asked report
DocumentHolds db (document.Path path) =
    (systems : ℕ → System) × AreSystemsFor db systems path.steps × PathHolds systems (start_of path) path
