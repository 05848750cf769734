-- The line at which a text is no longer a report's.
use Rattle.std.specs.Prelude.{◌≡◌, ℕ, List, Result, Ok, Err}
use Rattle.cef_report.specs.declared.report.Report.{Report}
use Rattle.cef_report.specs.Texts.{lines}
use Rattle.cef_report.specs.Spelled.{IsSpelled}
use Rattle.cal_lines.specs.declared.fault.TextFault.{TextFault}
use Rattle.cal_lines.specs.declared.fault.TextFault.TheVariants as faults
use Rattle.cal_lines.specs.Reading.{Stops, lines_of}

-- n - 1 is the greatest number of whole lines at the front of the bytes that are the first lines of some report's text
abbrev pub IsFaultLine : List ℕ → ℕ → Type 0
IsFaultLine bytes n = Stops lines IsSpelled 1 (lines_of bytes) n

-- the report is read, unless memory runs out
abbrev pub Reads : Result Report TextFault → Report → Type 0
Reads (Ok found) report = found ≡ report
Reads (Err faults.Memory) report = Unit {0}
Reads (Err (faults.Line n)) report = ⊥
