-- What the entries of a step hold: of the liquid, and of all other phases.
use Rattle.std.specs.Prelude.{◌≡◌, ℕ, ◌<◌, List, [], length, filter, Bool, not, slice_index_or, ℤ}
use Rattle.cal_math.specs.Vectors.{at}
use Rattle.cal_scan.specs.Words.{same_word}
use Rattle.cal_scan.specs.Lines.{Word}
use Rattle.cef_core.specs.declared.system.System.{System}
use Rattle.cef_report.specs.declared.entry.Entry.{Entry}
use Rattle.cef_report.specs.declared.report.Report.{Report}
use Rattle.cef_report.specs.Assemblages.{total}

-- whether an entry is of the phase of this name
abbrev pub is_of : List Word → Word → Entry → Bool
is_of phases name entry = same_word (slice_index_or phases entry.phase []) name

-- the totals of the entries of the liquid, and of all others
abbrev pub liquid_total : System → Word → Report → ℕ → ℤ
liquid_total system liquid report = total system (filter (λ entry. is_of report.phases liquid entry) report.entries)

abbrev pub solid_total : System → Word → Report → ℕ → ℤ
solid_total system liquid report = total system (filter (λ entry. not (is_of report.phases liquid entry)) report.entries)

-- what a step leaves: for each element the total of the liquid, without rounding
pub record IsLeft (system : System) (liquid : Word) (report : Report) (left : List ℤ) : Type 0 where
  pub one_each : length left ≡ length report.elements
  pub totals_are : (c : ℕ) → c < length left → at left c ≡ liquid_total system liquid report c
