-- The table of a document: records of fields with a comma between them and a line feed at their end, and no quotes.
use Rattle.std.specs.Prelude.{ℕ, List, [], ◌∷◌, ◌++◌, codes, slice_index_or}
use Rattle.std.specs.List.{flat_map, join_with_byte}
use Rattle.std.specs.Fmt.{decimal, signed_decimal}
use Rattle.cal_dec.specs.Printed.{fixed_text}
use Rattle.cal_scan.specs.Lines.{Word}
use Rattle.cal_scan.specs.declared.byte.TheConstants.{SPACE, COMMA, LINE_FEED}
use Rattle.cef_report.specs.declared.entry.Entry.{Entry}
use Rattle.cef_report.specs.declared.report.Report.{Report}
use Rattle.cef_report.specs.Texts.{counts_words}
use Rattle.cef_path.specs.declared.step.StepText.{StepText}
use Rattle.path_text.specs.declared.kind.Document.{Document}
use Rattle.path_text.specs.declared.kind.Document.TheVariants as document

abbrev pub Field : Type 0
Field = List ℕ

unfoldable pub row : List Field → List ℕ
row fields = join_with_byte COMMA fields ++ LINE_FEED ∷ []

abbrev pub header : List Field
header = codes "step" ∷ codes "temperature" ∷ codes "phase" ∷ codes "amount" ∷ codes "constitution" ∷ []

-- hundredths of a kelvin as kelvin, with two decimals
unfoldable pub kelvin : ℕ → Field
kelvin t = fixed_text t 2

-- the counts of the sublattices as in the report
unfoldable pub constitution : List (List ℕ) → Field
constitution site = join_with_byte SPACE (counts_words site)

-- step, temperature, phase, amount in nmol of formula units, constitution
abbrev pub entry_fields : ℕ → ℕ → List Word → Entry → List Field
entry_fields number t phases entry =
    decimal number
    ∷ kelvin t
    ∷ slice_index_or phases entry.phase []
    ∷ signed_decimal entry.amount
    ∷ constitution entry.site
    ∷ []

abbrev pub entries_text : ℕ → ℕ → List Word → List Entry → List ℕ
entries_text number t phases entries = flat_map (λ entry. row (entry_fields number t phases entry)) entries

abbrev pub report_text : ℕ → Report → List ℕ
report_text number report = entries_text number report.t report.phases report.entries

abbrev pub step_text : StepText → List ℕ
step_text step = report_text step.number step.report

-- the records of each equilibrium: of a single report as of step 1, of a path by the numbers of its steps
abbrev pub document_rows : Document → List ℕ
document_rows (document.One report) = report_text 1 report
document_rows (document.Path path) = flat_map step_text path.steps

unfoldable pub table_of : Document → List ℕ
table_of d = row header ++ document_rows d
