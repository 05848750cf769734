-- Documents: reports and paths, their texts, and the line at which a text is no longer a document's.
use Rattle.std.specs.Prelude.{◌≡◌, ℕ, List, Result, Ok, Err}
use Rattle.cal_scan.specs.Lines.{Line}
use Rattle.cef_report.specs.Spelled.{IsSpelled}
use Rattle.cef_report.specs.Texts.{lines, text}
use Rattle.cef_path.specs.Spelled.{IsSpelledPath}
use Rattle.cef_path.specs.Texts.{path_lines, path_text}
use Rattle.cal_lines.specs.declared.fault.TextFault.{TextFault}
use Rattle.cal_lines.specs.declared.fault.TextFault.TheVariants as faults
use Rattle.cal_lines.specs.Reading.{Stops, lines_of}
use Rattle.path_text.specs.declared.kind.Document.{Document}
use Rattle.path_text.specs.declared.kind.Document.TheVariants as document

abbrev pub document_text : Document → List ℕ
document_text (document.One r) = text r
document_text (document.Path p) = path_text p

abbrev pub document_lines : Document → List Line
document_lines (document.One r) = lines r
document_lines (document.Path p) = path_lines p

-- which documents have a text
abbrev pub IsSpelledDocument : Document → Type 0
IsSpelledDocument (document.One r) = IsSpelled r
IsSpelledDocument (document.Path p) = IsSpelledPath p

-- n - 1 is the greatest number of whole lines at the front of the bytes that are the first lines of some document's text
abbrev pub IsFaultLine : List ℕ → ℕ → Type 0
IsFaultLine bytes n = Stops document_lines IsSpelledDocument 1 (lines_of bytes) n

-- the document is read, unless memory runs out
abbrev pub Reads : Result Document TextFault → Document → Type 0
Reads (Ok found) d = found ≡ d
Reads (Err faults.Memory) d = Unit {0}
Reads (Err (faults.Line n)) d = ⊥

-- bytes are the text of at most one document
abbrev pub OneDocument : Type 0
OneDocument = (bytes : List ℕ) (d e : Document) → IsSpelledDocument d → IsSpelledDocument e → bytes ≡ document_text d → bytes ≡ document_text e → d ≡ e
