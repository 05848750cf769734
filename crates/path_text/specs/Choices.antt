-- Reading a document: a report or a path, by the first line.
use Rattle.std.specs.Prelude.{ℕ, ◌+◌, Result, ◌⊎◌, codes}
use Rattle.std.proofs.Common.{inl, inr}
use Rattle.cal_lines.specs.Reading.{Lines, Read, ◌>>=◌, only}
use Rattle.cal_lines.specs.Choosing.{either, begins_with}
use Rattle.cef_path.specs.Spelled.{StandAt}
use Rattle.eq_text.specs.Parsing.{Whole, report_at, fields}
use Rattle.path_text.specs.declared.kind.Document.{Document}
use Rattle.path_text.specs.declared.kind.Document.TheVariants as document
use Rattle.path_text.specs.Parsing.{Path, path_at, path_fields}

-- a path where the first line begins with `path`, and else a report
unfoldable pub document_at : Read (Path ⊎ Whole)
document_at = either (begins_with (codes "path")) path_at report_at

unfoldable pub document_of : Lines → Result (Path ⊎ Whole) ℕ
document_of at = document_at at >>= only

abbrev pub document_fields : Document → Path ⊎ Whole
document_fields (document.One r) = inr (fields r)
document_fields (document.Path p) = inl (path_fields p)

-- the steps of a path whose first line has the number n have the numbers of their lines
abbrev pub StandsFrom : ℕ → Document → Type 0
StandsFrom n (document.One r) = Unit {0}
StandsFrom n (document.Path p) = StandAt (n + 5) p.steps
