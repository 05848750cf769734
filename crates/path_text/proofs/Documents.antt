-- The reader of documents is exact.
use Rattle.std.proofs.Common.{◌≡◌, ℕ, ◌+◌, Bool, true, false, List, [], ◌∷◌, ◌++◌, ◌⊎◌, inl, inr, Ok, Err, refl, sym, ap, ◌∙◌, subst}
use Rattle.std.specs.Prelude.{codes, IfOk, Result}
use Rattle.std.specs.List.{concat}
use Rattle.cal_scan.specs.Words.{same_word}
use Rattle.cal_scan.specs.Lines.{Word, Line}
use Rattle.cef_report.specs.declared.report.Report.{Report}
use Rattle.cef_report.specs.Texts.{lines, text}
use Rattle.cal_lines.specs.declared.fault.TextFault.{TextFault}
use Rattle.cal_lines.specs.declared.fault.TextFault.TheVariants as faults
use Rattle.cal_lines.specs.Reading.{Fails, Lines, ◌>>=◌, Gives, OnLine, Stops, lines_of}
use Rattle.cal_lines.specs.Choosing.{either, begins_with, next_passes}
use Rattle.cal_lines.proofs.Algebra.{Exact, ExactWhole, exact_whole, ok_is}
use Rattle.cal_lines.proofs.Choices.{Begins, either_lines, EitherFits, exact_either}
use Rattle.cal_lines.proofs.Firsts.{line-begins, pair-begins}
use Rattle.cal_lines.proofs.Lines.{IsWord}
use Rattle.cal_lines.proofs.Parts.{NeedsLine, either_first, either_second, both-needs, of_line-needs}
use Rattle.cal_lines.proofs.Sorts.{plain_from}
use Rattle.cal_lines.proofs.Wholes as wholes
use Rattle.cal_lines.proofs.Wholes.{Seen}
use Rattle.eq_text.specs.Kinds.{two_words_of}
use Rattle.eq_text.specs.Parsing.{Whole, report_at, fields}
use Rattle.eq_text.proofs.Sayings.{AnyUnit, two_fixed, natural_words}
use Rattle.eq_text.proofs.Reports.{one_line, temperature_lines, IsAtTemperature, whole_lines, IsWhole, exact_report, report_from, seen as report_seen}
use Rattle.cef_path.specs.declared.path.PathText.{PathText}
use Rattle.cef_path.specs.Spelled.{StandAt, first_step_line}
use Rattle.path_text.specs.declared.kind.Document.{Document}
use Rattle.path_text.specs.declared.kind.Document.TheVariants as document
use Rattle.path_text.specs.Parsing.{Head, Path, path_at, path_fields}
use Rattle.path_text.specs.Documents.{document_lines, document_text, IsSpelledDocument, Reads, IsFaultLine, OneDocument}
use Rattle.path_text.specs.Choices.{document_at, document_of, document_fields, StandsFrom}
use Rattle.path_text.proofs.Joins.{path_joined}
use Rattle.path_text.proofs.Sayings.{word_after}
use Rattle.path_text.proofs.Paths.{steps_spelled, path_spelled, PathFits, exact_path}
use Rattle.path_text.proofs.Records.{path_from, path_there, path_back, path_stands, path_spells, to_fits, from_fits}

fixed_begins : (first second : Word) (answer : Bool) → IsWord first → IsWord second → same_word first (codes "path") ≡ answer → Begins (one_line (two_fixed first second)) AnyUnit (begins_with (codes "path")) answer
fixed_begins first second answer a b same = line-begins (two_fixed first second) AnyUnit (codes "path") first (λ u. second ∷ []) answer (λ u fits. refl) (λ u fits. (a, b)) same

path_begins : Begins path_spelled PathFits (begins_with (codes "path")) true
path_begins p fits =
    let b = fixed_begins (codes "path") (codes "1") true (plain_from (codes "path") refl) (plain_from (codes "1") refl) (unfold same_word in refl) p.0.0 fits.0.0 in
    (b.0, b.1 ++ rest p, ap (λ (ls : List Line). ls ++ rest p) b.2, b.3)
  where
    behind_head : Head → List Line
    behind_head h = one_line (word_after (codes "liquid")) h.1.0 ++ (one_line (natural_words (codes "descent")) h.1.1.0 ++ (one_line (natural_words (codes "floor")) h.1.1.1.0 ++ one_line (natural_words (codes "stop")) h.1.1.1.1))

    rest : Path → List Line
    rest q = behind_head q.0 ++ steps_spelled q.1

report_begins : Begins whole_lines IsWhole (begins_with (codes "path")) false
report_begins = pair-begins (one_line (two_fixed (codes "equilibrium") (codes "1"))) AnyUnit (λ u. temperature_lines) (λ u. IsAtTemperature) (begins_with (codes "path")) false
    (fixed_begins (codes "equilibrium") (codes "1") false (plain_from (codes "equilibrium") refl) (plain_from (codes "1") refl) (unfold same_word in refl))

abbrev DocumentFits : Path ⊎ Whole → Type 0
DocumentFits x = EitherFits PathFits IsWhole x

abbrev document_spelled : Path ⊎ Whole → List Line
document_spelled x = either_lines path_spelled whole_lines x

exact_document : Exact document_spelled DocumentFits document_at
unfolding document_at
exact_document = exact_either (begins_with (codes "path")) path_spelled PathFits path_at whole_lines IsWhole report_at exact_path exact_report path_begins report_begins

exact_all : ExactWhole document_spelled DocumentFits document_of
unfolding document_of
exact_all = exact_whole document_spelled DocumentFits document_at exact_document

document_from : Path ⊎ Whole → Document
document_from (inl p) = document.Path (path_from p)
document_from (inr w) = document.One (report_from w)

there : (y : Path ⊎ Whole) → document_fields (document_from y) ≡ y
unfolding document_from
there (inl p) = ap (λ (x : Path). inl x) (path_there p)
there (inr w) = ap (λ (x : Whole). inr x) (report_seen.view_back w)

spells : (d : Document) → document_lines d ≡ document_spelled (document_fields d)
spells (document.One r) = report_seen.spells r
spells (document.Path p) = path_spells p

to : (d : Document) → IsSpelledDocument d → DocumentFits (document_fields d)
to (document.One r) fits = report_seen.to_view r fits
to (document.Path p) fits = to_fits p fits

from : (d : Document) → StandsFrom 1 d → DocumentFits (document_fields d) → IsSpelledDocument d
from (document.One r) stands fits = report_seen.from_view r fits
from (document.Path p) stands fits = from_fits p fits stands

stands_of : (d : Document) → IsSpelledDocument d → StandsFrom 1 d
stands_of (document.One r) fits = tt
stands_of (document.Path p) fits = fits.stand

from_stands : (y : Path ⊎ Whole) → StandsFrom 1 (document_from y)
unfolding document_from
from_stands (inl p) = path_stands p
from_stands (inr w) = tt

text_lines : (d : Document) → concat (document_lines d) ≡ document_text d
unfolding text
text_lines (document.One r) = refl
text_lines (document.Path p) = path_joined p

reports : Path ⊎ Whole → Report → Report
reports (inl p) r = r
reports (inr w) r = report_from w

paths : Path ⊎ Whole → PathText → PathText
paths (inl p) q = path_from p
paths (inr w) q = q

-- documents with the same fields are the same
same_document : (d e : Document) → StandsFrom 1 d → StandsFrom 1 e → document_fields d ≡ document_fields e → d ≡ e
unfolding reports paths
same_document (document.One r) (document.One s) dr ds h = ap document.One (sym (report_seen.back_view r) ∙ ap (λ (y : Path ⊎ Whole). reports y r) h ∙ report_seen.back_view s)
same_document (document.One r) (document.Path q) dr dq h = absurd cc
same_document (document.Path p) (document.One s) dp ds h = absurd cc
same_document (document.Path p) (document.Path q) dp dq h = ap document.Path (sym (path_back p dp) ∙ ap (λ (y : Path ⊎ Whole). paths y p) h ∙ path_back q dq)

-- ---- the three clauses

as_read : Seen (λ (y : Path ⊎ Whole). y) (λ (y : Path ⊎ Whole). y) document_spelled DocumentFits document_spelled DocumentFits
as_read = record { view_back = λ y. refl; back_view = λ y. refl; spells = λ y. refl; to_view = λ y fits. fits; from_view = λ y fits. fits }

-- what was returned, as the fields of its lines
abbrev in_fields : Result Document TextFault → Result (Path ⊎ Whole) TextFault
in_fields (Ok d) = Ok (document_fields d)
in_fields (Err e) = Err e

given_fields : (o : Result Document TextFault) (r : Result (Path ⊎ Whole) ℕ) → Gives document_fields o r → Gives (λ (y : Path ⊎ Whole). y) (in_fields o) r
given_fields (Ok d) r given = given
given_fields (Err e) r given = given

pub is_found : (bytes : List ℕ) (o : Result Document TextFault) → Gives document_fields o (document_of (1, lines_of bytes)) → IfOk o (λ d. StandsFrom 1 d) → IfOk o (λ d. IsSpelledDocument d × (bytes ≡ document_text d))
is_found bytes (Err e) given stands = tt
is_found bytes (Ok d) given stands =
    let f = wholes.is_found (λ (y : Path ⊎ Whole). y) (λ (y : Path ⊎ Whole). y) document_spelled DocumentFits document_spelled DocumentFits document_of as_read exact_all bytes (Ok (document_fields d)) given in
    (from d stands f.0, f.1 ∙ ap concat (sym (spells d)) ∙ text_lines d)

pub is_only : (bytes : List ℕ) (o : Result Document TextFault) → Gives document_fields o (document_of (1, lines_of bytes)) → IfOk o (λ d. StandsFrom 1 d) → (d : Document) → IsSpelledDocument d → bytes ≡ document_text d → Reads o d
is_only bytes o given stands d fits e =
    by_result o stands (wholes.is_only (λ (y : Path ⊎ Whole). y) (λ (y : Path ⊎ Whole). y) document_spelled DocumentFits document_spelled DocumentFits document_of as_read exact_all bytes (in_fields o) (given_fields o (document_of (1, lines_of bytes)) given) (document_fields d) (to d fits) (e ∙ sym (text_lines d) ∙ ap concat (spells d)))
  where
    by_result : (o : Result Document TextFault) → IfOk o (λ d. StandsFrom 1 d) → Gives (λ (y : Path ⊎ Whole). y) (in_fields o) (Ok (document_fields d)) → Reads o d
    by_result (Ok f) stands h = same_document f d stands (stands_of d fits) (sym (ok_is (document_fields d) (document_fields f) h))
    by_result (Err faults.Memory) stands h = tt
    by_result (Err (faults.Line n)) stands h = absurd cc

pub is_fault : (bytes : List ℕ) (o : Result Document TextFault) → Gives document_fields o (document_of (1, lines_of bytes)) → OnLine o (λ n. IsFaultLine bytes n)
is_fault bytes (Ok d) given = tt
is_fault bytes (Err faults.Memory) given = tt
is_fault bytes (Err (faults.Line n)) given =
    let s = exact_all.stops 1 (lines_of bytes) n given in
    let y : Path ⊎ Whole = s.goes.0 in
    let fits : DocumentFits (document_fields (document_from y)) = subst DocumentFits (sym (there y)) s.goes.1 in
    record {
      front = s.front;
      rest = s.rest;
      cut = s.cut;
      count = s.count;
      goes = (document_from y, from (document_from y) (from_stands y) fits, s.goes.2, spells (document_from y) ∙ ap document_spelled (there y) ∙ s.goes.3);
      ends = λ longer others more d cut fits spelled. s.ends longer others more (document_fields d) cut (to d fits) (sym (spells d) ∙ spelled);
    }

-- the document that the lines give, where they give one
one_by : (bytes : List ℕ) (r : Result (Path ⊎ Whole) ℕ) → r ≡ document_of (1, lines_of bytes) → (d e : Document) → IsSpelledDocument d → IsSpelledDocument e
    → bytes ≡ document_text d → bytes ≡ document_text e → d ≡ e
one_by bytes (Ok y) same d e fits_d fits_e text_d text_e =
    let found : Gives document_fields (Ok (document_from y)) (document_of (1, lines_of bytes)) = sym same ∙ ap (λ (z : Path ⊎ Whole). Ok z) (sym (there y)) in
    sym (is_only bytes (Ok (document_from y)) found (from_stands y) d fits_d text_d) ∙ is_only bytes (Ok (document_from y)) found (from_stands y) e fits_e text_e
one_by bytes (Err n) same d e fits_d fits_e text_d text_e =
    let fault : Gives document_fields (Err (faults.Line n)) (document_of (1, lines_of bytes)) = sym same in
    absurd (is_only bytes (Err (faults.Line n)) fault tt d fits_d text_d)

pub one_document : OneDocument
one_document bytes d e fits_d fits_e text_d text_e = one_by bytes (document_of (1, lines_of bytes)) refl d e fits_d fits_e text_d text_e

-- ---- the two ways

pub report_needs : NeedsLine report_at
unfolding report_at
report_needs = both-needs _ _ _ (of_line-needs (two_words_of (codes "equilibrium") (codes "1")))

pub path_ok : (at after : Lines) (p : Path) → next_passes (begins_with (codes "path")) at.1 ≡ true → path_at at ≡ Ok (p, after) → document_at at ≡ Ok (inl p, after)
unfolding document_at
path_ok at after p is e = either_first (begins_with (codes "path")) path_at report_at at is ∙ rw e refl

pub report_ok : (at after : Lines) (w : Whole) → next_passes (begins_with (codes "path")) at.1 ≡ false → report_at at ≡ Ok (w, after) → document_at at ≡ Ok (inr w, after)
unfolding document_at
report_ok at after w is e = either_second (begins_with (codes "path")) path_at report_at at report_needs is ∙ rw e refl

pub path_fails : (at : Lines) (fault : TextFault) → next_passes (begins_with (codes "path")) at.1 ≡ true → Fails fault (path_at at) → Fails fault (document_at at)
unfolding document_at
path_fails at faults.Memory is e = tt
path_fails at (faults.Line n) is e = either_first (begins_with (codes "path")) path_at report_at at is ∙ rw e refl

pub report_fails : (at : Lines) (fault : TextFault) → next_passes (begins_with (codes "path")) at.1 ≡ false → Fails fault (report_at at) → Fails fault (document_at at)
unfolding document_at
report_fails at faults.Memory is e = tt
report_fails at (faults.Line n) is e = either_second (begins_with (codes "path")) path_at report_at at report_needs is ∙ rw e refl
