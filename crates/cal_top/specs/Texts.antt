-- Replies over the bytes of a database, and over those of a document: one constructor for each cause.
use Rattle.std.specs.Prelude.{◌≡◌, ℕ, List}
use Rattle.cal_words.specs.declared.rules.Rule.{Rule}
use Rattle.cal_base.specs.declared.status.Status.{Status}
use Rattle.cal_base.specs.declared.status.Status.TheVariants.{BadDatabase, Rejected}
use Rattle.tdb_read.specs.Database.{Database}
use Rattle.tdb_read.specs.Folding.{IsDatabase, IsFault}
use Rattle.eq_cert.specs.declared.rule.CheckRule.TheVariants.{Text}
use Rattle.path_text.specs.declared.kind.Document.{Document}
use Rattle.path_text.specs.Documents.{document_text, IsSpelledDocument, IsFaultLine}
use Rattle.cal_refusal.specs.Refusals.{database_line}
use Rattle.cal_refusal.specs.Reports.{report_line}

-- that this status and this text are the reply
abbrev pub Replying : Type 1
Replying = Status → List ℕ → Type 0

-- The reply over the bytes of a database.
pub data OverDatabase (bytes : List ℕ) (over : Database → Replying) (status : Status) (printed : List ℕ) : Type 0 where
  -- the text has a first fault
  bad_database : (line : ℕ) (rule : Rule) → IsFault bytes line rule → status ≡ BadDatabase → printed ≡ database_line line rule →
      OverDatabase bytes over status printed
  -- it has none, and this is its database
  database : (db : Database) → IsDatabase bytes db → over db status printed → OverDatabase bytes over status printed

-- the bytes are the text of the document
pub record IsTextOf (bytes : List ℕ) (document : Document) : Type 0 where
  pub spelled : IsSpelledDocument document
  pub text_is : bytes ≡ document_text document

-- The reply over the bytes of a document.
pub data OverDocument (bytes : List ℕ) (over : Document → Replying) (status : Status) (printed : List ℕ) : Type 0 where
  -- they are the text of none, and this is the first line at which they go wrong
  no_document : (line : ℕ) → ((d : Document) → ¬ IsTextOf bytes d) → IsFaultLine bytes line → status ≡ Rejected → printed ≡ report_line line Text →
      OverDocument bytes over status printed
  -- they are the text of this one
  document : (d : Document) → IsTextOf bytes d → over d status printed → OverDocument bytes over status printed
