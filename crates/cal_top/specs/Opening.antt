-- What the bytes of a file come to: a database or a document, or the refusal of its text.
use Rattle.std.specs.Prelude.{◌≡◌, ℕ, List}
use Rattle.cal_words.specs.declared.rules.Rule.{Rule}
use Rattle.cal_base.specs.declared.status.Status.TheVariants.{BadDatabase, Rejected}
use Rattle.tdb_read.specs.Folding.{IsDatabase, IsFault}
use Rattle.eq_cert.specs.declared.rule.CheckRule.TheVariants.{Text}
use Rattle.path_text.specs.declared.kind.Document.{Document}
use Rattle.path_text.specs.Documents.{IsFaultLine}
use Rattle.cal_refusal.specs.Refusals.{database_line}
use Rattle.cal_refusal.specs.Reports.{report_line}
use Rattle.cal_top.specs.declared.reply.Reply.{Reply}
use Rattle.cal_top.specs.declared.texts.Opened.{Opened}
use Rattle.cal_top.specs.declared.texts.Opened.TheVariants as opened
use Rattle.cal_top.specs.declared.texts.ReadText.{ReadText}
use Rattle.cal_top.specs.declared.texts.ReadText.TheVariants as texts
use Rattle.cal_top.specs.Texts.{IsTextOf}

pub record IsBadDatabase (bytes : List ℕ) (reply : Reply) : Type 0 where
  pub line : ℕ
  pub rule : Rule
  pub fault : IsFault bytes line rule
  pub status : reply.status ≡ BadDatabase
  pub text : reply.text.items ≡ database_line line rule

abbrev pub IsOpened : List ℕ → Opened → Type 0
IsOpened bytes (opened.Database db) = IsDatabase bytes db
IsOpened bytes (opened.Refused reply) = IsBadDatabase bytes reply

pub record IsNoDocument (bytes : List ℕ) (reply : Reply) : Type 0 where
  pub line : ℕ
  pub none : (d : Document) → ¬ IsTextOf bytes d
  pub fault : IsFaultLine bytes line
  pub status : reply.status ≡ Rejected
  pub text : reply.text.items ≡ report_line line Text

abbrev pub IsRead : List ℕ → ReadText → Type 0
IsRead bytes (texts.Document d) = IsTextOf bytes d
IsRead bytes (texts.Refused reply) = IsNoDocument bytes reply
