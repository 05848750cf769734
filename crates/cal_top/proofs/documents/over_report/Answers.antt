use Rattle.std.proofs.Common.{◌≡◌, ◌≤◌, ℕ, List, length, subst}
use Rattle.cal_limits.specs.declared.TheConstants.{MOST_REPORT_BYTES}
use Rattle.cal_top.specs.declared.texts.ReadText.{ReadText}
use Rattle.cal_top.specs.Texts.{document}
use Rattle.cal_top.specs.Documents.{Checked}
use Rattle.cal_top.specs.Opening.{IsRead}
use Rattle.cal_top.proofs.Replying.{no_text}
use Rattle.cal_top.proofs.documents.over_report.Goals as goal

pub returns-in-Refused : goal.returns-in-Refused
returns-in-Refused c =
    no_text c.args.report.now (Checked c.args.db.now) c.in-Refused.reply (subst (λ (t : ReadText). IsRead c.args.report.now t) c.in-Refused.is c.in_ok-text.ensures)

pub judged-requires-clause-spelled : goal.judged-requires-clause-spelled
judged-requires-clause-spelled c = (subst (λ (t : ReadText). IsRead c.args.report.now t) c.in-Document.is c.in_ok-text.ensures).spelled

pub judged-requires-clause-short : goal.judged-requires-clause-short
judged-requires-clause-short c =
    subst (λ (bytes : List ℕ). length bytes ≤ MOST_REPORT_BYTES) (subst (λ (t : ReadText). IsRead c.args.report.now t) c.in-Document.is c.in_ok-text.ensures).text_is c.requires.limit

pub returns-in_ok-reply-in-Document : goal.returns-in_ok-reply-in-Document
returns-in_ok-reply-in-Document c =
    document c.in-Document.document (subst (λ (t : ReadText). IsRead c.args.report.now t) c.in-Document.is c.in_ok-text.ensures) c.in_ok-reply-in-Document.ensures
