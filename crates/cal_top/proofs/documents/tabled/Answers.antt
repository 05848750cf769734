use Rattle.std.proofs.Common.{◌≡◌, refl, subst}
use Rattle.cal_top.specs.declared.texts.ReadText.{ReadText}
use Rattle.cal_top.specs.Texts.{document}
use Rattle.cal_top.specs.Documents.{Tabled}
use Rattle.cal_top.specs.Opening.{IsRead}
use Rattle.cal_top.proofs.Replying.{no_text}
use Rattle.cal_top.proofs.documents.tabled.Goals as goal

pub returns-in-Refused : goal.returns-in-Refused
returns-in-Refused c =
    no_text c.args.report.now Tabled c.in-Refused.reply (subst (λ (t : ReadText). IsRead c.args.report.now t) c.in-Refused.is c.in_ok-text.ensures)

pub table-requires : goal.table-requires
table-requires c = (subst (λ (t : ReadText). IsRead c.args.report.now t) c.in-Document.is c.in_ok-text.ensures).spelled

pub returns-in_ok-text-in-Document : goal.returns-in_ok-text-in-Document
returns-in_ok-text-in-Document c =
    document c.in-Document.document (subst (λ (t : ReadText). IsRead c.args.report.now t) c.in-Document.is c.in_ok-text.ensures) (record { done = refl; printed_is = c.in_ok-text-in-Document.ensures })
