use Rattle.std.proofs.Common.{◌≡◌, ◌≤◌, List, ℕ, length, refl, rules, subst, sym}
use Rattle.cal_limits.specs.declared.TheConstants.{MOST_REPORT_BYTES}
use Rattle.path_text.specs.declared.kind.Document.{Document}
use Rattle.path_text.specs.declared.kind.Document.TheVariants as document
use Rattle.path_text.specs.Documents.{document_text, IsSpelledDocument}
use Rattle.cal_check.specs.Documents.{IsFirstFault, MeetsAll, count_of, DocumentHolds}
use Rattle.cal_check.proofs.Judged.{all_kept}
use Rattle.cal_check.proofs.Concluding.{path_meets, path_holds}
use Rattle.cal_check.proofs.Spanning.{report_short, path_short}
use Rattle.cal_check.proofs.judging.check_document.Goals as goal

pub judge_report-found-requires-clause-lines : goal.judge_report-found-requires-clause-lines
judge_report-found-requires-clause-lines c =
    report_short c.in-One.report (subst (λ (d : Document). length (document_text d) ≤ MOST_REPORT_BYTES) c.in-One.is c.requires.short)

pub judge_path-found-requires-clause-short : goal.judge_path-found-requires-clause-short
judge_path-found-requires-clause-short c =
    path_short c.in-Path.path (subst (λ (d : Document). length (document_text d) ≤ MOST_REPORT_BYTES) c.in-Path.is c.requires.short)

pub returns-in-Err-clause-fault : goal.returns-in-Err-clause-fault
returns-in-Err-clause-fault c = subst (λ (d : Document). IsFirstFault c.args.db.now d c.in-Err.fault) (sym c.in-One.is) c.in-Err.ensures.fault

pub returns-in-One-clause-meets : goal.returns-in-One-clause-meets
returns-in-One-clause-meets c =
    let is = c.in-Ok.ensures.right in
    let law = c.some_outcome.ensures in
    let meets : MeetsAll c.args.db.now (document.One c.in-One.report) = record {
      given = λ line lt. (c.in-Ok.field-0, is.given);
      kept = λ line rule. all_kept c.args.db.now 1 c.in-One.report c.in-Ok.field-0 law c.requires.functions is.given is.meets line rule;
    } in
    subst (λ (d : Document). MeetsAll c.args.db.now d × (1 ≡ count_of d)) (sym c.in-One.is) (meets, refl)

pub returns-clause-meets : goal.returns-clause-meets
returns-clause-meets c =
    let is = c.in-Ok-found.ensures.right in
    let path = c.in-Path.path in
    let spelled = subst (λ (d : Document). IsSpelledDocument d) c.in-Path.is c.requires.spelled in
    let meets = path_meets c.args.db.now path c.some_outcome.ensures c.requires.functions spelled is.liquid is.steps is.end in
    let count : c.len.result ≡ length path.steps = search rules in
    subst (λ (d : Document). MeetsAll c.args.db.now d × (c.len.result ≡ count_of d)) (sym c.in-Path.is) (meets, count)

pub returns-clause-holds : goal.returns-clause-holds
returns-clause-holds c =
    let is = c.in-Ok-found.ensures.right in
    let path = c.in-Path.path in
    let spelled = subst (λ (d : Document). IsSpelledDocument d) c.in-Path.is c.requires.spelled in
    subst (λ (d : Document). DocumentHolds c.args.db.now d) (sym c.in-Path.is) (path_holds c.args.db.now path c.some_outcome.ensures c.requires.functions spelled is.liquid is.steps is.end)
