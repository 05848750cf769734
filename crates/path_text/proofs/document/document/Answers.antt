use Rattle.std.proofs.Common.{sym, ◌∙◌}
use Rattle.std.proofs.lemmas.Result.{err_from_is_err_and}
use Rattle.cal_lines.specs.Places.{place}
use Rattle.path_text.proofs.Documents.{path_ok, report_ok, path_fails, report_fails}
use Rattle.path_text.proofs.document.document.Goals as goal

pub returns-in_ok-found-clause-reads : goal.returns-in_ok-found-clause-reads
returns-in_ok-found-clause-reads c = path_ok _ _ _ (sym c.next_begins_with.ensures ∙ c.if-next_begins_with.true) c.in_ok-found.ensures.reads

pub returns-in_ok-found-2-clause-reads : goal.returns-in_ok-found-2-clause-reads
returns-in_ok-found-2-clause-reads c = report_ok _ _ _ (sym c.next_begins_with.ensures ∙ c.if-next_begins_with.false) c.in_ok-found-2.ensures

pub returns-in_err-found-clause-reads : goal.returns-in_err-found-clause-reads
returns-in_err-found-clause-reads c =
    let p = err_from_is_err_and c.from_residual.result c.from_residual.ensures.1 in
    rw (p.1, p.2) (path_fails (place c.args.at) c.in_err-found.field-0.0 (sym c.next_begins_with.ensures ∙ c.if-next_begins_with.true) c.in_err-found.ensures.reads)

pub returns-in_err-found-2-clause-reads : goal.returns-in_err-found-2-clause-reads
returns-in_err-found-2-clause-reads c =
    let p = err_from_is_err_and c.from_residual-in_err-found-2.result c.from_residual-in_err-found-2.ensures.1 in
    rw (p.1, p.2) (report_fails (place c.args.at) c.in_err-found-2.field-0.0 (sym c.next_begins_with.ensures ∙ c.if-next_begins_with.false) c.in_err-found-2.ensures)
