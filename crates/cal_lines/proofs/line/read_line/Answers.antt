use Rattle.std.proofs.Common.{map, sym, ◌∙◌, rules}
use Rattle.std.proofs.lemmas.Result.{err_from_is_err_and}
use Rattle.cal_lines.specs.Places.{place}
use Rattle.cal_lines.proofs.OneLine.{line_fails, line_unread, line_read}
use Rattle.cal_lines.proofs.line.read_line.Goals as goal

pub returns-in_err-words-clause-reads : goal.returns-in_err-words-clause-reads
returns-in_err-words-clause-reads g c = λ meaning means.
    let p = err_from_is_err_and c.from_residual.result c.from_residual.ensures.1 in
    rw (p.1, p.2) (line_fails meaning c.in_err-words.field-0.0 (place c.args.at) c.in_err-words.ensures.reads)

pub returns-in_default-clause-reads : goal.returns-in_default-clause-reads
returns-in_default-clause-reads g c = λ meaning means. line_unread meaning (place c.args.at) (place c.in_ok-words.after) (map (λ w. w.now) c.as_slice.result.now) (search rules) (sym c.in_default.is ∙ means _ _ c.in_ok-value.ensures)

pub returns-clause-reads : goal.returns-clause-reads
returns-clause-reads g c = λ meaning means. line_read meaning (place c.args.at) (place c.in_ok-words.after) (map (λ w. w.now) c.as_slice.result.now) c.in-Some.value (search rules) (sym c.in-Some.is ∙ means _ _ c.in_ok-value.ensures)
