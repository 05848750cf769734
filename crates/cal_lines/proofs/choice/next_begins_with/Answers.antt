use Rattle.std.proofs.Common.{sym, ◌∙◌}
use Rattle.cal_lines.proofs.Firsts.{none_next, some_next}
use Rattle.cal_lines.proofs.choice.next_begins_with.Goals as goal

pub returns-in-None : goal.returns-in-None
returns-in-None c = none_next c.args.key.now c.args.at.rest.now (sym c.line_end.ensures ∙ c.in-None.is)

pub returns-in-Some : goal.returns-in-Some
returns-in-Some c = some_next c.args.key.now c.args.at.rest.now c.split_at.result.0.now c.first_word.result.now c.in-Some.end c.is_word.result (sym c.line_end.ensures ∙ c.in-Some.is) c.split_at.ensures.front c.first_word.ensures c.is_word.ensures
