use Rattle.std.proofs.Common.{sym, ◌∙◌}
use Rattle.cal_lines.proofs.Firsts.{only_word, word_before}
use Rattle.cal_lines.proofs.choice.first_word.Goals as goal

pub returns-in-None : goal.returns-in-None
returns-in-None c = only_word c.args.line.now (sym c.space_in.ensures ∙ c.in-None.is)

pub returns-in-Some : goal.returns-in-Some
returns-in-Some c = rw c.split_at.ensures.front (word_before c.in-Some.end c.args.line.now (sym c.space_in.ensures ∙ c.in-Some.is))
