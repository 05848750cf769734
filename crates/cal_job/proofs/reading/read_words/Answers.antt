use Rattle.std.proofs.Common.{rules, sym, ◌∙◌}
use Rattle.std.proofs.lemmas.Bool.{true≢false}
use Rattle.cal_job.proofs.Commands.{keeps, named_read, says_from, says_texts}
use Rattle.cal_job.proofs.reading.read_words.Goals as goal

pub returns-in_err-texts-clause-usage : goal.returns-in_err-texts-clause-usage
returns-in_err-texts-clause-usage c = λ e order says.
    true≢false (sym (named_read _ _ says.names) ∙ c.in_err-texts.ensures.usage (search rules))

pub returns-in_err-order-clause-usage : goal.returns-in_err-order-clause-usage
returns-in_err-order-clause-usage c = λ e order says.
    c.in_err-order.ensures.usage (search rules) order (says_texts _ _ order c.in_ok-texts.ensures.holds says)

pub returns-clause-says : goal.returns-clause-says
returns-clause-says c = says_from _ _ _ c.in_ok-texts.ensures.holds c.in_ok-order.ensures.asks

pub returns-clause-keeps : goal.returns-clause-keeps
returns-clause-keeps c = keeps _ _ (says_from _ _ _ c.in_ok-texts.ensures.holds c.in_ok-order.ensures.asks)
