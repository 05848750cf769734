use Rattle.std.proofs.Common.{rules, ◌≡◌, Option, Some, subst}
use Rattle.cal_job.specs.Saying.{Word, GivesAmounts}
use Rattle.cal_job.proofs.reading.request.Goals as goal

pub returns-in_err-elements-clause-usage : goal.returns-in_err-elements-clause-usage
returns-in_err-elements-clause-usage c = λ e request asks.
    let is : Some c.args.texts.amounts.now ≡ Some c.as_bytes.result.now = search rules in
    let gives = subst (λ (value : Option Word). GivesAmounts value request.job.elements request.amounts) is asks.amounts in
    c.in_err-elements.ensures.usage (search rules) request.job.elements request.amounts asks.range.amounts gives
