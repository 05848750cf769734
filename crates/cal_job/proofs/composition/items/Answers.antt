use Rattle.std.proofs.Common.{rules}
use Rattle.cal_job.proofs.Items.{unsaid}
use Rattle.cal_job.proofs.composition.items.Goals as goal

pub returns-in_err-item-clause-usage : goal.returns-in_err-item-clause-usage
returns-in_err-item-clause-usage c = λ e items said. unsaid (λ w. w.now) c.args.words.now c.words.i _ items c.words-test.true (c.in_err-item.ensures.usage (search rules)) said
