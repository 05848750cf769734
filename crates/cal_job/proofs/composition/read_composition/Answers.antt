use Rattle.std.proofs.Common.{rules, ◌≡◌, map, Some}
use Rattle.cal_job.specs.Forms.{items_of}
use Rattle.cal_job.proofs.Items.{no_composition}
use Rattle.cal_job.proofs.composition.read_composition.Goals as goal

pub returns-in_err-composition-clause-usage : goal.returns-in_err-composition-clause-usage
returns-in_err-composition-clause-usage c = λ e elements amounts are gives.
    let said : items_of c.args.text.now ≡ map (λ item. Some item) c.in_ok-items.items = search rules in
    no_composition c.args.text.now c.in_ok-items.items elements amounts said (rw c.as_slice-2.ensures at (c.in_err-composition.ensures.usage (search rules))) are gives
