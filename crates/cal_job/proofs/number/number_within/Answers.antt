use Rattle.std.proofs.Common.{rules, ◌≡◌, Some}
use Rattle.std.specs.Option.{option_map}
use Rattle.cal_job.specs.Capped.{capped}
use Rattle.cal_job.specs.Forms.{fixed_of, number_of}
use Rattle.cal_job.proofs.Capping.{none_low, none_high, some_within}
use Rattle.cal_job.proofs.number.number_within.Goals as goal

pub returns-then-number-form-clause-usage : goal.returns-then-number-form-clause-usage
unfolding number_of
returns-then-number-form-clause-usage c = λ e.
    let found : Some c.in-Some.number ≡ option_map capped (fixed_of c.args.form.decimals c.args.text.now) = search rules in
    none_low c.args.form _ c.in-Some.number found c.requires.most c.if-number-form.true

pub returns-then-number-form-2-clause-usage : goal.returns-then-number-form-2-clause-usage
unfolding number_of
returns-then-number-form-2-clause-usage c = λ e.
    let found : Some c.in-Some.number ≡ option_map capped (fixed_of c.args.form.decimals c.args.text.now) = search rules in
    none_high c.args.form _ c.in-Some.number found c.if-number-form-2.true

pub returns-else-number-form-2-clause-value : goal.returns-else-number-form-2-clause-value
unfolding number_of
returns-else-number-form-2-clause-value c =
    let found : Some c.in-Some.number ≡ option_map capped (fixed_of c.args.form.decimals c.args.text.now) = search rules in
    some_within c.args.form _ c.in-Some.number found c.requires.most c.if-number-form.false c.if-number-form-2.false
