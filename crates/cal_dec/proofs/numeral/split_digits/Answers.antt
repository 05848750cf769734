use Rattle.std.proofs.Common.{ap, sym, ◌∙◌, take, drop}
use Rattle.cal_dec.specs.Scanning.{digits_in-take, after_digits-drop}
use Rattle.cal_dec.proofs.numeral.split_digits.Goals as goal

pub returns-clause-digits : goal.returns-clause-digits
returns-clause-digits c = c.split_at.ensures.front ∙ ap (λ k. take k c.args.text.now) c.digit_count.ensures.count ∙ sym (digits_in-take c.args.text.now)

pub returns-clause-rest : goal.returns-clause-rest
returns-clause-rest c = c.split_at.ensures.back ∙ ap (λ k. drop k c.args.text.now) c.digit_count.ensures.count ∙ sym (after_digits-drop c.args.text.now)
