use Rattle.std.proofs.Common.{ap, ◌∙◌, length, arith, rules}
use Rattle.std.specs.Prelude.{FitsSigned}
use Rattle.std.specs.Int.{w32}
use Rattle.std.proofs.lemmas.Int.{to_z-of_z}
use Rattle.cal_dec.specs.Scanning.{after_digits, after_fraction, power_in, capped, digits_in, fraction_in}
use Rattle.cal_dec.specs.Numerals.{digits_behind}
use Rattle.cal_dec.proofs.Spelling.{not_found, no_digits, kept}
use Rattle.cal_dec.proofs.numeral.scan.Goals as goal

pub returns-in_err-exponent : goal.returns-in_err-exponent
returns-in_err-exponent c =
    let rest = c.split_fraction.ensures.rest ∙ ap after_fraction (c.split_digits.ensures.rest ∙ ap after_digits c.split_sign-negative.ensures.rest) in
    rw c.from_residual.ensures (not_found c.args.text.now c.exponent.result (c.exponent.ensures ∙ ap (λ t. capped (power_in t)) rest) c.in_err-exponent.was)

pub returns-then-whole-fraction-eq0 : goal.returns-then-whole-fraction-eq0
returns-then-whole-fraction-eq0 c =
    let whole = c.split_digits.ensures.digits ∙ ap digits_in c.split_sign-negative.ensures.rest in
    let fraction = c.split_fraction.ensures.digits ∙ ap (λ t. digits_behind (fraction_in t)) (c.split_digits.ensures.rest ∙ ap after_digits c.split_sign-negative.ensures.rest) in
    no_digits c.args.text.now (omega (arith, ap length whole, ap length fraction, c.if-whole-fraction-eq0.true))

pub returns : goal.returns
returns c =
    let unsigned = c.split_sign-negative.ensures.rest in
    let behind = c.split_digits.ensures.rest ∙ ap after_digits unsigned in
    let rest = c.split_fraction.ensures.rest ∙ ap after_fraction behind in
    let fits : FitsSigned w32 c.in_ok-exponent.exponent = search rules in
    rw (to_z-of_z w32 c.in_ok-exponent.exponent fits)
    (kept c.args.text.now c.in_ok-exponent.exponent c.exponent.result _ _ _ (c.exponent.ensures ∙ ap (λ t. capped (power_in t)) rest) c.in_ok-exponent.was (omega (arith, c.if-whole-fraction-eq0.false)) c.split_sign-negative.ensures.negative (c.split_digits.ensures.digits ∙ ap digits_in unsigned) (c.split_fraction.ensures.digits ∙ ap (λ t. digits_behind (fraction_in t)) behind))
