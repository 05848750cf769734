use Rattle.std.proofs.Common.{◌≡◌, ap, sym, ◌∙◌, refl, arith, rules}
use Rattle.std.specs.Prelude.{ℤ, pos, ◌+ℤ◌, unsigned_abs, FitsSigned}
use Rattle.std.specs.Int.{w64}
use Rattle.std.proofs.lemmas.Int.{ints, to_z-of_z}
use Rattle.cal_dec.specs.Decimals.{Decimal}
use Rattle.cal_dec.specs.Signs.{signed}
use Rattle.cal_dec.specs.First.{decimal_from-zero, decimal_from-first}
use Rattle.cal_dec.proofs.reading.within_limits.Goals as goal

pub returns-then-digits-eq0-clause-value : goal.returns-then-digits-eq0-clause-value
returns-then-digits-eq0-clause-value c = λ number small is.
    sym (decimal_from-zero c.args.negative number c.args.digits.magnitude c.args.digits.dropped c.args.exponent small c.if-digits-eq0.true is)

pub returns-then-digits-eq0-clause-too_long : goal.returns-then-digits-eq0-clause-too_long
returns-then-digits-eq0-clause-too_long c = λ number small is.
    let zero_is = ap (λ (d : Decimal). unsigned_abs d.exponent) (decimal_from-zero c.args.negative number c.args.digits.magnitude c.args.digits.dropped c.args.exponent small c.if-digits-eq0.true is) in
    (λ none. absurd cc, λ large. absurd (omega arith))

pub returns-then-unsigned_abs-gt-WIDEST-clause-too_long : goal.returns-then-unsigned_abs-gt-WIDEST-clause-too_long
returns-then-unsigned_abs-gt-WIDEST-clause-too_long c = λ number small is.
    let first_is = ap (λ (d : Decimal). d.exponent) (decimal_from-first c.args.negative number c.args.digits.magnitude c.args.digits.dropped c.args.exponent c.if-digits-eq0.false is) in
    (λ none. rw first_is (omega (arith, ints, c.unsigned_abs.ensures.value)), λ large. refl)

whole : (d : Decimal) (m n x e : ℤ) → m ≡ n → x ≡ e → d ≡ record { mantissa = n; exponent = e } → record { mantissa = m; exponent = x } ≡ d
whole d m n x e p q h = rw (p, q) (sym h)

pub returns-clause-value : goal.returns-clause-value
returns-clause-value c = λ number small is.
    let fits : FitsSigned w64 c.signed.result = search rules in
    whole _ _ (signed c.args.negative c.args.digits.magnitude) _ (c.args.exponent +ℤ pos c.args.digits.dropped)
    (to_z-of_z w64 c.signed.result fits ∙ c.signed.ensures)
    (omega (arith, ints))
    (decimal_from-first c.args.negative number c.args.digits.magnitude c.args.digits.dropped c.args.exponent c.if-digits-eq0.false is)

pub returns-clause-too_long : goal.returns-clause-too_long
returns-clause-too_long c = λ number small is.
    let first_is = ap (λ (d : Decimal). d.exponent) (decimal_from-first c.args.negative number c.args.digits.magnitude c.args.digits.dropped c.args.exponent c.if-digits-eq0.false is) in
    (λ none. absurd cc, λ large. let high = rw first_is at large in absurd (omega (arith, ints)))
