use Rattle.std.proofs.Common.{◌≡◌, ◌↔◌, ℕ, ◌≤◌, ◌<◌, [], ◌++◌, length, subst, arith, to_z, of_z}
use Rattle.std.specs.Prelude.{ℤ, pos, ◌-ℤ◌, unsigned_abs, IfSome, IsNone}
use Rattle.std.specs.Int.{w32}
use Rattle.std.specs.Str.Parse.{digits_value}
use Rattle.std.proofs.lemmas.Int.{ints}
use Rattle.cal_dec.specs.Decimals.{decimal_of}
use Rattle.cal_dec.specs.Numerals.{decimal_from}
use Rattle.cal_dec.specs.First.{IsFirst-none}
use Rattle.cal_dec.specs.Digits.{digits_value-small}
use Rattle.cal_dec.proofs.reading.value.Goals as goal

exponent_is : (e : ℤ) (n : ℕ) → unsigned_abs e ≤ 10000 → n ≤ 64 → to_z w32 (of_z w32 (to_z w32 (of_z w32 e) -ℤ to_z w32 n)) ≡ e -ℤ pos n
exponent_is e n bound few = omega (arith, ints)

pub returns-clause-value : goal.returns-clause-value
returns-clause-value c =
    let whole = c.first_digits.ensures.first [] tt (omega arith) IsFirst-none in
    let all = c.first_digits-digits.ensures.first c.args.numeral.now.whole.now c.requires.whole c.requires.few whole in
    let small = digits_value-small c.args.numeral.now.whole.now c.args.numeral.now.fraction.now c.requires.whole c.requires.fraction c.requires.few in
    subst
    (λ (e : ℤ). IfSome c.within_limits.result (λ d. decimal_of d ≡ decimal_from c.args.numeral.now.negative (digits_value 10 (c.args.numeral.now.whole.now ++ c.args.numeral.now.fraction.now)) e))
    (exponent_is c.args.numeral.now.exponent (length c.args.numeral.now.fraction.now) c.requires.exponent (omega arith))
    (c.within_limits.ensures.value _ small all)

pub returns-clause-too_long : goal.returns-clause-too_long
returns-clause-too_long c =
    let whole = c.first_digits.ensures.first [] tt (omega arith) IsFirst-none in
    let all = c.first_digits-digits.ensures.first c.args.numeral.now.whole.now c.requires.whole c.requires.few whole in
    let small = digits_value-small c.args.numeral.now.whole.now c.args.numeral.now.fraction.now c.requires.whole c.requires.fraction c.requires.few in
    subst
    (λ (e : ℤ). IsNone c.within_limits.result ↔ (200 < unsigned_abs (decimal_from c.args.numeral.now.negative (digits_value 10 (c.args.numeral.now.whole.now ++ c.args.numeral.now.fraction.now)) e).exponent))
    (exponent_is c.args.numeral.now.exponent (length c.args.numeral.now.fraction.now) c.requires.exponent (omega arith))
    (c.within_limits.ensures.too_long _ small all)
