use Rattle.std.proofs.Common.{◌≢◌, Err, Some, None, Option, refl, sym, ◌∙◌, arith}
use Rattle.std.specs.Option.{ok_or}
use Rattle.cal_dec.specs.declared.dec.Dec.{Dec}
use Rattle.cal_dec.specs.declared.reading.DecFault.TheVariants.{NotANumber, TooLong}
use Rattle.cal_dec.proofs.Kept.{found_whole, found_fraction, found_few, settled, not_spelled}
use Rattle.cal_dec.proofs.Spelling.{numeral_found}
use Rattle.cal_dec.proofs.reading.read_dec.Goals as goal

pub value-requires-clause-whole : goal.value-requires-clause-whole
value-requires-clause-whole c = found_whole c.args.text.now _ _ _ _ c.in-Some.ensures

pub value-requires-clause-fraction : goal.value-requires-clause-fraction
value-requires-clause-fraction c = found_fraction c.args.text.now _ _ _ _ c.in-Some.ensures

pub value-requires-clause-few : goal.value-requires-clause-few
value-requires-clause-few c = let few = found_few c.args.text.now _ _ _ _ c.in-Some.ensures in omega arith

pub returns-in-None-clause-not_a_number : goal.returns-in-None-clause-not_a_number
returns-in-None-clause-not_a_number c = (λ is. not_spelled c.args.text.now c.in-None.ensures, λ none. refl)

pub returns-in-None-clause-too_long : goal.returns-in-None-clause-too_long
returns-in-None-clause-too_long c = λ n spells. absurd (not_spelled c.args.text.now c.in-None.ensures (n, spells))

pub returns-in-Some-clause-not_a_number : goal.returns-in-Some-clause-not_a_number
returns-in-Some-clause-not_a_number c =
    (λ is. absurd cc, λ none. absurd (none (c.in-Some.ensures.0, numeral_found c.args.text.now c.in-Some.ensures.0 c.in-Some.ensures.1)))

not_number : (o : Option Dec) → ok_or o TooLong ≢ Err NotANumber
not_number None e = absurd cc
not_number (Some x) e = absurd cc

pub returns-in-Some-2-clause-not_a_number : goal.returns-in-Some-2-clause-not_a_number
returns-in-Some-2-clause-not_a_number c =
    (λ is. absurd (not_number c.value.result (sym c.ok_or.ensures.value ∙ is)), λ none. absurd (none (c.in-Some.ensures.0, numeral_found c.args.text.now c.in-Some.ensures.0 c.in-Some.ensures.1)))

pub returns-in-Some-2-clause-too_long : goal.returns-in-Some-2-clause-too_long
returns-in-Some-2-clause-too_long c = λ n spells.
    rw c.ok_or.ensures.value (settled c.args.text.now c.value.result _ _ _ _ c.in-Some.ensures (omega arith) c.value.ensures.value c.value.ensures.too_long n spells).too_long

pub returns-in-Some-2-clause-value : goal.returns-in-Some-2-clause-value
returns-in-Some-2-clause-value c = λ n spells.
    rw c.ok_or.ensures.value (settled c.args.text.now c.value.result _ _ _ _ c.in-Some.ensures (omega arith) c.value.ensures.value c.value.ensures.too_long n spells).value
