-- What the parts of a number say of the text, and that an exponent whose magnitude is capped is in or out of the limits as that of
-- the number is.
use Rattle.std.proofs.Common.{◌≡◌, ◌↔◌, ℕ, zero, suc, ◌+◌, ◌^◌, ◌<◌, ◌≤◌, List, ◌++◌, length, length-append, Option, Some, None, Result, Err, Bool, true, false, ◌⊎◌, inl, inr, refl, sym, ap, subst, ◌∙◌, arith}
use Rattle.std.specs.Prelude.{ℤ, pos, ◌+ℤ◌, ◌-ℤ◌, unsigned_abs, min, IfOk, IfSome, IsNone}
use Rattle.std.specs.Option.{ok_or}
use Rattle.cal_dec.specs.declared.dec.Dec.{Dec}
use Rattle.cal_dec.specs.declared.reading.DecFault.{DecFault}
use Rattle.cal_dec.specs.declared.reading.DecFault.TheVariants.{TooLong}
use Rattle.std.specs.Str.Parse.{AllDigits, digits_value}
use Rattle.std.proofs.lemmas.Int.{ints}
use Rattle.std.proofs.lemmas.Bool.{cases_lt}
use Rattle.cal_dec.specs.Decimals.{Decimal, decimal_of, digits_over}
use Rattle.cal_dec.specs.Signs.{signed}
use Rattle.cal_dec.specs.Numerals.{Power, Numeral, Spells, IsNumber, is_minus, sign_text, digits_behind, fraction_text, power_text, magnitude_of, power_of_ten, decimal_from, value_of}
use Rattle.cal_dec.specs.Scanning.{capped_power, numeral_in, IsFound, decimal_kept}
use Rattle.cal_dec.specs.First.{decimal_from-exponent}
use Rattle.cal_dec.specs.Digits.{digits_value-small}
use Rattle.cal_dec.specs.Trimming.{digits_over-le}
use Rattle.cal_dec.proofs.Spelling.{numeral_found, numeral_again}

pub found_whole : (t : List ℕ) (m : Bool) (b d : List ℕ) (e : ℤ) → IsFound t m b d e → AllDigits 10 b
found_whole t m b d e f = rw f.2.whole (numeral_found t f.0 f.1).parts.whole

pub found_fraction : (t : List ℕ) (m : Bool) (b d : List ℕ) (e : ℤ) → IsFound t m b d e → AllDigits 10 d
found_fraction t m b d e f = rw f.2.fraction (numeral_found t f.0 f.1).parts.fraction

pub found_few : (t : List ℕ) (m : Bool) (b d : List ℕ) (e : ℤ) → IsFound t m b d e → length b + length d ≤ length t
found_few t m b d e f =
    let n : Numeral = f.0 in
    omega (
      arith,
      ap length f.2.whole,
      ap length f.2.fraction,
      ap length (numeral_found t f.0 f.1).text_is,
      length-append (sign_text n.sign) (n.whole ++ (fraction_text n.fraction ++ power_text n.power)),
      length-append n.whole (fraction_text n.fraction ++ power_text n.power),
      length-append (fraction_text n.fraction) (power_text n.power),
      behind n.fraction,
    )
  where
    behind : (o : Option (List ℕ)) → length (digits_behind o) ≤ length (fraction_text o)
    behind None = omega arith
    behind (Some digits) = omega arith

pub found_power : (t : List ℕ) (m : Bool) (b d : List ℕ) (e : ℤ) → IsFound t m b d e → unsigned_abs e ≤ 10000
found_power t m b d e f = rw f.2.exponent (small f.0.power)
  where
    small : (p : Option Power) → unsigned_abs (capped_power p) ≤ 10000
    small None = omega arith
    small (Some p) = by_sign (is_minus p.sign) (digits_value 10 p.digits)
      where
        by_sign : (minus : Bool) (v : ℕ) → unsigned_abs (signed minus (min v 10000)) ≤ 10000
        by_sign true v = omega (arith, ints)
        by_sign false v = omega arith

-- there is no other numeral of this text
pub same_numeral : (t : List ℕ) (n k : Numeral) → numeral_in t ≡ Some n → Spells k t → n ≡ k
same_numeral t n k e spells = let again = numeral_again k t spells in let both : Some n ≡ Some k = sym e ∙ again in cc

record Agrees (read value : Decimal) : Type 0 where
  pub outside : (200 < unsigned_abs read.exponent) → 200 < unsigned_abs value.exponent
  pub within : (unsigned_abs read.exponent ≤ 200) → read ≡ value

same_agrees : (a b : Decimal) → a ≡ b → Agrees a b
same_agrees a b e = record { outside = λ h. subst (λ (d : Decimal). 200 < unsigned_abs d.exponent) e h; within = λ h. e }

capped_agrees : (minus : Bool) (number behind : ℕ) (p : Option Power) → number < 10 ^ 64 → behind ≤ 64
    → Agrees (decimal_from minus number (capped_power p -ℤ pos behind)) (decimal_from minus number (power_of_ten p -ℤ pos behind))
capped_agrees minus number behind None small few = same_agrees _ _ refl
capped_agrees minus number behind (Some p) small few = by_value (digits_value 10 p.digits) (is_minus p.sign) number small
  where
    far : (s : Bool) (v k : ℕ) → 10000 < v → k ≤ 46 → 200 < unsigned_abs ((signed s (min v 10000) -ℤ pos behind) +ℤ pos k)
    far true v k large less = omega (arith, ints)
    far false v k large less = omega (arith, ints)

    farther : (s : Bool) (v k : ℕ) → 10000 < v → k ≤ 46 → 200 < unsigned_abs ((signed s v -ℤ pos behind) +ℤ pos k)
    farther true v k large less = omega (arith, ints)
    farther false v k large less = omega (arith, ints)

    least : (v : ℕ) → v ≤ 10000 → min v 10000 ≡ v
    least v most = omega arith

    by_value : (v : ℕ) (s : Bool) (number : ℕ) → number < 10 ^ 64
        → Agrees (decimal_from minus number (signed s (min v 10000) -ℤ pos behind)) (decimal_from minus number (signed s v -ℤ pos behind))
    by_value v s zero small = same_agrees _ _ refl
    by_value v s (suc number) small =
        elim (cases_lt 10000 v) [
          | inl large ↦
              let over : digits_over (suc number) ≤ 46 = digits_over-le 46 (suc number) small small in
              let read = decimal_from-exponent minus (suc number) (signed s (min v 10000) -ℤ pos behind) (λ z. absurd (omega (arith, z))) in
              let value = decimal_from-exponent minus (suc number) (signed s v -ℤ pos behind) (λ z. absurd (omega (arith, z))) in
              record {
                outside = λ h. rw value (farther s v (digits_over (suc number)) large over);
                within = λ h. absurd (omega (arith, ap unsigned_abs read, far s v (digits_over (suc number)) large over));
              }
          | inr most ↦ same_agrees _ _ (ap (λ w. decimal_from minus (suc number) (signed s w -ℤ pos behind)) (least v most))
        ]

-- ---- the answer

found_agrees : (t : List ℕ) (m : Bool) (b d : List ℕ) (e : ℤ) → IsFound t m b d e → length t ≤ 64 → (n : Numeral) → Spells n t → Agrees (decimal_kept m b d e) (value_of n)
found_agrees t m b d e f few n spells =
    let same : f.0 ≡ n = same_numeral t f.0 n f.1 spells in
    let size = found_few t m b d e f in
    let small : magnitude_of f.0 < 10 ^ 64 =
    digits_value-small f.0.whole (digits_behind f.0.fraction) (numeral_found t f.0 f.1).parts.whole (numeral_found t f.0 f.1).parts.fraction (omega (arith, ap length f.2.whole, ap length f.2.fraction)) in
    let agrees : Agrees (decimal_from (is_minus f.0.sign) (magnitude_of f.0) (capped_power f.0.power -ℤ pos (length (digits_behind f.0.fraction)))) (value_of f.0) =
    capped_agrees (is_minus f.0.sign) (magnitude_of f.0) (length (digits_behind f.0.fraction)) f.0.power small (omega (arith, ap length f.2.whole, ap length f.2.fraction)) in
    subst (λ (n : Numeral). Agrees (decimal_kept m b d e) (value_of n)) same (rw (f.2.negative, f.2.whole, f.2.fraction, f.2.exponent) agrees)

pub record IsSettled (t : List ℕ) (n : Numeral) (r : Result Dec DecFault) : Type 0 where
  pub value : IfOk r (λ d. decimal_of d ≡ value_of n)
  pub too_long : (r ≡ Err TooLong) ↔ ((64 < length t) ⊎ (200 < unsigned_abs (value_of n).exponent))

pub settled : (t : List ℕ) (o : Option Dec) (m : Bool) (b d : List ℕ) (e : ℤ) → IsFound t m b d e → length t ≤ 64
    → IfSome o (λ x. decimal_of x ≡ decimal_kept m b d e) → (IsNone o ↔ (200 < unsigned_abs (decimal_kept m b d e).exponent)) → (n : Numeral) → Spells n t → IsSettled t n (ok_or o TooLong)
settled t None m b d e f few value out n spells =
    let agrees = found_agrees t m b d e f few n spells in
    record { value = tt; too_long = (λ is. inr (agrees.outside (out.0 refl)), λ is. refl) }
settled t (Some x) m b d e f few value out n spells =
    let agrees = found_agrees t m b d e f few n spells in
    let limits : unsigned_abs (decimal_kept m b d e).exponent ≤ 200 =
    elim (cases_lt 200 (unsigned_abs (decimal_kept m b d e).exponent)) [ inl large ↦ absurd (some_none (out.1 large)) | inr small ↦ small ] in
    let same = agrees.within limits in
    record {
      value = value ∙ same;
      too_long = (λ is. absurd cc, λ is. elim is [ inl long ↦ absurd (omega arith) | inr large ↦ absurd (omega (arith, ap (λ (d : Decimal). unsigned_abs d.exponent) same)) ]);
    }
  where
    some_none : IsNone (Some x) → ⊥
    some_none h = absurd cc

pub not_spelled : (t : List ℕ) → numeral_in t ≡ None → IsNumber t → ⊥
not_spelled t none (n, spells) = let again = numeral_again n t spells in absurd cc
