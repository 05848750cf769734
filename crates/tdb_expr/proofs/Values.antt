-- What a number at the front of a text is read as.
use Rattle.std.proofs.Common.{◌≡◌, ◌↔◌, ℕ, ◌-◌, ◌<◌, ◌≤◌, List, ◌++◌, length, take, Option, Some, None, Result, Ok, Err, Bool, true, false, cond, ◌⊎◌, inl, inr, refl, sym, ap, subst, ◌∙◌, arith}
use Rattle.std.specs.Prelude.{nat_lt, unsigned_abs}
use Rattle.std.specs.Option.{option_map}
use Rattle.std.specs.Str.Parse.{AllDigits}
use Rattle.std.proofs.lemmas.Bool.{cases_lt, and_from, and_left, and_right, lt-ltb, le-ltb}
use Rattle.cal_dec.specs.declared.dec.Dec.{Dec}
use Rattle.cal_dec.specs.declared.reading.DecFault.{DecFault}
use Rattle.cal_dec.specs.declared.reading.DecFault.TheVariants.{NotANumber, TooLong}
use Rattle.cal_dec.specs.Decimals.{Decimal, decimal_of}
use Rattle.cal_dec.specs.Numerals.{Numeral, Spells, IsNumber, value_of}
use Rattle.cal_dec.specs.Scanning.{digits_in, numeral_in, after_number}
use Rattle.cal_dec.specs.Fronts.{IsLongestNumber, HasNoNumber}
use Rattle.cal_dec.proofs.Spelling.{numeral_again, digits_found}
use Rattle.cal_dec.proofs.Longest.{no_number_found, longest_is_found}
use Rattle.tdb_expr.specs.Parts.{Number}
use Rattle.tdb_expr.specs.Reading.{◌>>=◌, Read, is_readable, value_if, value_in, number_up_to, number_at}

pub are_digits : (text digits : List ℕ) → digits ≡ digits_in text → AllDigits 10 digits
are_digits text digits is = subst (AllDigits 10) (sym is) (digits_found text).1

abbrev IsLong : List ℕ → Numeral → Type 0
IsLong w n = (64 < length w) ⊎ (200 < unsigned_abs (value_of n).exponent)

readable : (w : List ℕ) (n : Numeral) → (IsLong w n → ⊥) → is_readable w n ≡ true
readable w n short =
    and_from (nat_lt (length w) 65) (nat_lt (unsigned_abs (value_of n).exponent) 201) (few (length w) (λ h. short (inl h))) (within (unsigned_abs (value_of n).exponent) (λ h. short (inr h)))
  where
    few : (k : ℕ) → (64 < k → ⊥) → nat_lt k 65 ≡ true
    few k h = elim (cases_lt 64 k) [ inl more ↦ absurd (h more) | inr less ↦ lt-ltb _ _ (omega (arith, less)) ]

    within : (k : ℕ) → (200 < k → ⊥) → nat_lt k 201 ≡ true
    within k h = elim (cases_lt 200 k) [ inl more ↦ absurd (h more) | inr less ↦ lt-ltb _ _ (omega (arith, less)) ]

unreadable : (w : List ℕ) (n : Numeral) → IsLong w n → is_readable w n ≡ false
unreadable w n (inl long) = and_left (nat_lt (length w) 65) (nat_lt (unsigned_abs (value_of n).exponent) 201) (le-ltb _ _ (omega (arith, long)))
unreadable w n (inr wide) = and_right (nat_lt (length w) 65) (nat_lt (unsigned_abs (value_of n).exponent) 201) (le-ltb _ _ (omega (arith, wide)))

abbrev ok : Dec → Result Dec DecFault
ok d = Ok d

abbrev err : DecFault → Result Dec DecFault
err e = Err e

pub value_of_ok : (w : List ℕ) (d : Dec) → IsNumber w → ((n : Numeral) → Spells n w → ((ok d ≡ err TooLong) ↔ IsLong w n)) → ((n : Numeral) → Spells n w → decimal_of d ≡ value_of n) → Some (decimal_of d) ≡ value_in w
unfolding value_in
value_of_ok w d number long value =
    let n : Numeral = number.0 in
    let found : numeral_in w ≡ Some n = numeral_again n w number.1 in
    let short : IsLong w n → ⊥ = λ h. let clash : ok d ≡ err TooLong = (long n number.1).1 h in absurd cc in
    rw (found, readable w n short) (ap (λ (x : Decimal). Some x) (value n number.1))

pub none_of_err : (w : List ℕ) (e : DecFault) → IsNumber w → ((err e ≡ err NotANumber) ↔ (IsNumber w → ⊥)) → ((n : Numeral) → Spells n w → ((err e ≡ err TooLong) ↔ IsLong w n)) → None ≡ value_in w
unfolding value_in
none_of_err w NotANumber number none long = absurd (none.0 refl number)
none_of_err w TooLong number none long =
    let n : Numeral = number.0 in
    let found : numeral_in w ≡ Some n = numeral_again n w number.1 in
    rw (found, unreadable w n ((long n number.1).0 refl)) refl

pub no_number : (t : List ℕ) → HasNoNumber t → None ≡ number_at t
unfolding number_at
no_number t none = rw (no_number_found t none) refl

number_opened : (t front rest : List ℕ) → IsLongestNumber t front rest → number_at t ≡ (value_in front >>= λ d. Some (Number d, rest))
unfolding number_at
number_opened t front rest longest =
    let found = longest_is_found t front rest longest in
    rw (found.0, found.1) refl

pub number_unread : (t front rest : List ℕ) (v : Option Dec) → IsLongestNumber t front rest → option_map decimal_of v ≡ value_in front → v ≡ None → None ≡ number_at t
number_unread t front rest v longest is none =
    let nothing : value_in front ≡ None = sym is ∙ ap (option_map decimal_of) none in
    sym (number_opened t front rest longest ∙ ap (λ (o : Option Decimal). o >>= λ d. Some (Number d, rest)) nothing)

pub number_read : (t front rest : List ℕ) (v : Option Dec) (d : Dec) → IsLongestNumber t front rest → option_map decimal_of v ≡ value_in front → v ≡ Some d → Some (Number (decimal_of d), rest) ≡ number_at t
number_read t front rest v d longest is something =
    let found : value_in front ≡ Some (decimal_of d) = sym is ∙ ap (option_map decimal_of) something in
    sym (number_opened t front rest longest ∙ ap (λ (o : Option Decimal). o >>= λ d. Some (Number d, rest)) found)
