-- What is found spells the text, and the parts of a spelled text are found again.
use Rattle.std.proofs.Common.{◌≡◌, ℕ, suc, ◌+◌, ◌<◌, List, [], ◌∷◌, ◌++◌, length, Option, Some, None, Bool, true, false, cond, eqb, refl, sym, ap, subst, ◌∙◌, arith}
use Rattle.std.specs.Prelude.{◌==◌, nat_lt, not, ℤ}
use Rattle.std.specs.Char.{is_ascii_digit, digit_value}
use Rattle.std.specs.Str.Parse.{AllDigits}
use Rattle.std.specs.List.{list_all}
use Rattle.std.proofs.lemmas.Bool.Decides.{nat_tests}
use Rattle.std.proofs.lemmas.Bool.{and_parts, and_from, eqb-true, lt-ltb, le-ltb, ltb-true}
use Rattle.cal_dec.specs.Numerals.{Sign, Absent, Plus, Minus, is_minus, sign_text, Power, Numeral, digits_behind, fraction_text, power_text, IsPower, Spells}
use Rattle.cal_dec.specs.Scanning.{sign_in, after_sign, digits_in, after_digits, fraction_in, after_fraction, some_digits, power_if, power_in, numeral_if, numeral_in, capped, capped_power, IsKept}

-- ---- bytes

pub digit-value : (b : ℕ) → is_ascii_digit b ≡ true → digit_value b < 10
digit-value b h = grind (arith, nat_tests)

pub value-digit : (b : ℕ) → digit_value b < 10 → is_ascii_digit b ≡ true
value-digit b h = grind (arith, nat_tests)

pub digit-no_plus : (b : ℕ) → is_ascii_digit b ≡ true → eqb b 43 ≡ false
digit-no_plus b h = grind (arith, nat_tests)

pub digit-no_minus : (b : ℕ) → is_ascii_digit b ≡ true → eqb b 45 ≡ false
digit-no_minus b h = grind (arith, nat_tests)

abbrev pub NoSign : List ℕ → Type 0
NoSign [] = Unit {0}
NoSign (b ∷ bs) = (eqb b 43 ≡ false) × (eqb b 45 ≡ false)

abbrev pub NoDigit : List ℕ → Type 0
NoDigit [] = Unit {0}
NoDigit (b ∷ bs) = is_ascii_digit b ≡ false

abbrev NoPoint : List ℕ → Type 0
NoPoint [] = Unit {0}
NoPoint (b ∷ bs) = eqb b 46 ≡ false

-- ---- the sign

pub sign_found : (t : List ℕ) → t ≡ sign_text (sign_in t) ++ after_sign t
unfolding sign_in after_sign
sign_found [] = refl
sign_found (b ∷ bs) = by_tests (eqb b 43) (eqb b 45) refl refl
  where
    by_tests : (v w : Bool) → eqb b 43 ≡ v → eqb b 45 ≡ w → b ∷ bs ≡ sign_text (cond v Plus (cond w Minus Absent)) ++ cond v bs (cond w bs (b ∷ bs))
    by_tests true w e f = ap (λ c. c ∷ bs) (eqb-true _ _ e)
    by_tests false true e f = ap (λ c. c ∷ bs) (eqb-true _ _ f)
    by_tests false false e f = refl

pub sign_again : (s : Sign) (r : List ℕ) → NoSign r → (sign_in (sign_text s ++ r) ≡ s) × (after_sign (sign_text s ++ r) ≡ r)
unfolding sign_in after_sign
sign_again Absent [] clear = (refl, refl)
sign_again Absent (b ∷ bs) clear = (rw (clear.0, clear.1) refl, rw (clear.0, clear.1) refl)
sign_again Plus r clear = (refl, refl)
sign_again Minus r clear = (refl, refl)

-- ---- digits

pub digits_found : (t : List ℕ) → (t ≡ digits_in t ++ after_digits t) × AllDigits 10 (digits_in t)
unfolding digits_in after_digits
digits_found [] = (refl, tt)
digits_found (b ∷ bs) = by_test (is_ascii_digit b) refl (digits_found bs)
  where
    by_test : (v : Bool) → is_ascii_digit b ≡ v → (bs ≡ digits_in bs ++ after_digits bs) × AllDigits 10 (digits_in bs)
        → (b ∷ bs ≡ cond v (b ∷ digits_in bs) [] ++ cond v (after_digits bs) (b ∷ bs)) × AllDigits 10 (cond v (b ∷ digits_in bs) [])
    by_test true is ih = (ap (λ t. b ∷ t) ih.0, (digit-value b is, ih.1))
    by_test false is ih = (refl, tt)

pub digits_again : (ds r : List ℕ) → AllDigits 10 ds → NoDigit r → (digits_in (ds ++ r) ≡ ds) × (after_digits (ds ++ r) ≡ r)
unfolding digits_in after_digits
digits_again [] [] all clear = (refl, refl)
digits_again [] (b ∷ bs) all clear = (rw clear refl, rw clear refl)
digits_again (d ∷ ds) r all clear =
    let ih = digits_again ds r all.1 clear in
    let is : is_ascii_digit d ≡ true = value-digit d all.0 in
    (rw is (ap (λ t. d ∷ t) ih.0), rw is ih.1)

-- ---- the point

pub fraction_found : (t : List ℕ) → (t ≡ fraction_text (fraction_in t) ++ after_fraction t) × AllDigits 10 (digits_behind (fraction_in t))
unfolding fraction_in after_fraction
fraction_found [] = (refl, tt)
fraction_found (b ∷ bs) = by_test (eqb b 46) refl
  where
    by_test : (v : Bool) → eqb b 46 ≡ v → (b ∷ bs ≡ fraction_text (cond v (Some (digits_in bs)) None) ++ cond v (after_digits bs) (b ∷ bs)) × AllDigits 10 (digits_behind (cond v (Some (digits_in bs)) None))
    by_test true is = (ap (λ c. c ∷ bs) (eqb-true _ _ is) ∙ ap (λ t. 46 ∷ t) (digits_found bs).0, (digits_found bs).1)
    by_test false is = (refl, tt)

fraction_again : (o : Option (List ℕ)) (r : List ℕ) → AllDigits 10 (digits_behind o) → NoDigit r → NoPoint r → (fraction_in (fraction_text o ++ r) ≡ o) × (after_fraction (fraction_text o ++ r) ≡ r)
unfolding fraction_in after_fraction
fraction_again None [] all clear point = (refl, refl)
fraction_again None (b ∷ bs) all clear point = (rw point refl, rw point refl)
fraction_again (Some ds) r all clear point = (ap (λ t. Some t) (digits_again ds r all clear).0, (digits_again ds r all clear).1)

-- ---- E and what stands behind it

pub all_digits-test : (ds : List ℕ) → list_all is_ascii_digit ds ≡ true → AllDigits 10 ds
all_digits-test [] h = tt
all_digits-test (d ∷ ds) h = let p = and_parts (is_ascii_digit d) (list_all is_ascii_digit ds) h in (digit-value d p.0, all_digits-test ds p.1)

test-all_digits : (ds : List ℕ) → AllDigits 10 ds → list_all is_ascii_digit ds ≡ true
test-all_digits [] h = refl
test-all_digits (d ∷ ds) h = and_from (is_ascii_digit d) (list_all is_ascii_digit ds) (value-digit d h.0) (test-all_digits ds h.1)

pub some_digits-test : (ds : List ℕ) → some_digits ds ≡ true → (0 < length ds) × AllDigits 10 ds
some_digits-test [] h = absurd cc
some_digits-test (d ∷ ds) h = (omega arith, all_digits-test (d ∷ ds) (and_parts (not (length (d ∷ ds) == 0)) (list_all is_ascii_digit (d ∷ ds)) h).1)

test-some_digits : (ds : List ℕ) → 0 < length ds → AllDigits 10 ds → some_digits ds ≡ true
test-some_digits [] some all = absurd (omega arith)
test-some_digits (d ∷ ds) some all = and_from (not (length (d ∷ ds) == 0)) (list_all is_ascii_digit (d ∷ ds)) (filled (length ds)) (test-all_digits (d ∷ ds) all)
  where
    filled : (n : ℕ) → not (suc n == 0) ≡ true
    filled n = grind (arith, nat_tests)

power_found : (t : List ℕ) (p : Option Power) → power_in t ≡ Some p → (t ≡ power_text p) × IsPower p
unfolding power_in
power_found [] p e =
    let is : None ≡ p = cc in
    subst (λ (p : Option Power). ([] ≡ power_text p) × IsPower p) is (refl, tt)
power_found (b ∷ bs) p e = by_tests (eqb b 69) (some_digits (after_sign bs)) refl refl e
  where
    by_tests : (v w : Bool) → eqb b 69 ≡ v → some_digits (after_sign bs) ≡ w → cond v (power_if w (sign_in bs) (after_sign bs)) None ≡ Some p → (b ∷ bs ≡ power_text p) × IsPower p
    by_tests true true is some e =
        let found : Option Power = Some (record { sign = sign_in bs; digits = after_sign bs }) in
        let same : found ≡ p = cc in
        subst (λ (p : Option Power). (b ∷ bs ≡ power_text p) × IsPower p) same (ap (λ c. c ∷ bs) (eqb-true _ _ is) ∙ ap (λ t. 69 ∷ t) (sign_found bs), some_digits-test (after_sign bs) some)
    by_tests true false is some e = absurd cc
    by_tests false w is some e = absurd cc

pub no_sign-digits : (ds : List ℕ) → AllDigits 10 ds → NoSign ds
no_sign-digits [] all = tt
no_sign-digits (d ∷ ds) all = (digit-no_plus d (value-digit d all.0), digit-no_minus d (value-digit d all.0))

power_again : (p : Option Power) → IsPower p → power_in (power_text p) ≡ Some p
unfolding power_in
power_again None is = refl
power_again (Some p) is =
    let s = sign_again p.sign p.digits (no_sign-digits p.digits is.1) in
    rw (s.0, s.1, test-some_digits p.digits is.0 is.1) refl

-- ---- the whole

no_sign-front : (ds r : List ℕ) → AllDigits 10 ds → NoSign r → NoSign (ds ++ r)
no_sign-front [] r all clear = clear
no_sign-front (d ∷ ds) r all clear = (digit-no_plus d (value-digit d all.0), digit-no_minus d (value-digit d all.0))

no_sign-fraction : (f : Option (List ℕ)) (p : Option Power) → NoSign (fraction_text f ++ power_text p)
no_sign-fraction None None = tt
no_sign-fraction None (Some p) = (refl, refl)
no_sign-fraction (Some ds) p = (refl, refl)

no_digit-fraction : (f : Option (List ℕ)) (p : Option Power) → NoDigit (fraction_text f ++ power_text p)
no_digit-fraction None None = tt
no_digit-fraction None (Some p) = refl
no_digit-fraction (Some ds) p = refl

no_digit-power : (p : Option Power) → NoDigit (power_text p)
no_digit-power None = tt
no_digit-power (Some p) = refl

no_point-power : (p : Option Power) → NoPoint (power_text p)
no_point-power None = tt
no_point-power (Some p) = refl

pub numeral_again : (n : Numeral) (t : List ℕ) → Spells n t → numeral_in t ≡ Some n
unfolding numeral_in
numeral_again n t spells =
    let f = fraction_again n.fraction (power_text n.power) spells.parts.fraction (no_digit-power n.power) (no_point-power n.power) in
    let d = digits_again n.whole (fraction_text n.fraction ++ power_text n.power) spells.parts.whole (no_digit-fraction n.fraction n.power) in
    let s = sign_again n.sign (n.whole ++ (fraction_text n.fraction ++ power_text n.power)) (no_sign-front n.whole _ spells.parts.whole (no_sign-fraction n.fraction n.power)) in
    let p = power_again n.power spells.parts.power in
    let some : nat_lt 0 (length n.whole + length (digits_behind n.fraction)) ≡ true = lt-ltb _ _ spells.parts.some in
    rw (spells.text_is, s.0, s.1, d.0, d.1, f.0, f.1, p, some) refl

pub numeral_found : (t : List ℕ) (n : Numeral) → numeral_in t ≡ Some n → Spells n t
unfolding numeral_in
numeral_found t n e = by_power (power_in (after_fraction rest)) refl e
  where
    rest : List ℕ
    rest = after_digits (after_sign t)

    text_is : (p : Option Power) → after_fraction rest ≡ power_text p → t ≡ sign_text (sign_in t) ++ (digits_in (after_sign t) ++ (fraction_text (fraction_in rest) ++ power_text p))
    text_is p e =
        sign_found t ∙ ap (λ r. sign_text (sign_in t) ++ r) ((digits_found (after_sign t)).0 ∙ ap (λ r. digits_in (after_sign t) ++ r) ((fraction_found rest).0 ∙ ap (λ r. fraction_text (fraction_in rest) ++ r) e))

    by_some : (p : Option Power) (v : Bool) → nat_lt 0 (length (digits_in (after_sign t)) + length (digits_behind (fraction_in rest))) ≡ v → after_fraction rest ≡ power_text p → IsPower p
        → cond v (Some (record { sign = sign_in t; whole = digits_in (after_sign t); fraction = fraction_in rest; power = p })) None ≡ Some n → Spells n t
    by_some p true some text is e =
        let found : Numeral = record { sign = sign_in t; whole = digits_in (after_sign t); fraction = fraction_in rest; power = p } in
        let same : found ≡ n = cc in
        subst (λ (n : Numeral). Spells n t) same (record {
          parts = record { whole = (digits_found (after_sign t)).1; fraction = (fraction_found rest).1; some = ltb-true _ _ some; power = is };
          text_is = text_is p text;
        })
    by_some p false some text is e = absurd cc

    by_power : (q : Option (Option Power)) → power_in (after_fraction rest) ≡ q → numeral_if (sign_in t) (digits_in (after_sign t)) (fraction_in rest) q ≡ Some n → Spells n t
    by_power None is e = absurd cc
    by_power (Some p) is e =
        let found = power_found (after_fraction rest) p is in
        by_some p (nat_lt 0 (length (digits_in (after_sign t)) + length (digits_behind (fraction_in rest)))) refl found.0 found.1 e

-- ---- what the code finds of it

pub not_found : (t : List ℕ) (e : Option ℤ) → e ≡ capped (power_in (after_fraction (after_digits (after_sign t)))) → e ≡ None → numeral_in t ≡ None
unfolding numeral_in
not_found t e is none = by_power (power_in (after_fraction (after_digits (after_sign t)))) refl (sym none ∙ is)
  where
    by_power : (q : Option (Option Power)) → power_in (after_fraction (after_digits (after_sign t))) ≡ q → None ≡ capped (power_in (after_fraction (after_digits (after_sign t)))) → numeral_in t ≡ None
    by_power None q e = rw q refl
    by_power (Some p) q e = let other : None ≡ capped (Some p) = e ∙ ap capped q in absurd cc

pub no_digits : (t : List ℕ) → length (digits_in (after_sign t)) + length (digits_behind (fraction_in (after_digits (after_sign t)))) ≡ 0 → numeral_in t ≡ None
unfolding numeral_in
no_digits t none = by_power (power_in (after_fraction (after_digits (after_sign t))))
  where
    off : nat_lt 0 (length (digits_in (after_sign t)) + length (digits_behind (fraction_in (after_digits (after_sign t))))) ≡ false
    off = le-ltb _ _ (omega arith)

    by_power : (q : Option (Option Power)) → numeral_if (sign_in t) (digits_in (after_sign t)) (fraction_in (after_digits (after_sign t))) q ≡ None
    by_power None = refl
    by_power (Some p) = rw off refl

pub kept : (t : List ℕ) (e : ℤ) (o : Option ℤ) (minus : Bool) (before behind : List ℕ) → o ≡ capped (power_in (after_fraction (after_digits (after_sign t)))) → o ≡ Some e
    → 0 < length before + length behind → minus ≡ is_minus (sign_in t) → before ≡ digits_in (after_sign t) → behind ≡ digits_behind (fraction_in (after_digits (after_sign t)))
    → (n : Numeral) × (numeral_in t ≡ Some n) × IsKept n minus before behind e
unfolding numeral_in
kept t e o minus before behind is some filled m b d = by_power (power_in (after_fraction rest)) refl (sym some ∙ is)
  where
    rest : List ℕ
    rest = after_digits (after_sign t)

    on : nat_lt 0 (length (digits_in (after_sign t)) + length (digits_behind (fraction_in rest))) ≡ true
    on = lt-ltb _ _ (omega (arith, ap length b, ap length d))

    by_power : (q : Option (Option Power)) → power_in (after_fraction rest) ≡ q → Some e ≡ capped (power_in (after_fraction rest)) → (n : Numeral) × (numeral_in t ≡ Some n) × IsKept n minus before behind e
    by_power None q same = let other : Some e ≡ capped None = same ∙ ap capped q in absurd cc
    by_power (Some p) q same =
        let equal : Some e ≡ Some (capped_power p) = same ∙ ap capped q in
        (record { sign = sign_in t; whole = digits_in (after_sign t); fraction = fraction_in rest; power = p }, rw (q, on) refl, record { negative = m; whole = b; fraction = d; exponent = cc })
