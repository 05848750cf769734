-- What is found at the front of a text is a number, and no longer front of it is one.
use Rattle.std.proofs.Common.{◌≡◌, ℕ, suc, ◌+◌, ◌-◌, ◌<◌, ◌≤◌, List, [], ◌∷◌, ◌++◌, length, take, drop, length-append, append_assoc, Option, Some, None, Bool, true, false, cond, eqb, refl, sym, ap, subst, ◌∙◌, arith}
use Rattle.std.specs.Prelude.{IfSome}
use Rattle.std.specs.Char.{is_ascii_digit}
use Rattle.std.specs.Option.{option_map}
use Rattle.std.specs.Str.Parse.{AllDigits}
use Rattle.std.proofs.lemmas.Bool.{eqb-true}
use Rattle.std.proofs.lemmas.Bool.Decides.{nat_tests}
use Rattle.std.proofs.Math.Seq.{take-append_seam, drop-append_seam}
use Rattle.cal_dec.specs.Numerals.{Sign, sign_text, Power, Numeral, digits_behind, fraction_text, power_text, numeral_text, IsPower, IsNumeral, Spells, IsNumber}
use Rattle.cal_dec.specs.Scanning.{sign_in, after_sign, digits_in, after_digits, fraction_in, after_fraction, behind_power, after_power, rest_if, after_number}
use Rattle.cal_dec.specs.Fronts.{IsLongestNumber, HasNoNumber}
use Rattle.cal_dec.proofs.Spelling.{NoSign, NoDigit, sign_found, sign_again, digits_found, digits_again, fraction_found, no_sign-digits, digit-value, value-digit, digit-no_plus, digit-no_minus}

-- ---- what is found

record Exponent (t : List ℕ) : Type 0 where
  pub power : Option Power
  pub parts : t ≡ power_text power ++ after_power t
  pub fine : IsPower power

exponent_found : (t : List ℕ) → Exponent t
unfolding after_power
exponent_found [] = record { power = None; parts = refl; fine = tt }
exponent_found (b ∷ bs) = by_test (eqb b 69) refl
  where
    by_digits : (ds : List ℕ) → digits_in (after_sign bs) ≡ ds → AllDigits 10 ds → eqb b 69 ≡ true
        → (p : Option Power) × (b ∷ bs ≡ power_text p ++ behind_power (b ∷ bs) ds (after_digits (after_sign bs))) × IsPower p
    by_digits [] e all is = (None, refl, tt)
    by_digits (d ∷ ds) e all is =
        let behind : after_sign bs ≡ (d ∷ ds) ++ after_digits (after_sign bs) = (digits_found (after_sign bs)).0 ∙ ap (λ (x : List ℕ). x ++ after_digits (after_sign bs)) e in
        let whole : bs ≡ (sign_text (sign_in bs) ++ (d ∷ ds)) ++ after_digits (after_sign bs) =
        sign_found bs ∙ ap (λ (x : List ℕ). sign_text (sign_in bs) ++ x) behind ∙ sym (append_assoc (sign_text (sign_in bs)) (d ∷ ds) (after_digits (after_sign bs))) in
        (Some (record { sign = sign_in bs; digits = d ∷ ds }), ap (λ c. c ∷ bs) (eqb-true _ _ is) ∙ ap (λ (x : List ℕ). 69 ∷ x) whole, (omega arith, all))

    by_test : (v : Bool) → eqb b 69 ≡ v → Exponent (b ∷ bs)
    by_test true is =
        let found = by_digits (digits_in (after_sign bs)) refl (digits_found (after_sign bs)).1 is in
        record { power = found.0; parts = rw is found.1; fine = found.2 }
    by_test false is = record { power = None; parts = rw is refl; fine = tt }

pub record Front (t r : List ℕ) : Type 0 where
  pub numeral : Numeral
  pub parts : t ≡ numeral_text numeral ++ r
  pub fine : IsNumeral numeral

five : (a b c d r : List ℕ) → (a ++ (b ++ (c ++ d))) ++ r ≡ a ++ (b ++ (c ++ (d ++ r)))
five a b c d r = append_assoc a (b ++ (c ++ d)) r ∙ ap (λ (x : List ℕ). a ++ x) (append_assoc b (c ++ d) r ∙ ap (λ (x : List ℕ). b ++ x) (append_assoc c d r))

pub front_found : (t r : List ℕ) → after_number t ≡ Some r → Front t r
unfolding after_number
front_found t r e = by_digits (digits_in (after_sign t)) refl (digits_behind (fraction_in rest)) refl e
  where
    rest : List ℕ
    rest = after_digits (after_sign t)

    power : Exponent (after_fraction rest)
    power = exponent_found (after_fraction rest)

    parts : (r : List ℕ) → after_power (after_fraction rest) ≡ r → t ≡ (sign_text (sign_in t) ++ (digits_in (after_sign t) ++ (fraction_text (fraction_in rest) ++ power_text power.power))) ++ r
    parts r e =
        sign_found t ∙ ap (λ (x : List ℕ). sign_text (sign_in t) ++ x) ((digits_found (after_sign t)).0 ∙ ap (λ (x : List ℕ). digits_in (after_sign t) ++ x) ((fraction_found rest).0 ∙ ap (λ (x : List ℕ). fraction_text (fraction_in rest) ++ x) (power.parts ∙ ap (λ (x : List ℕ). power_text power.power ++ x) e)))
        ∙ sym (five (sign_text (sign_in t)) (digits_in (after_sign t)) (fraction_text (fraction_in rest)) (power_text power.power) r)

    front : (r : List ℕ) → after_power (after_fraction rest) ≡ r → 0 < length (digits_in (after_sign t)) + length (digits_behind (fraction_in rest)) → Front t r
    front r e filled = record {
      numeral = record { sign = sign_in t; whole = digits_in (after_sign t); fraction = fraction_in rest; power = power.power };
      parts = parts r e;
      fine = record { whole = (digits_found (after_sign t)).1; fraction = (fraction_found rest).1; some = filled; power = power.fine };
    }

    by_digits : (ds : List ℕ) → digits_in (after_sign t) ≡ ds → (fs : List ℕ) → digits_behind (fraction_in rest) ≡ fs → rest_if ds fs (after_power (after_fraction rest)) ≡ Some r → Front t r
    by_digits [] d [] f e = absurd cc
    by_digits (x ∷ ds) d fs f e = let same : after_power (after_fraction rest) ≡ r = cc in front r same (omega (arith, ap length d))
    by_digits [] d (x ∷ fs) f e = let same : after_power (after_fraction rest) ≡ r = cc in front r same (omega (arith, ap length f))

-- ---- no longer front

digits_more : (ds b : List ℕ) → AllDigits 10 ds → (digits_in (ds ++ b) ≡ ds ++ digits_in b) × (after_digits (ds ++ b) ≡ after_digits b)
unfolding digits_in after_digits
digits_more [] b all = (refl, refl)
digits_more (d ∷ ds) b all =
    let ih = digits_more ds b all.1 in
    let is : is_ascii_digit d ≡ true = value-digit d all.0 in
    (rw is (ap (λ t. d ∷ t) ih.0), rw is ih.1)

digits_shorter : (t : List ℕ) → length (after_digits t) ≤ length t
digits_shorter t = omega (arith, ap length (digits_found t).0, length-append (digits_in t) (after_digits t))

fraction_shorter : (t : List ℕ) → length (after_fraction t) ≤ length t
fraction_shorter t = omega (arith, ap length (fraction_found t).0, length-append (fraction_text (fraction_in t)) (after_fraction t))

power_shorter : (t : List ℕ) → length (after_power t) ≤ length t
power_shorter t = let e = exponent_found t in omega (arith, ap length e.parts, length-append (power_text e.power) (after_power t))

filled_power : (t ds r : List ℕ) → 0 < length ds → behind_power t ds r ≡ r
filled_power t [] r filled = absurd (omega (arith, filled))
filled_power t (d ∷ ds) r filled = refl

no_sign-front : (ds r : List ℕ) → 0 < length ds → AllDigits 10 ds → NoSign (ds ++ r)
no_sign-front [] r filled all = absurd (omega (arith, filled))
no_sign-front (d ∷ ds) r filled all = (digit-no_plus d (value-digit d all.0), digit-no_minus d (value-digit d all.0))

-- a rest at which no number goes on
pub record IsStill (b : List ℕ) : Type 0 where
  pub digits : after_digits b ≡ b
  pub fraction : after_fraction b ≡ b
  pub power : after_power b ≡ b

still_digits : (b : List ℕ) → IsStill b → after_power (after_digits b) ≡ b
still_digits b still = ap after_power still.digits ∙ still.power

still_all : (b : List ℕ) → IsStill b → after_power (after_fraction (after_digits b)) ≡ b
still_all b still = ap (λ (x : List ℕ). after_power (after_fraction x)) still.digits ∙ ap after_power still.fraction ∙ still.power

power_still : (p : Option Power) (b : List ℕ) → IsPower p → IsStill b → after_power (power_text p ++ b) ≡ b
unfolding after_power
power_still None b fine still = still.power
power_still (Some p) b fine still =
    let text : (sign_text p.sign ++ p.digits) ++ b ≡ sign_text p.sign ++ (p.digits ++ b) = append_assoc (sign_text p.sign) p.digits b in
    let sign = sign_again p.sign (p.digits ++ b) (no_sign-front p.digits b fine.0 fine.1) in
    let digits = digits_more p.digits b fine.1 in
    rw (text, sign.1, digits.0, digits.1)
    (filled_power (69 ∷ (sign_text p.sign ++ (p.digits ++ b))) (p.digits ++ digits_in b) (after_digits b) (omega (arith, fine.0, length-append p.digits (digits_in b))) ∙ still.digits)

power_within : (p : Option Power) (b : List ℕ) → IsPower p → length (after_power (power_text p ++ b)) ≤ length b
unfolding after_power
power_within None b fine = power_shorter b
power_within (Some p) b fine =
    let text : (sign_text p.sign ++ p.digits) ++ b ≡ sign_text p.sign ++ (p.digits ++ b) = append_assoc (sign_text p.sign) p.digits b in
    let sign = sign_again p.sign (p.digits ++ b) (no_sign-front p.digits b fine.0 fine.1) in
    let digits = digits_more p.digits b fine.1 in
    rw (text, sign.1, digits.0, digits.1)
    (subst (λ (x : List ℕ). length x ≤ length b) (sym (filled_power (69 ∷ (sign_text p.sign ++ (p.digits ++ b))) (p.digits ++ digits_in b) (after_digits b) (omega (arith, fine.0, length-append p.digits (digits_in b))))) (digits_shorter b))

no_digit-power : (p : Option Power) (b : List ℕ) → 0 < length (power_text p) → NoDigit (power_text p ++ b)
no_digit-power None b filled = absurd (omega (arith, filled))
no_digit-power (Some p) b filled = refl

record Reaches (u b : List ℕ) : Type 0 where
  pub filled : 0 < length (digits_in u) + length (digits_behind (fraction_in (after_digits u)))
  pub short : length (after_power (after_fraction (after_digits u))) ≤ length b
  pub still : IsStill b → after_power (after_fraction (after_digits u)) ≡ b

-- the digits behind the point, where the power is there or not
fraction_within : (fs : List ℕ) (p : Option Power) (b : List ℕ) → AllDigits 10 fs → IsPower p → (length fs ≤ length (digits_in (fs ++ (power_text p ++ b)))) × (length (after_power (after_digits (fs ++ (power_text p ++ b)))) ≤ length b)
fraction_within fs None b all fine =
    let more = digits_more fs b all in
    (omega (arith, ap length more.0, length-append fs (digits_in b)), rw more.1 (omega (arith, power_shorter (after_digits b), digits_shorter b)))
fraction_within fs (Some p) b all fine =
    let again = digits_again fs (power_text (Some p) ++ b) all refl in
    (omega (arith, ap length again.0), rw again.1 (power_within (Some p) b fine))

fraction_still : (fs : List ℕ) (p : Option Power) (b : List ℕ) → AllDigits 10 fs → IsPower p → IsStill b → after_power (after_digits (fs ++ (power_text p ++ b))) ≡ b
fraction_still fs None b all fine still = ap after_power (digits_more fs b all).1 ∙ still_digits b still
fraction_still fs (Some p) b all fine still = ap after_power (digits_again fs (power_text (Some p) ++ b) all refl).1 ∙ power_still (Some p) b fine still

number_reaches : (w : List ℕ) (f : Option (List ℕ)) (p : Option Power) (b : List ℕ) → AllDigits 10 w → AllDigits 10 (digits_behind f) → IsPower p → 0 < length w + length (digits_behind f)
    → Reaches (w ++ (fraction_text f ++ (power_text p ++ b))) b
unfolding fraction_in after_fraction
number_reaches w None None b all fraction power filled =
    let more = digits_more w b all in
    record {
      filled = omega (arith, ap length more.0, length-append w (digits_in b));
      short = rw more.1 (omega (arith, power_shorter (after_fraction (after_digits b)), fraction_shorter (after_digits b), digits_shorter b));
      still = λ still. ap (λ (x : List ℕ). after_power (after_fraction x)) more.1 ∙ still_all b still;
    }
number_reaches w None (Some p) b all fraction power filled =
    let again = digits_again w (power_text (Some p) ++ b) all refl in
    record {
      filled = omega (arith, ap length again.0);
      short = rw again.1 (power_within (Some p) b power);
      still = λ still. ap (λ (x : List ℕ). after_power (after_fraction x)) again.1 ∙ power_still (Some p) b power still;
    }
number_reaches w (Some fs) p b all fraction power filled =
    let again = digits_again w (46 ∷ (fs ++ (power_text p ++ b))) all refl in
    let behind = fraction_within fs p b fraction power in
    record {
      filled = rw again.1 (omega (arith, ap length again.0, behind.0));
      short = rw again.1 behind.1;
      still = λ still. ap (λ (x : List ℕ). after_power (after_fraction x)) again.1 ∙ fraction_still fs p b fraction power still;
    }

rest_filled : (ds fs r : List ℕ) → 0 < length ds + length fs → rest_if ds fs r ≡ Some r
rest_filled [] [] r filled = absurd (omega (arith, filled))
rest_filled (d ∷ ds) fs r filled = refl
rest_filled [] (f ∷ fs) r filled = refl

no_sign-number : (w : List ℕ) (f : Option (List ℕ)) (r : List ℕ) → AllDigits 10 w → 0 < length w + length (digits_behind f) → NoSign (w ++ (fraction_text f ++ r))
no_sign-number [] None r all filled = absurd (omega (arith, filled))
no_sign-number [] (Some fs) r all filled = (refl, refl)
no_sign-number (d ∷ ds) f r all filled = (digit-no_plus d (value-digit d all.0), digit-no_minus d (value-digit d all.0))

pub record Within (t b : List ℕ) : Type 0 where
  pub rest : List ℕ
  pub rest_is : after_number t ≡ Some rest
  pub short : length rest ≤ length b
  pub still : IsStill b → rest ≡ b

within : (n : Numeral) (b : List ℕ) → IsNumeral n → Within (numeral_text n ++ b) b
unfolding after_number
within n b fine =
    let u : List ℕ = n.whole ++ (fraction_text n.fraction ++ (power_text n.power ++ b)) in
    let text : numeral_text n ++ b ≡ sign_text n.sign ++ u = five (sign_text n.sign) n.whole (fraction_text n.fraction) (power_text n.power) b in
    let sign = sign_again n.sign u (no_sign-number n.whole n.fraction (power_text n.power ++ b) fine.whole fine.some) in
    let reaches = number_reaches n.whole n.fraction n.power b fine.whole fine.fraction fine.power fine.some in
    record {
      rest = after_power (after_fraction (after_digits u));
      rest_is = rw (text, sign.1) (rest_filled (digits_in u) (digits_behind (fraction_in (after_digits u))) (after_power (after_fraction (after_digits u))) reaches.filled);
      short = reaches.short;
      still = reaches.still;
    }

number_within : (t a b : List ℕ) → t ≡ a ++ b → IsNumber a → Within t b
number_within t a b parts (n, spells) =
    subst (λ (x : List ℕ). Within x b) (sym (parts ∙ ap (λ (x : List ℕ). x ++ b) spells.text_is)) (within n b spells.parts)

-- ---- a number is found again where no number goes on behind it

still_byte : (c : ℕ) (cs : List ℕ) → c < 46 → IsStill (c ∷ cs)
unfolding after_digits after_fraction after_power
still_byte c cs low = record { digits = rw (no_digit c low) refl; fraction = rw (no_point c low) refl; power = rw (no_power c low) refl }
  where
    no_digit : (c : ℕ) → c < 46 → is_ascii_digit c ≡ false
    no_digit c low = grind (arith, nat_tests)

    no_point : (c : ℕ) → c < 46 → eqb c 46 ≡ false
    no_point c low = grind (arith, nat_tests)

    no_power : (c : ℕ) → c < 46 → eqb c 69 ≡ false
    no_power c low = grind (arith, nat_tests)

-- the end, or a byte below the point, the digits and the letters
abbrev pub IsBelowNumbers : List ℕ → Type 0
IsBelowNumbers [] = Unit {0}
IsBelowNumbers (c ∷ cs) = c < 46

pub still_behind : (b : List ℕ) → IsBelowNumbers b → IsStill b
unfolding after_digits after_fraction after_power
still_behind [] low = record { digits = refl; fraction = refl; power = refl }
still_behind (c ∷ cs) low = still_byte c cs low

pub number_again : (w b : List ℕ) → IsNumber w → IsBelowNumbers b → after_number (w ++ b) ≡ Some b
number_again w b is low = let r = number_within (w ++ b) w b refl is in r.rest_is ∙ ap (λ (x : List ℕ). Some x) (r.still (still_behind b low))

-- ---- what is found is determined

cut_at : (a b c d : List ℕ) → a ++ b ≡ c ++ d → length a ≡ length c → (a ≡ c) × (b ≡ d)
cut_at a b c d e size = (
  sym (take-append_seam a b) ∙ ap (λ (k : ℕ). take k (a ++ b)) size ∙ ap (λ (x : List ℕ). take (length c) x) e ∙ take-append_seam c d,
  sym (drop-append_seam a b) ∙ ap (λ (k : ℕ). drop k (a ++ b)) size ∙ ap (λ (x : List ℕ). drop (length c) x) e ∙ drop-append_seam c d,
)

pub no_number_found : (t : List ℕ) → HasNoNumber t → after_number t ≡ None
no_number_found t none = by_found (after_number t) refl
  where
    by_found : (o : Option (List ℕ)) → after_number t ≡ o → after_number t ≡ None
    by_found None e = e
    by_found (Some r) e =
        let f = front_found t r e in
        absurd (none (numeral_text f.numeral) r f.parts (f.numeral, record { parts = f.fine; text_is = refl }))

pub longest_is_found : (t front rest : List ℕ) → IsLongestNumber t front rest → (after_number t ≡ Some rest) × (take (length t - length rest) t ≡ front)
longest_is_found t front rest longest =
    let w = number_within t front rest longest.text_is longest.number in
    let f = front_found t w.rest w.rest_is in
    let most = longest.longest (numeral_text f.numeral) w.rest f.parts (f.numeral, record { parts = f.fine; text_is = refl }) in
    let sizes : length (numeral_text f.numeral) + length w.rest ≡ length front + length rest =
    sym (length-append (numeral_text f.numeral) w.rest) ∙ ap length (sym f.parts ∙ longest.text_is) ∙ length-append front rest in
    let at = cut_at (numeral_text f.numeral) w.rest front rest (sym f.parts ∙ longest.text_is) (omega (arith, most, w.short, sizes)) in
    let cut : length t - length rest ≡ length front = omega (arith, ap length longest.text_is, length-append front rest) in
    (w.rest_is ∙ ap (λ (x : List ℕ). Some x) at.1, ap (λ (k : ℕ). take k t) cut ∙ ap (λ (x : List ℕ). take (length front) x) longest.text_is ∙ take-append_seam front rest)

-- ---- the answers

pub none_found : (t : List ℕ) → after_number t ≡ None → HasNoNumber t
none_found t e a b parts number = let w = number_within t a b parts number in let both = w.rest_is in absurd cc

pub found_shorter : (t r : List ℕ) → after_number t ≡ Some r → length r ≤ length t
found_shorter t r e = let f = front_found t r e in omega (arith, ap length f.parts, length-append (numeral_text f.numeral) r)

pub longest_found : (t r front rest : List ℕ) → after_number t ≡ Some r → front ≡ take (length t - length r) t → rest ≡ drop (length t - length r) t → IsLongestNumber t front rest
longest_found t r front rest e f g = rw (f, g, left, right) (record { text_is = found.parts; number = (found.numeral, record { parts = found.fine; text_is = refl }); longest = longest })
  where
    found : Front t r
    found = front_found t r e

    number : List ℕ
    number = numeral_text found.numeral

    size : length t ≡ length number + length r
    size = ap length found.parts ∙ length-append number r

    cut : length t - length r ≡ length number
    cut = omega (arith, size)

    left : take (length t - length r) t ≡ number
    left = ap (λ (k : ℕ). take k t) cut ∙ ap (λ (x : List ℕ). take (length number) x) found.parts ∙ take-append_seam number r

    right : drop (length t - length r) t ≡ r
    right = ap (λ (k : ℕ). drop k t) cut ∙ ap (λ (x : List ℕ). drop (length number) x) found.parts ∙ drop-append_seam number r

    longest : (a b : List ℕ) → t ≡ a ++ b → IsNumber a → length a ≤ length number
    longest a b parts is =
        let w = number_within t a b parts is in
        let rest_is : r ≡ w.rest = let h = w.rest_is in cc in
        omega (arith, w.short, ap length rest_is, size, ap length parts, length-append a b)
