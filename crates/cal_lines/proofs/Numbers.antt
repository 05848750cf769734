-- Whole numbers: just the words that are written so are read.
use Rattle.std.proofs.Common.{◌≡◌, ℕ, zero, suc, ◌+◌, ◌-◌, ◌*◌, ◌^◌, ◌≤◌, ◌<◌, inl, inr, Bool, true, false, cond, eqb, List, [], ◌∷◌, ◌++◌, length, min, Option, Some, None, refl, sym, ap, subst, ◌∙◌, arith}
use Rattle.std.specs.Prelude.{ℤ, pos, negsuc, unsigned_abs, ◌&&◌, not, nat_le}
use Rattle.std.specs.List.{list_all}
use Rattle.std.specs.Fmt.{decimal, signed_decimal}
use Rattle.std.proofs.lemmas.Fmt.{decimal_digit}
use Rattle.std.proofs.lemmas.Bool.{cases_lt, and_parts, and_from, and_left, and_right, leb-true, le-leb, lt-leb, eqb-true}
use Rattle.std.proofs.lemmas.Bool.Decides.{nat_tests}
use Rattle.cal_scan.specs.Bytes.{is_digit}
use Rattle.cal_scan.specs.Numbers.{digits_value}
use Rattle.cal_scan.specs.Lines.{Word}
use Rattle.cal_scan.proofs.Values.{digit_range}
use Rattle.cal_scan.proofs.Decimals.{Writes, decimal-writes, decimal_after}
use Rattle.cal_scan.proofs.NameLists.{cond_found}
use Rattle.cal_lines.specs.Words.{is_plain, natural_of, integer_of, as_positive, as_negative}
use Rattle.cal_lines.proofs.Lines.{IsWord}

-- ---- what is read is written so

differs : (b : ℕ) → b ≡ 48 → not (eqb b 48) ≡ true → ⊥
differs b same e = grind (arith, nat_tests)

pub plain_decimal : (w : Word) → is_plain w ≡ true → digits_value w < 10 ^ 64 → w ≡ decimal (digits_value w)
unfolding digits_value
plain_decimal [] plain small = absurd cc
plain_decimal (b ∷ []) plain small =
    let range = digit_range b plain in
    let digit : 48 + ((b - 48) * 1 + 0) ≡ b = omega (arith, range.0) in
    sym (decimal_digit ((b - 48) * 1 + 0) (omega (arith, range.1)) ∙ ap (λ (z : ℕ). z ∷ []) digit)
plain_decimal (b ∷ c ∷ bs) plain small =
    let p = and_parts (not (eqb b 48)) (list_all is_digit (b ∷ c ∷ bs)) plain in
    let all = and_parts (is_digit b) (list_all is_digit (c ∷ bs)) p.1 in
    let range = digit_range b all.0 in
    let other : b ≡ 48 → ⊥ = λ same. differs b same p.0 in
    let digit : 48 + (b - 48) ≡ b = omega (arith, range.0) in
    let one : decimal (b - 48) ≡ b ∷ [] = decimal_digit (b - 48) (omega (arith, range.1)) ∙ ap (λ (z : ℕ). z ∷ []) digit in
    sym (decimal_after (b - 48) (c ∷ bs) (omega (arith, range.0, other)) all.1 small ∙ ap (λ (z : List ℕ). z ++ c ∷ bs) one)

pub natural-found : (limit m : ℕ) (w : Word) → limit < 10 ^ 64 → natural_of limit w ≡ Some m → (w ≡ decimal m) × (m ≤ limit)
unfolding natural_of
natural-found limit m w small e =
    let p = cond_found (is_plain w && nat_le (digits_value w) limit) (Some (digits_value w)) m e in
    let q = and_parts (is_plain w) (nat_le (digits_value w) limit) p.0 in
    let le : digits_value w ≤ limit = leb-true _ _ q.1 in
    let same : digits_value w ≡ m = cc in
    (plain_decimal w q.0 (omega (arith, le, small)) ∙ ap decimal same, omega (arith, le, same))

-- ---- what is written is read

plain_written : (n : ℕ) (ds : List ℕ) → (n < 10 → length ds ≡ 1) → Writes n ds → is_plain ds ≡ true
plain_written n [] one w = absurd (omega (arith, w.present))
plain_written n (b ∷ []) one w = (and_parts (is_digit b) true w.digits).0
plain_written n (b ∷ c ∷ ds) one w =
    let big : 0 < n = elim (cases_lt n 10) [ inl lt ↦ absurd (omega (arith, one lt)) | inr le ↦ omega (arith, le) ] in
    and_from (not (eqb b 48)) (list_all is_digit (b ∷ c ∷ ds)) (not_zero b (w.first big)) w.digits
  where
    not_zero : (b : ℕ) → 48 < b → not (eqb b 48) ≡ true
    not_zero b h = grind (arith, nat_tests)

pub natural-again : (limit n : ℕ) → n < 10 ^ 64 → n ≤ limit → natural_of limit (decimal n) ≡ Some n
unfolding natural_of
natural-again limit n small le =
    let w = decimal-writes n small in
    let plain = plain_written n (decimal n) (λ lt. ap length (decimal_digit n lt)) w in
    let within : nat_le (digits_value (decimal n)) limit ≡ true = le-leb _ _ (omega (arith, w.value, le)) in
    rw (and_from _ _ plain within) (ap (λ (m : ℕ). Some m) w.value)

-- digits are no spaces
digits_word : (ds : List ℕ) → list_all is_digit ds ≡ true → IsWord ds
digits_word [] all = tt
digits_word (d ∷ ds) all = let p = and_parts (is_digit d) (list_all is_digit ds) all in (omega (arith, (digit_range d p.0).0), digits_word ds p.1)

pub decimal_word : (n : ℕ) → n < 10 ^ 64 → IsWord (decimal n)
decimal_word n small = digits_word (decimal n) (decimal-writes n small).digits

-- the first byte of a number is no minus
no_minus : (n : ℕ) → n < 10 ^ 64 → (b : ℕ) (bs : List ℕ) → decimal n ≡ b ∷ bs → eqb b 45 ≡ false
no_minus n small b bs e =
    let all : list_all is_digit (b ∷ bs) ≡ true = subst (λ (ds : List ℕ). list_all is_digit ds ≡ true) e (decimal-writes n small).digits in
    off b (digit_range b (and_parts (is_digit b) (list_all is_digit bs) all).0).0
  where
    off : (b : ℕ) → 48 ≤ b → eqb b 45 ≡ false
    off b le = grind (arith, nat_tests)

pub integer-found : (limit : ℕ) (z : ℤ) (w : Word) → limit < 10 ^ 64 → integer_of limit w ≡ Some z → (w ≡ signed_decimal z) × (unsigned_abs z ≤ limit)
unfolding integer_of
integer-found limit z [] small e = absurd cc
integer-found limit z (b ∷ bs) small e = by_sign (eqb b 45) refl e
  where
    negative : (o : Option ℕ) → natural_of limit bs ≡ o → b ≡ 45 → as_negative o ≡ Some z → (b ∷ bs ≡ signed_decimal z) × (unsigned_abs z ≤ limit)
    negative None is minus e = absurd cc
    negative (Some zero) is minus e = absurd cc
    negative (Some (suc n)) is minus e =
        let z_is : negsuc n ≡ z = cc in
        let f = natural-found limit (suc n) bs small is in
        subst (λ (z : ℤ). (b ∷ bs ≡ signed_decimal z) × (unsigned_abs z ≤ limit)) z_is (rw (minus, f.0) refl, f.1)

    positive : (o : Option ℕ) → natural_of limit (b ∷ bs) ≡ o → as_positive o ≡ Some z → (b ∷ bs ≡ signed_decimal z) × (unsigned_abs z ≤ limit)
    positive None is e = absurd cc
    positive (Some n) is e =
        let z_is : pos n ≡ z = cc in
        let f = natural-found limit n (b ∷ bs) small is in
        subst (λ (z : ℤ). (b ∷ bs ≡ signed_decimal z) × (unsigned_abs z ≤ limit)) z_is (f.0, f.1)

    by_sign : (t : Bool) → eqb b 45 ≡ t → cond t (as_negative (natural_of limit bs)) (as_positive (natural_of limit (b ∷ bs))) ≡ Some z → (b ∷ bs ≡ signed_decimal z) × (unsigned_abs z ≤ limit)
    by_sign true is e = negative (natural_of limit bs) refl (eqb-true _ _ is) e
    by_sign false is e = positive (natural_of limit (b ∷ bs)) refl e

pub integer-again : (limit : ℕ) (z : ℤ) → limit < 10 ^ 64 → unsigned_abs z ≤ limit → integer_of limit (signed_decimal z) ≡ Some z
unfolding integer_of
integer-again limit (pos n) small le = by_word (decimal n) refl
  where
    by_word : (w : Word) → decimal n ≡ w → integer_of limit w ≡ Some (pos n)
    by_word [] e = absurd (omega (arith, (decimal-writes n (omega arith)).present, ap length e))
    by_word (b ∷ bs) e = rw (no_minus n (omega arith) b bs e) (ap as_positive (ap (natural_of limit) (sym e) ∙ natural-again limit n (omega arith) le))
integer-again limit (negsuc n) small le = ap as_negative (natural-again limit (suc n) (omega (arith, le)) le)

pub signed_word : (z : ℤ) → unsigned_abs z < 10 ^ 64 → IsWord (signed_decimal z)
signed_word (pos n) small = decimal_word n small
signed_word (negsuc n) small = (omega arith, decimal_word (suc n) small)

-- ---- a value read up to a cap behind the limit

pub natural_none : (limit : ℕ) (w : Word) → is_plain w ≡ false → None ≡ natural_of limit w
unfolding natural_of
natural_none limit w off = rw (and_left (is_plain w) (nat_le (digits_value w) limit) off) refl

pub natural_large : (limit value : ℕ) (w : Word) → value ≡ min (limit + 1) (digits_value w) → limit < value → None ≡ natural_of limit w
unfolding natural_of
natural_large limit value w is large = rw (and_right (is_plain w) (nat_le (digits_value w) limit) (lt-leb _ _ (omega (arith, is, large)))) refl

pub natural_some : (limit value : ℕ) (w : Word) → is_plain w ≡ true → value ≡ min (limit + 1) (digits_value w) → value ≤ limit → Some value ≡ natural_of limit w
unfolding natural_of
natural_some limit value w plain is le =
    let same : value ≡ digits_value w = omega (arith, is, le) in
    rw (and_from (is_plain w) (nat_le (digits_value w) limit) plain (le-leb _ _ (omega (arith, same, le)))) (ap (λ (m : ℕ). Some m) same)

-- plain words are digits
pub plain_digits : (w : Word) → is_plain w ≡ true → list_all is_digit w ≡ true
plain_digits [] plain = refl
plain_digits (b ∷ []) plain = rw plain refl
plain_digits (b ∷ c ∷ bs) plain = (and_parts (not (eqb b 48)) (list_all is_digit (b ∷ c ∷ bs)) plain).1
