-- What is spelled by words at the front of a text is read there.
use Rattle.std.proofs.Common.{◌≡◌, ℕ, zero, suc, ◌+◌, ◌-◌, ◌<◌, ◌≤◌, ◌⊎◌, inl, inr, List, [], ◌∷◌, ◌++◌, length, take, drop, length-append, Option, Some, None, Bool, true, false, cond, eqb, refl, sym, ap, subst, ◌∙◌, arith}
use Rattle.std.specs.Prelude.{ℤ, pos, unsigned_abs, codes, nat_lt, not, ◌&&◌, ◌||◌}
use Rattle.std.specs.Char.{is_ascii_digit}
use Rattle.std.specs.List.{prefix_len, list_all}
use Rattle.std.specs.Str.Parse.{AllDigits, digits_value}
use Rattle.std.proofs.Math.Seq.{take-append_seam, drop-append_seam}
use Rattle.std.proofs.lemmas.Bool.{and_parts, and_from, lt-ltb, le-ltb}
use Rattle.std.proofs.lemmas.Bool.Decides.{nat_tests}
use Rattle.std.proofs.lemmas.Int.{ints}
use Rattle.cal_dec.specs.Decimals.{Decimal}
use Rattle.cal_dec.specs.Signs.{signed}
use Rattle.cal_dec.specs.Numerals.{Sign, Absent, Plus, Minus, is_minus, sign_text, Power as Exponent, fraction_text, power_text, digits_behind, Numeral, IsNumeral, Spells, numeral_text, value_of}
use Rattle.cal_dec.specs.Scanning.{digits_in, after_digits, numeral_in, after_number}
use Rattle.cal_dec.proofs.Spelling.{NoDigit, numeral_again, digits_again, value-digit}
use Rattle.cal_dec.proofs.Longest.{IsBelowNumbers, number_again}
use Rattle.cal_scan.specs.Bytes.{is_letter, is_name_byte}
use Rattle.cal_scan.specs.Words.{same_word, is_name}
use Rattle.cal_scan.specs.Fronts.{behind_spaces, name_bytes_at}
use Rattle.tdb_expr.specs.Grammar.{Word, spaces, Begins, IsNumberWord, WritesDigits, sign_words, SpellsPlain, SpellsBracketed, SpellsExponent, SpellsPower, is_taken, is_function_name, SpellsName}
use Rattle.tdb_expr.specs.Parts.{Part, Number, T, Power, LnT, Name}
use Rattle.tdb_expr.specs.Reading.{◌>>=◌, Read, byte_at, mark_at, stars_at, magnitude_if, magnitude_at, plain_of, plain_at, closed_of, closed_at, unless_minus, unless_plus, bracketed_at, unless_bracket, exponent_at, unless_stars, temperature_at, logarithm_at, unless_hash, behind_hash, called_at, named_at, is_readable, value_if, value_in, number_up_to, number_at, is_sign, factor_from, factor_at}
use Rattle.tdb_expr.proofs.Words.{NoSpace, behind_is, below_spaced, mark_word, mark_other, mark_end}
use Rattle.tdb_expr.proofs.Found.{SpellsPart}

-- ---- what may stand behind a factor

abbrev EndsAt : List ℕ → Type 0
EndsAt [] = Unit {0}
EndsAt (b ∷ bs) = (b ≡ 43) ⊎ ((b ≡ 45) ⊎ ((b ≡ 42) × (byte_at 42 bs ≡ None)))

-- the end, a sign, or a star that is not followed by another, behind any spaces
pub record Ends (t : List ℕ) : Type 0 where
  pub count : ℕ
  pub rest : List ℕ
  pub parts : t ≡ spaces count ++ rest
  pub at : EndsAt rest

at_below : (r : List ℕ) → EndsAt r → IsBelowNumbers r
at_below [] at = tt
at_below (b ∷ bs) (inl is) = omega (arith, is)
at_below (b ∷ bs) (inr (inl is)) = omega (arith, is)
at_below (b ∷ bs) (inr (inr is)) = omega (arith, is.0)

pub ends_below : (t : List ℕ) → Ends t → IsBelowNumbers t
ends_below t ends = below_spaced ends.count t ends.rest ends.parts (at_below ends.rest ends.at)

at_stars : (n : ℕ) (t r : List ℕ) → t ≡ spaces n ++ r → EndsAt r → stars_at t ≡ None
at_stars n t [] parts at = rw (mark_end 42 n t parts) refl
at_stars n t (b ∷ bs) parts (inl is) = rw (mark_other 42 43 n t bs refl refl (parts ∙ ap (λ (c : ℕ). spaces n ++ (c ∷ bs)) is)) refl
at_stars n t (b ∷ bs) parts (inr (inl is)) = rw (mark_other 42 45 n t bs refl refl (parts ∙ ap (λ (c : ℕ). spaces n ++ (c ∷ bs)) is)) refl
at_stars n t (b ∷ bs) parts (inr (inr is)) = rw (mark_word 42 n t bs refl refl (parts ∙ ap (λ (c : ℕ). spaces n ++ (c ∷ bs)) is.0)) is.1

at_hash : (n : ℕ) (t r : List ℕ) → t ≡ spaces n ++ r → EndsAt r → mark_at 35 t ≡ None
at_hash n t [] parts at = mark_end 35 n t parts
at_hash n t (b ∷ bs) parts (inl is) = mark_other 35 43 n t bs refl refl (parts ∙ ap (λ (c : ℕ). spaces n ++ (c ∷ bs)) is)
at_hash n t (b ∷ bs) parts (inr (inl is)) = mark_other 35 45 n t bs refl refl (parts ∙ ap (λ (c : ℕ). spaces n ++ (c ∷ bs)) is)
at_hash n t (b ∷ bs) parts (inr (inr is)) = mark_other 35 42 n t bs refl refl (parts ∙ ap (λ (c : ℕ). spaces n ++ (c ∷ bs)) is.0)

-- ---- bytes

digit_no_space : (d : ℕ) → is_ascii_digit d ≡ true → eqb d 32 ≡ false
digit_no_space d h = grind (arith, nat_tests)

digit_no_bracket : (d : ℕ) → is_ascii_digit d ≡ true → eqb d 40 ≡ false
digit_no_bracket d h = grind (arith, nat_tests)

digit_no_plus : (d : ℕ) → is_ascii_digit d ≡ true → eqb d 43 ≡ false
digit_no_plus d h = grind (arith, nat_tests)

digit_no_minus : (d : ℕ) → is_ascii_digit d ≡ true → eqb d 45 ≡ false
digit_no_minus d h = grind (arith, nat_tests)

digit_no_letter : (d : ℕ) → is_ascii_digit d ≡ true → is_letter d ≡ false
digit_no_letter d h = grind (arith, nat_tests)

letter_no_space : (b : ℕ) → is_letter b ≡ true → eqb b 32 ≡ false
letter_no_space b h = grind (arith, nat_tests)

low_no_digit : (c : ℕ) → c < 46 → is_ascii_digit c ≡ false
low_no_digit c low = grind (arith, nat_tests)

low_no_name : (c : ℕ) → c < 46 → is_name_byte c ≡ false
low_no_name c low = grind (arith, nat_tests)

below_no_digit : (t : List ℕ) → IsBelowNumbers t → NoDigit t
below_no_digit [] low = tt
below_no_digit (c ∷ cs) low = low_no_digit c low

-- ---- digits

-- the first digit
record First (w : Word) : Type 0 where
  digit : ℕ
  more : List ℕ
  parts : w ≡ digit ∷ more
  fine : is_ascii_digit digit ≡ true

first_digit : (w : Word) (k : ℕ) → WritesDigits w k → First w
first_digit [] k writes = absurd (omega (arith, writes.filled))
first_digit (d ∷ ds) k writes = record { digit = d; more = ds; parts = refl; fine = value-digit d writes.digits.0 }

digits_filled : (w : Word) (k : ℕ) (u : List ℕ) → WritesDigits w k → k ≤ 20 → magnitude_if w u ≡ Some (k, u)
digits_filled [] k u writes small = absurd (omega (arith, writes.filled))
digits_filled (d ∷ ds) k u writes small =
    let low : nat_lt 20 (digits_value 10 (d ∷ ds)) ≡ false = le-ltb _ _ (omega (arith, writes.value, small)) in
    rw low (ap (λ (v : ℕ). found (v, u)) writes.value)
  where
    found : ℕ × List ℕ → Option (ℕ × List ℕ)
    found m = Some m

magnitude_again : (w : Word) (k n : ℕ) (t u : List ℕ) → WritesDigits w k → k ≤ 20 → t ≡ spaces n ++ (w ++ u) → IsBelowNumbers u → magnitude_at t ≡ Some (k, u)
unfolding magnitude_at
magnitude_again w k n t u writes small parts low =
    let f = first_digit w k writes in
    let plain : NoSpace (w ++ u) = subst (λ (z : List ℕ). NoSpace (z ++ u)) (sym f.parts) (digit_no_space f.digit f.fine) in
    let text : behind_spaces t ≡ w ++ u = behind_is n t (w ++ u) parts plain in
    let again = digits_again w u writes.digits (below_no_digit u low) in
    rw (text, again.0, again.1) (digits_filled w k u writes small)

-- no mark but a digit stands first
no_mark : (b : ℕ) (w : Word) (k n : ℕ) (t u : List ℕ) → ((d : ℕ) → is_ascii_digit d ≡ true → eqb d b ≡ false) → WritesDigits w k → t ≡ spaces n ++ (w ++ u) → mark_at b t ≡ None
no_mark b w k n t u other writes parts =
    let f = first_digit w k writes in
    mark_other b f.digit n t (f.more ++ u) (digit_no_space f.digit f.fine) (other f.digit f.fine) (parts ∙ ap (λ (z : List ℕ). spaces n ++ (z ++ u)) f.parts)

-- ---- exponents

low_mark : (b n : ℕ) (t u : List ℕ) → b < 46 → t ≡ spaces n ++ (b ∷ u) → IsBelowNumbers t
low_mark b n t u low parts = below_spaced n t (b ∷ u) parts low

closed_again : (negative : Bool) (w : Word) (k : ℕ) (t u : List ℕ) → WritesDigits w k → k ≤ 20 → Begins (w ∷ codes ")" ∷ []) t u → closed_at negative t ≡ Some (Power (signed negative k), u)
closed_again negative w k t u writes small begins =
    let inner = begins.3 in
    let digits = magnitude_again w k begins.0 t begins.1 writes small begins.2 (low_mark 41 inner.0 begins.1 inner.1 (omega arith) inner.2) in
    let mark = mark_word 41 inner.0 begins.1 inner.1 refl refl inner.2 in
    rw (digits, mark) (ap (λ (z : List ℕ). found (Power (signed negative k), z)) inner.3)
  where
    found : Read → Option Read
    found y = Some y

small_magnitude : (minus : Bool) (n : ℤ) (k : ℕ) → n ≡ signed minus k → unsigned_abs n ≤ 20 → k ≤ 20
small_magnitude true n zero is small = omega arith
small_magnitude true n (suc k) is small = omega (arith, ints, ap unsigned_abs is, small)
small_magnitude false n k is small = omega (arith, ints, ap unsigned_abs is, small)

bracket_again : (s : Sign) (w : Word) (k : ℕ) (t u : List ℕ) → WritesDigits w k → k ≤ 20 → Begins (sign_words s ++ w ∷ codes ")" ∷ []) t u → bracketed_at t ≡ Some (Power (signed (is_minus s) k), u)
bracket_again Absent w k t u writes small begins =
    rw (no_mark 43 w k begins.0 t begins.1 digit_no_plus writes begins.2, no_mark 45 w k begins.0 t begins.1 digit_no_minus writes begins.2)
    (closed_again false w k t u writes small begins)
bracket_again Plus w k t u writes small begins =
    rw (mark_word 43 begins.0 t begins.1 refl refl begins.2) (closed_again false w k begins.1 u writes small begins.3)
bracket_again Minus w k t u writes small begins =
    rw (mark_other 43 45 begins.0 t begins.1 refl refl begins.2, mark_word 45 begins.0 t begins.1 refl refl begins.2) (closed_again true w k begins.1 u writes small begins.3)

read : Read → Option Read
read y = Some y

exponent_again : (n : ℤ) (ws : List Word) (t u : List ℕ) → SpellsExponent n ws → Begins ws t u → IsBelowNumbers u → exponent_at t ≡ Some (Power n, u)
unfolding exponent_at read
exponent_again n ws t u (small, (inl plain)) begins low =
    let here = subst (λ (ws : List Word). Begins ws t u) plain.words begins in
    let parts : t ≡ spaces here.0 ++ (plain.digits ++ u) = here.2 ∙ ap (λ (z : List ℕ). spaces here.0 ++ (plain.digits ++ z)) here.3 in
    let digits = magnitude_again plain.digits plain.magnitude here.0 t u plain.writes (small_magnitude false n plain.magnitude plain.value small) parts low in
    rw (no_mark 40 plain.digits plain.magnitude here.0 t u digit_no_bracket plain.writes parts, digits) (ap (λ (z : ℤ). read (Power z, u)) (sym plain.value))
exponent_again n ws t u (small, (inr bracketed)) begins low =
    let here = subst (λ (ws : List Word). Begins ws t u) bracketed.words begins in
    let inner = bracket_again bracketed.sign bracketed.digits bracketed.magnitude here.1 u bracketed.writes (small_magnitude (is_minus bracketed.sign) n bracketed.magnitude bracketed.value small) here.3 in
    rw (mark_word 40 here.0 t here.1 refl refl here.2) (inner ∙ ap (λ (z : ℤ). read (Power z, u)) (sym bracketed.value))

-- ---- names

run_again : (w u : List ℕ) → list_all is_name_byte w ≡ true → IsBelowNumbers u → prefix_len is_name_byte (w ++ u) ≡ length w
run_again [] [] all low = refl
run_again [] (c ∷ cs) all low = rw (low_no_name c low) refl
run_again (b ∷ bs) u all low =
    let parts = and_parts (is_name_byte b) (list_all is_name_byte bs) all in
    rw parts.0 (ap (λ (k : ℕ). 1 + k) (run_again bs u parts.1 low) ∙ next (length bs))
  where
    next : (k : ℕ) → 1 + k ≡ suc k
    next k = omega arith

-- a word that begins with a letter
record IsNameWord (w : Word) : Type 0 where
  letter : ℕ
  more : List ℕ
  parts : w ≡ letter ∷ more
  fine : is_letter letter ≡ true
  all : list_all is_name_byte w ≡ true

names_again : (w u : List ℕ) → list_all is_name_byte w ≡ true → IsBelowNumbers u → ((name_bytes_at (w ++ u)).0 ≡ w) × ((name_bytes_at (w ++ u)).1 ≡ u)
unfolding name_bytes_at
names_again w u all low =
    let count = run_again w u all low in
    (ap (λ (k : ℕ). take k (w ++ u)) count ∙ take-append_seam w u, ap (λ (k : ℕ). drop k (w ++ u)) count ∙ drop-append_seam w u)

name_factor : (w : Word) (n : ℕ) (t u : List ℕ) → IsNameWord w → t ≡ spaces n ++ (w ++ u) → IsBelowNumbers u → factor_at t ≡ named_at w u
unfolding factor_at
name_factor w n t u name parts low =
    let text : behind_spaces t ≡ name.letter ∷ (name.more ++ u) =
    behind_is n t (name.letter ∷ (name.more ++ u)) (parts ∙ ap (λ (z : List ℕ). spaces n ++ (z ++ u)) name.parts) (letter_no_space name.letter name.fine) in
    let whole : name.letter ∷ (name.more ++ u) ≡ w ++ u = ap (λ (z : List ℕ). z ++ u) (sym name.parts) in
    let run = names_again w u name.all low in
    let front : (name_bytes_at (name.letter ∷ (name.more ++ u))).0 ≡ w = ap (λ (z : List ℕ). (name_bytes_at z).0) whole ∙ run.0 in
    let behind : (name_bytes_at (name.letter ∷ (name.more ++ u))).1 ≡ u = ap (λ (z : List ℕ). (name_bytes_at z).1) whole ∙ run.1 in
    rw (text, name.fine, front, behind) refl

letter_t : IsNameWord (codes "T")
letter_t = record { letter = 84; more = []; parts = refl; fine = refl; all = refl }

letters_ln : IsNameWord (codes "LN")
letters_ln = record { letter = 76; more = 78 ∷ []; parts = refl; fine = refl; all = refl }

-- ---- factors

temperature_again : (t u : List ℕ) (n : ℕ) → t ≡ spaces n ++ (codes "T" ++ u) → Ends u → factor_at t ≡ Some (T, u)
unfolding named_at same_word temperature_at
temperature_again t u n parts ends =
    name_factor (codes "T") n t u letter_t parts (ends_below u ends) ∙ rw (at_stars ends.count u ends.rest ends.parts ends.at) refl

power_again : (p : ℤ) (ws : List Word) (t u : List ℕ) → SpellsPower p ws → Begins ws t u → Ends u → factor_at t ≡ Some (Power p, u)
unfolding named_at same_word temperature_at
power_again p ws t u power begins ends =
    let here = subst (λ (ws : List Word). Begins ws t u) power.words begins in
    let stars = here.3 in
    let low : IsBelowNumbers here.1 = low_mark 42 stars.0 here.1 (42 ∷ stars.1) (omega arith) stars.2 in
    let first : mark_at 42 here.1 ≡ Some (42 ∷ stars.1) = mark_word 42 stars.0 here.1 (42 ∷ stars.1) refl refl stars.2 in
    name_factor (codes "T") here.0 t here.1 letter_t here.2 low ∙ rw first (exponent_again p power.exponent stars.1 u power.spells stars.3 (ends_below u ends))

logarithm_again : (t u : List ℕ) → Begins (codes "LN" ∷ codes "(" ∷ codes "T" ∷ codes ")" ∷ []) t u → factor_at t ≡ Some (LnT, u)
unfolding named_at same_word logarithm_at read
logarithm_again t u here =
    let a = here.3 in
    let b = a.3 in
    let c = b.3 in
    let low : IsBelowNumbers here.1 = low_mark 40 a.0 here.1 a.1 (omega arith) a.2 in
    name_factor (codes "LN") here.0 t here.1 letters_ln here.2 low
    ∙ rw (mark_word 40 a.0 here.1 a.1 refl refl a.2, mark_word 84 b.0 a.1 b.1 refl refl b.2, mark_word 41 c.0 b.1 c.1 refl refl c.2) (ap (λ (z : List ℕ). read (LnT, z)) c.3)

name_word : (w : Word) → is_name w ≡ true → IsNameWord w
unfolding is_name
name_word [] fine = absurd cc
name_word (b ∷ bs) fine =
    let first = and_parts (is_letter b) (nat_lt (length (b ∷ bs)) 41 && list_all is_name_byte (b ∷ bs)) fine in
    let second = and_parts (nat_lt (length (b ∷ bs)) 41) (list_all is_name_byte (b ∷ bs)) first.1 in
    record { letter = b; more = bs; parts = refl; fine = first.0; all = second.1 }

no_left : (a b : Bool) → not (a || b) ≡ true → (a ≡ false) × (not b ≡ true)
no_left true b e = absurd cc
no_left false b e = (refl, e)

called_again : (w : Word) (t : List ℕ) → is_function_name w ≡ true → named_at w t ≡ Some (Name w, behind_hash t)
unfolding named_at
called_again w t fine =
    let parts = and_parts (is_name w) (not (is_taken w)) fine in
    let no_t = no_left (same_word w (codes "T")) (same_word w (codes "LN") || (same_word w (codes "P") || (same_word w (codes "EXP") || same_word w (codes "LOG")))) parts.1 in
    let no_ln = no_left (same_word w (codes "LN")) (same_word w (codes "P") || (same_word w (codes "EXP") || same_word w (codes "LOG"))) no_t.1 in
    rw (fine, no_t.0, no_ln.0) refl

plain_name : (w : Word) (n : ℕ) (t u : List ℕ) → is_function_name w ≡ true → t ≡ spaces n ++ (w ++ u) → Ends u → factor_at t ≡ Some (Name w, u)
unfolding behind_hash read
plain_name w n t u fine parts ends =
    let name = name_word w (and_parts (is_name w) (not (is_taken w)) fine).0 in
    let none : unless_hash u (mark_at 35 u) ≡ u = rw (at_hash ends.count u ends.rest ends.parts ends.at) refl in
    name_factor w n t u name parts (ends_below u ends) ∙ called_again w u fine ∙ ap (λ (z : List ℕ). read (Name w, z)) none

hashed_name : (w : Word) (n m : ℕ) (t u v : List ℕ) → is_function_name w ≡ true → t ≡ spaces n ++ (w ++ u) → u ≡ spaces m ++ (35 ∷ v) → factor_at t ≡ Some (Name w, v)
unfolding behind_hash read
hashed_name w n m t u v fine parts hash =
    let name = name_word w (and_parts (is_name w) (not (is_taken w)) fine).0 in
    let some_hash : unless_hash u (mark_at 35 u) ≡ v = rw (mark_word 35 m u v refl refl hash) refl in
    name_factor w n t u name parts (low_mark 35 m u v (omega arith) hash) ∙ called_again w u fine ∙ ap (λ (z : List ℕ). read (Name w, z)) some_hash

name_again : (w : Word) (ws : List Word) (t u : List ℕ) → SpellsName w ws → Begins ws t u → Ends u → factor_at t ≡ Some (Name w, u)
name_again w ws t u name begins ends = by_words name.words
  where
    by_words : (ws ≡ w ∷ []) ⊎ (ws ≡ w ∷ codes "#" ∷ []) → factor_at t ≡ Some (Name w, u)
    by_words (inl is) =
        let here = subst (λ (ws : List Word). Begins ws t u) is begins in
        plain_name w here.0 t u name.fine (here.2 ∙ ap (λ (z : List ℕ). spaces here.0 ++ (w ++ z)) here.3) ends
    by_words (inr is) =
        let here = subst (λ (ws : List Word). Begins ws t u) is begins in
        let hash = here.3 in
        hashed_name w here.0 hash.0 t here.1 u name.fine here.2 (hash.2 ∙ ap (λ (z : List ℕ). spaces hash.0 ++ (35 ∷ z)) hash.3)

-- the first byte of a number is a digit or a point
pub record NumberFirst (w : Word) : Type 0 where
  pub byte : ℕ
  pub more : List ℕ
  pub parts : w ≡ byte ∷ more
  pub no_letter : is_letter byte ≡ false
  pub no_sign : is_sign byte ≡ false
  pub no_space : eqb byte 32 ≡ false
  pub no_star : eqb byte 42 ≡ false

digit_no_star : (d : ℕ) → is_ascii_digit d ≡ true → eqb d 42 ≡ false
digit_no_star d h = grind (arith, nat_tests)

digit_no_sign : (d : ℕ) → is_ascii_digit d ≡ true → is_sign d ≡ false
digit_no_sign d h = rw (digit_no_plus d h, digit_no_minus d h) refl

front_first : (whole : List ℕ) (fraction : Option (List ℕ)) (r : List ℕ) → AllDigits 10 whole → 0 < length whole + length (digits_behind fraction) → NumberFirst (whole ++ (fraction_text fraction ++ r))
front_first [] None r all filled = absurd (omega (arith, filled))
front_first [] (Some fs) r all filled = record { byte = 46; more = fs ++ r; parts = refl; no_letter = refl; no_sign = refl; no_space = refl; no_star = refl }
front_first (d ∷ ds) fraction r all filled =
    let digit : is_ascii_digit d ≡ true = value-digit d all.0 in
    record { byte = d; more = ds ++ (fraction_text fraction ++ r); parts = refl; no_letter = digit_no_letter d digit; no_sign = digit_no_sign d digit; no_space = digit_no_space d digit; no_star = digit_no_star d digit }

pub number_first : (w : Word) (d : Decimal) → IsNumberWord w d → NumberFirst w
number_first w d number =
    let n : Numeral = number.numeral in
    let text : w ≡ n.whole ++ (fraction_text n.fraction ++ power_text n.power) =
    number.spells.text_is ∙ ap (λ (s : Sign). sign_text s ++ (n.whole ++ (fraction_text n.fraction ++ power_text n.power))) number.unsigned in
    subst NumberFirst (sym text) (front_first n.whole n.fraction (power_text n.power) number.spells.parts.whole number.spells.parts.some)

value_again : (w : Word) (d : Decimal) → IsNumberWord w d → value_in w ≡ Some d
unfolding value_in
value_again w d number =
    let found : numeral_in w ≡ Some number.numeral = numeral_again number.numeral w number.spells in
    let fine : is_readable w number.numeral ≡ true =
    and_from (nat_lt (length w) 65) (nat_lt (unsigned_abs (value_of number.numeral).exponent) 201) (lt-ltb _ _ (omega (arith, number.short))) (lt-ltb _ _ (omega (arith, number.within, ap (λ (x : Decimal). unsigned_abs x.exponent) number.value))) in
    rw (found, fine) (ap (λ (x : Decimal). Some x) number.value)

number_read_again : (w : Word) (d : Decimal) (n : ℕ) (t u : List ℕ) → IsNumberWord w d → t ≡ spaces n ++ (w ++ u) → Ends u → factor_at t ≡ Some (Number d, u)
unfolding factor_at number_at
number_read_again w d n t u number parts ends =
    let f = number_first w d number in
    let text : behind_spaces t ≡ f.byte ∷ (f.more ++ u) =
    behind_is n t (f.byte ∷ (f.more ++ u)) (parts ∙ ap (λ (z : List ℕ). spaces n ++ (z ++ u)) f.parts) f.no_space in
    let whole : w ++ u ≡ f.byte ∷ (f.more ++ u) = ap (λ (z : List ℕ). z ++ u) f.parts in
    let rest : after_number (f.byte ∷ (f.more ++ u)) ≡ Some u = ap after_number (sym whole) ∙ number_again w u (number.numeral, number.spells) (ends_below u ends) in
    let size : length (f.byte ∷ (f.more ++ u)) - length u ≡ length w = omega (arith, ap length whole, length-append w u) in
    let front : take (length w) (f.byte ∷ (f.more ++ u)) ≡ w = ap (take (length w)) (sym whole) ∙ take-append_seam w u in
    rw (text, f.no_letter, f.no_sign, rest, size, front, value_again w d number) refl

pub factor_again : (p : Part) (ws : List Word) (t u : List ℕ) → SpellsPart p ws → Begins ws t u → Ends u → factor_at t ≡ Some (p, u)
factor_again (Number d) ws t u (w, is, number) begins ends =
    let here = subst (λ (ws : List Word). Begins ws t u) is begins in
    number_read_again w d here.0 t u number (here.2 ∙ ap (λ (z : List ℕ). spaces here.0 ++ (w ++ z)) here.3) ends
factor_again T ws t u is begins ends =
    let here = subst (λ (ws : List Word). Begins ws t u) is begins in
    temperature_again t u here.0 (here.2 ∙ ap (λ (z : List ℕ). spaces here.0 ++ (codes "T" ++ z)) here.3) ends
factor_again (Power n) ws t u power begins ends = power_again n ws t u power begins ends
factor_again LnT ws t u is begins ends = logarithm_again t u (subst (λ (ws : List Word). Begins ws t u) is begins)
factor_again (Name name) ws t u is begins ends = name_again name ws t u is begins ends
