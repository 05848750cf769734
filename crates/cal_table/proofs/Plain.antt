-- no field of a table needs quotes
use Rattle.std.proofs.Common.{◌≡◌, ℕ, zero, suc, ◌+◌, ◌/◌, ◌%◌, ◌^◌, ◌<◌, ◌≤◌, true, false, eqb, List, [], ◌∷◌, ◌++◌, length, map, refl, ◌∙◌, arith}
use Rattle.std.specs.Prelude.{ℤ, pos, negsuc, unsigned_abs, slice_index_or, ◌≤ℤ◌}
use Rattle.std.specs.List.{AllByRecursion, join_with_byte, list_all}
use Rattle.std.specs.Fmt.{decimal, signed_decimal}
use Rattle.std.proofs.lemmas.Int.{ints}
use Rattle.cal_limits.specs.declared.TheConstants.{MOST_ASKED}
use Rattle.cef_report.specs.declared.entry.Entry.{Entry}
use Rattle.std.proofs.lemmas.Bool.{and_parts}
use Rattle.std.proofs.lemmas.Bool.Decides.{nat_tests}
use Rattle.std.proofs.lemmas.List.Folds.{list_any-append}
use Rattle.csv.specs.Writing.{default_writer, needs_byte}
use Rattle.cal_dec.specs.Printed.{last_digits}
use Rattle.cal_scan.specs.Bytes.{is_digit, is_letter, is_name_byte}
use Rattle.cal_scan.specs.Lines.{Word}
use Rattle.cal_scan.specs.Words.{is_name}
use Rattle.cal_scan.proofs.Decimals.{decimal-writes}
use Rattle.cal_scan.proofs.Values.{digit_range}
use Rattle.cef_report.specs.Spelled.{IsSpelledEntry, AreCounts}
use Rattle.cef_report.specs.Texts.{more_counts}
use Rattle.cal_table.specs.Tables.{Field, kelvin, constitution, header, entry_fields}
use Rattle.cal_table.specs.Records.{IsPlain, ArePlain}

-- ---- bytes

-- a space, and each byte behind the comma
other : (b k : ℕ) → (b ≡ k → ⊥) → eqb b k ≡ false
other b k ne = grind (arith, nat_tests)

behind_comma : (b : ℕ) → 44 < b → needs_byte default_writer b ≡ false
behind_comma b lt = rw (other b 44 (λ e. omega (arith, e)), other b 34 (λ e. omega (arith, e)), other b 13 (λ e. omega (arith, e)), other b 10 (λ e. omega (arith, e))) refl

-- ---- parts of fields

pub plain_byte : (b : ℕ) (bs : Field) → 44 < b → IsPlain bs → IsPlain (b ∷ bs)
plain_byte b bs lt plain = rw (behind_comma b lt, plain) refl

plain_both : (v w : Field) → IsPlain v → IsPlain w → IsPlain (v ++ w)
plain_both v w a b = list_any-append (needs_byte default_writer) v w ∙ rw (a, b) refl

plain_digits : (ds : Field) → list_all is_digit ds ≡ true → IsPlain ds
plain_digits [] all = refl
plain_digits (d ∷ ds) all =
    let p = and_parts (is_digit d) (list_all is_digit ds) all in
    let range = digit_range d p.0 in
    plain_byte d ds (omega (arith, range.0)) (plain_digits ds p.1)

pub plain_decimal : (n : ℕ) → n < 10 ^ 64 → IsPlain (decimal n)
plain_decimal n small = plain_digits (decimal n) (decimal-writes n small).digits

-- ---- fields

pub plain_kelvin : (t : ℕ) → t < 2 ^ 32 → IsPlain (kelvin t)
unfolding kelvin last_digits
plain_kelvin t fits =
    let whole : t / 10 ^ 2 < 10 ^ 64 = omega arith in
    plain_both (decimal (t / 10 ^ 2)) (46 ∷ last_digits 2 t) (plain_decimal (t / 10 ^ 2) whole)
    (plain_byte 46 (last_digits 2 t) (omega arith) (plain_byte (48 + t / 10 % 10) ((48 + t % 10) ∷ []) (omega arith) (plain_byte (48 + t % 10) [] (omega arith) refl)))

name_byte : (b : ℕ) → is_name_byte b ≡ true → 44 < b
name_byte b on = grind (arith, nat_tests)

name_bytes : (bs : Field) → list_all is_name_byte bs ≡ true → IsPlain bs
name_bytes [] all = refl
name_bytes (b ∷ bs) all = let p = and_parts (is_name_byte b) (list_all is_name_byte bs) all in plain_byte b bs (name_byte b p.0) (name_bytes bs p.1)

plain_name : (name : Word) → is_name name ≡ true → IsPlain name
unfolding is_name
plain_name [] is = refl
plain_name (b ∷ bs) is = name_bytes (b ∷ bs) ((and_parts _ _ (and_parts (is_letter b) _ is).1).1)

pub plain_phase : (phases : List Word) (place : ℕ) → AllByRecursion (λ name. is_name name ≡ true) phases → IsPlain (slice_index_or phases place [])
plain_phase [] place are = refl
plain_phase (p ∷ ps) zero are = plain_name p are.0
plain_phase (p ∷ ps) (suc place) are = plain_phase ps place are.1

pub plain_amount : (amount : ℤ) → unsigned_abs amount < 10 ^ 64 → IsPlain (signed_decimal amount)
plain_amount (pos n) small = plain_decimal n small
plain_amount (negsuc n) small = plain_byte 45 (decimal (suc n)) (omega arith) (plain_decimal (suc n) small)

-- ---- words with a space between them

plain_joined : (words : List Word) → AllByRecursion IsPlain words → IsPlain (join_with_byte 32 words)
plain_joined [] are = refl
plain_joined (w ∷ []) are = are.0
plain_joined (w ∷ v ∷ ws) are = plain_both w (32 ∷ join_with_byte 32 (v ∷ ws)) are.0 (plain_joined (v ∷ ws) are.1)

plain_words : (vs ws : List Word) → AllByRecursion IsPlain vs → AllByRecursion IsPlain ws → AllByRecursion IsPlain (vs ++ ws)
plain_words [] ws a b = b
plain_words (v ∷ vs) ws a b = (a.0, plain_words vs ws a.1 b)

plain_counts : (counts : List ℕ) → AllByRecursion (λ k. k ≤ 65535) counts → AllByRecursion IsPlain (map decimal counts)
plain_counts [] are = tt
plain_counts (k ∷ ks) are = (plain_decimal k (omega (arith, are.0)), plain_counts ks are.1)

plain_more : (lists : List (List ℕ)) → AllByRecursion AreCounts lists → AllByRecursion IsPlain (more_counts lists)
plain_more [] are = tt
plain_more (counts ∷ lists) are = (refl, plain_words (map decimal counts) (more_counts lists) (plain_counts counts are.0.1) (plain_more lists are.1))

pub plain_site : (site : List (List ℕ)) → AllByRecursion AreCounts site → IsPlain (constitution site)
unfolding constitution
plain_site [] are = refl
plain_site (counts ∷ lists) are = plain_joined (map decimal counts ++ more_counts lists) (plain_words (map decimal counts) (more_counts lists) (plain_counts counts are.0.1) (plain_more lists are.1))

-- ---- records

pub plain_header : ArePlain header
plain_header = record { several = omega arith; plain = (refl, (refl, (refl, (refl, (refl, tt))))) }

asked_small : (amount : ℤ) → pos 1 ≤ℤ amount → amount ≤ℤ pos MOST_ASKED → unsigned_abs amount < 10 ^ 64
asked_small (pos n) low high = omega (arith, ints, high)
asked_small (negsuc n) low high = absurd (omega (arith, ints, low))

pub plain_entry : (number t : ℕ) (phases : List Word) (entry : Entry) → number < 2 ^ 32 → t < 2 ^ 32 → AllByRecursion (λ name. is_name name ≡ true) phases → IsSpelledEntry (length phases) entry → ArePlain (entry_fields number t phases entry)
plain_entry number t phases entry small fits names is = record {
  several = omega arith;
  plain = (plain_decimal number (omega arith), (plain_kelvin t fits, (plain_phase phases entry.phase names, (plain_amount entry.amount (asked_small entry.amount is.amount_low is.amount_high), (plain_site entry.site is.site.counts, tt)))));
}

-- the fields as they are computed one by one
pub plain_fields : (number t : ℕ) (phases : List Word) (entry : Entry) (a b c d e : Field) → number < 2 ^ 32 → t < 2 ^ 32 → AllByRecursion (λ name. is_name name ≡ true) phases → IsSpelledEntry (length phases) entry
    → a ≡ decimal number → b ≡ kelvin t → c ≡ slice_index_or phases entry.phase [] → d ≡ signed_decimal entry.amount → e ≡ constitution entry.site → ArePlain (a ∷ b ∷ c ∷ d ∷ e ∷ [])
plain_fields number t phases entry a b c d e small fits names is same_a same_b same_c same_d same_e =
    rw (same_a, same_b, same_c, same_d, same_e) (plain_entry number t phases entry small fits names is)
