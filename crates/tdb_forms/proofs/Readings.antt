-- Numbers, and the longest of them at the front of a text.
use Rattle.std.proofs.Common.{◌≡◌, ℕ, ◌<◌, ◌≤◌, ◌⊎◌, List, length, take, drop, ◌++◌, Option, Some, None, Result, Ok, Err, inl, inr, refl, sym, ap, subst, ◌∙◌, arith}
use Rattle.std.specs.Prelude.{◌↔◌, IfOk, unsigned_abs, ℤ}
use Rattle.std.proofs.lemmas.List.{take_at}
use Rattle.std.proofs.lemmas.List.Prefix.{front_rest}
use Rattle.cal_dec.specs.declared.dec.Dec.{Dec}
use Rattle.cal_dec.specs.declared.reading.DecFault.{DecFault}
use Rattle.cal_dec.specs.declared.reading.DecFault.TheVariants.{NotANumber, TooLong}
use Rattle.cal_dec.specs.Decimals.{Decimal, decimal_of}
use Rattle.cal_dec.specs.Numerals.{Numeral, Spells, IsNumber, value_of}
use Rattle.cal_dec.specs.Scanning.{numeral_in}
use Rattle.cal_dec.specs.Fronts.{IsLongestNumber, HasNoNumber}
use Rattle.cal_dec.proofs.Spelling.{numeral_again, numeral_found}
use Rattle.tdb_forms.specs.Finding.{Finds}
use Rattle.tdb_forms.specs.Numbers.{IsReadable, BeginsWithNumber}

-- what `read_dec` says of its answer
pub record Reads (token : List ℕ) (r : Result Dec DecFault) : Type 0 where
  pub not_a_number : (r ≡ Err NotANumber) ↔ ¬ (IsNumber token)
  pub too_long : (n : Numeral) → Spells n token → ((r ≡ Err TooLong) ↔ ((64 < length token) ⊎ (200 < unsigned_abs (value_of n).exponent)))
  pub value : (n : Numeral) → Spells n token → IfOk r (λ d. decimal_of d ≡ value_of n)

not_long : (n : ℕ) → ((64 < n) → ⊥) → n ≤ 64
not_long n h = grind arith

not_wide : (n : ℕ) → ((200 < n) → ⊥) → n ≤ 200
not_wide n h = grind arith

read_of : (token : List ℕ) (d : Dec) (n : Numeral) → Spells n token → Reads token (Ok d) → IsReadable token d
read_of token d n spells reads =
    let is : decimal_of d ≡ value_of n = reads.value n spells in
    let same : d.exponent ≡ (value_of n).exponent = ap (λ (x : Decimal). x.exponent) is in
    record {
      numeral = n;
      spells = spells;
      short = not_long (length token) (λ h. absurd (cc ((reads.too_long n spells).1 (inl h))));
      value = is;
      within = rw same (not_wide (unsigned_abs (value_of n).exponent) (λ h. absurd (cc ((reads.too_long n spells).1 (inr h)))));
    }

pub read_ok : (token : List ℕ) (d : Dec) → Reads token (Ok d) → IsReadable token d
read_ok token d reads = by_numeral (numeral_in token) refl
  where
    by_numeral : (o : Option Numeral) → numeral_in token ≡ o → IsReadable token d
    by_numeral (Some n) is = read_of token d n (numeral_found token n is) reads
    by_numeral None is = absurd (cc (reads.not_a_number.1 (λ number. absurd (cc (is, numeral_again number.0 token number.1)))))

pub read_err : (token : List ℕ) (e : DecFault) → Reads token (Err e) → (d : Dec) → IsReadable token d → ⊥
read_err token NotANumber reads d is = reads.not_a_number.0 refl (is.numeral, is.spells)
read_err token TooLong reads d is =
    let same : d.exponent ≡ (value_of is.numeral).exponent = ap (λ (x : Decimal). x.exponent) is.value in
    let narrow : unsigned_abs (value_of is.numeral).exponent ≤ 200 = subst (λ (z : ℤ). unsigned_abs z ≤ 200) same is.within in
    elim ((reads.too_long is.numeral is.spells).0 refl) [
      | inl long ↦ absurd (omega (arith, long, is.short))
      | inr wide ↦ absurd (omega (arith, wide, narrow))
    ]

-- ---- the longest number

pub longest_once : (text a b c d : List ℕ) → IsLongestNumber text a b → IsLongestNumber text c d → (a ≡ c) × (b ≡ d)
longest_once text a b c d one two =
    let same : length a ≡ length c = omega (arith, one.longest c d two.text_is two.number, two.longest a b one.text_is one.number) in (
      sym (take_at a b (length c) same) ∙ ap (take (length c)) (sym one.text_is ∙ two.text_is) ∙ take_at c d (length c) refl,
      sym (front_rest text a b one.text_is) ∙ ap (λ (n : ℕ). drop n text) same ∙ front_rest text c d two.text_is,
    )

-- the longest number is not readable
pub unreadable : (text front rest : List ℕ) (o : Option Dec) → IsLongestNumber text front rest → Finds (IsReadable front) o → o ≡ None → (d : Dec) (behind : List ℕ) → BeginsWithNumber text d behind → ⊥
unreadable text front rest o longest found none d behind begins =
    let nothing : (d : Dec) → IsReadable front d → ⊥ = subst (Finds (IsReadable front)) none found in
    nothing d (subst (λ (w : List ℕ). IsReadable w d) (longest_once text begins.front behind front rest begins.longest longest).0 begins.readable)

pub no_number : (text : List ℕ) → HasNoNumber text → (d : Dec) (behind : List ℕ) → BeginsWithNumber text d behind → ⊥
no_number text none d behind begins = none begins.front behind begins.longest.text_is begins.longest.number
