-- Each kind of line: its words are just those that are understood.
use Rattle.std.proofs.Common.{◌≡◌, ℕ, zero, suc, ◌≤◌, ◌<◌, ◌^◌, Bool, true, false, cond, eqb, List, [], ◌∷◌, length, map, Option, Some, None, refl, sym, ap, ◌∙◌, arith}
use Rattle.std.specs.Prelude.{ℤ, pos, negsuc, ◌≤ℤ◌, codes, ◌||◌}
use Rattle.std.specs.List.{AllByRecursion, list_all, list_any}
use Rattle.std.specs.Fmt.{decimal, signed_decimal}
use Rattle.std.proofs.lemmas.Int.{ints}
use Rattle.std.proofs.lemmas.Bool.{and_parts, and_from, eqb-true, leb-true, le-leb}
use Rattle.std.proofs.lemmas.Bool.Decides.{nat_tests}
use Rattle.cal_scan.specs.Words.{same_word}
use Rattle.cef_core.specs.Lattices.{is_lattice}
use Rattle.cef_core.specs.declared.lattice.TheConstants.{LATTICES}
use Rattle.cal_limits.specs.declared.TheConstants.{LOWEST_TEMPERATURE, HIGHEST_TEMPERATURE, MOST_PARTS, MOST_ASKED, MOST_ENTRIES, MOST_NUMBER}
use Rattle.cef_report.specs.Spelled.{IsAsked, AreNumbers}
use Rattle.cal_scan.specs.Lines.{Word}
use Rattle.cef_report.specs.Texts.{number_words}
use Rattle.cal_lines.specs.Words.{natural_of, integer_of}
use Rattle.cal_lines.specs.Kinds.{IsUpTo, all_integers}
use Rattle.cal_lines.proofs.Lines.{IsWord, Kind}
use Rattle.cal_lines.proofs.Numbers.{natural-found, natural-again, integer-found, integer-again, decimal_word, signed_word}
use Rattle.cal_scan.proofs.NameLists.{same-found, same-again, cond_found}
use Rattle.cal_lines.proofs.Sorts.{words_from, plain_from, two-found, integers-found, integers-again, integers_plain}
use Rattle.eq_text.specs.Kinds.{only_if, two_words_of, end_of, natural_after, is_temperature, temperature_of, lattice_of, count_of, integer_after, is_natural, size_after, integers_after, asked_of}

-- ---- kinds of kinds

-- the same kind, with other words for what fits
pub kind_as : {A : Type 0} (words : A → List Word) (Fits Other : A → Type 0) (parse : List Word → Option A) → Kind words Fits parse → ((a : A) → Fits a → Other a) → ((a : A) → Other a → Fits a) → Kind words Other parse
kind_as words Fits Other parse kind to from = record {
  found = λ ws a e. let f = kind.found ws a e in (f.0, to a f.1);
  again = λ a fits. kind.again a (from a fits);
  plain = λ a fits. kind.plain a (from a fits);
  example = (kind.example.0, to kind.example.0 kind.example.1);
}

pub only_if-found : {A : Type 0} (test : A → Bool) (o : Option A) (a : A) → only_if test o ≡ Some a → (o ≡ Some a) × (test a ≡ true)
only_if-found test None a e = absurd cc
only_if-found test (Some b) a e =
    let p = cond_found (test b) (Some b) a e in
    let same : b ≡ a = cc in
    (p.1, ap test (sym same) ∙ p.0)

pub only_kind : {A : Type 0} (test : A → Bool) (words : A → List Word) (Fits : A → Type 0) (parse : List Word → Option A) → Kind words Fits parse → (a : A) → Fits a → test a ≡ true
    → Kind words (λ a. Fits a × (test a ≡ true)) (λ ws. only_if test (parse ws))
only_kind test words Fits parse kind some some_fits passes = record {
  found = λ ws a e. let p = only_if-found test (parse ws) a e in let f = kind.found ws a p.0 in (f.0, (f.1, p.1));
  again = λ a fits. rw (kind.again a fits.0, fits.1) refl;
  plain = λ a fits. kind.plain a fits.0;
  example = (some, (some_fits, passes));
}

-- ---- lines of fixed words

abbrev pub AnyUnit : Unit {0} → Type 0
AnyUnit u = Unit {0}

abbrev pub two_fixed : Word → Word → Unit {0} → List Word
two_fixed first second u = first ∷ second ∷ []

pub two_words_kind : (first second : Word) → IsWord first → IsWord second → Kind (two_fixed first second) AnyUnit (two_words_of first second)
two_words_kind first second is_first is_second = record {
  found = λ ws u e. found ws u e;
  again = λ u fits. rw (same-again first, same-again second) refl;
  plain = λ u fits. (is_first, is_second);
  example = (tt, tt);
}
  where
    found : (ws : List Word) (u : Unit {0}) → two_words_of first second ws ≡ Some u → (ws ≡ two_fixed first second u) × Unit {0}
    found [] u e = absurd cc
    found (w ∷ []) u e = absurd cc
    found (w ∷ v ∷ []) u e = (two-found w first v second e, tt)
    found (w ∷ v ∷ x ∷ ws) u e = absurd cc

abbrev pub end_words : Unit {0} → List Word
end_words u = codes "end" ∷ []

pub end_kind : Kind end_words AnyUnit end_of
end_kind = record {
  found = λ ws u e. found ws u e;
  again = λ u fits. rw (same-again (codes "end")) refl;
  plain = λ u fits. plain_from (codes "end") refl;
  example = (tt, tt);
}
  where
    found : (ws : List Word) (u : Unit {0}) → end_of ws ≡ Some u → (ws ≡ end_words u) × Unit {0}
    found [] u e = absurd cc
    found (w ∷ []) u e = let p = cond_found (same_word w (codes "end")) (Some tt) u e in (ap (λ (v : Word). v ∷ []) (same-found w (codes "end") p.0), tt)
    found (w ∷ v ∷ ws) u e = absurd cc

-- ---- one number

abbrev pub natural_words : Word → ℕ → List Word
natural_words key n = key ∷ decimal n ∷ []

pub natural_kind : (key : Word) (limit : ℕ) → IsWord key → limit < 10 ^ 64 → Kind (natural_words key) (λ n. n ≤ limit) (natural_after key limit)
natural_kind key limit is_key small = record {
  found = λ ws n e. found ws n e;
  again = λ n fits. rw (same-again key) (natural-again limit n (omega (arith, fits)) fits);
  plain = λ n fits. words_from key (decimal n ∷ []) is_key (decimal_word n (omega (arith, fits)), tt);
  example = (0, omega arith);
}
  where
    found : (ws : List Word) (n : ℕ) → natural_after key limit ws ≡ Some n → (ws ≡ natural_words key n) × (n ≤ limit)
    found [] n e = absurd cc
    found (w ∷ []) n e = absurd cc
    found (w ∷ v ∷ []) n e =
        let p = cond_found (same_word w key) (natural_of limit v) n e in
        let r = natural-found limit n v small p.1 in
        (rw (same-found w key p.0, r.0) refl, r.1)
    found (w ∷ v ∷ x ∷ ws) n e = absurd cc

abbrev pub IsTemperature : ℕ → Type 0
IsTemperature t = (LOWEST_TEMPERATURE ≤ t) × (t ≤ HIGHEST_TEMPERATURE)

pub temperature_kind : Kind (natural_words (codes "temperature")) IsTemperature temperature_of
unfolding temperature_of
temperature_kind =
    let numbers = natural_kind (codes "temperature") HIGHEST_TEMPERATURE (plain_from (codes "temperature") refl) (omega arith) in
    kind_as (natural_words (codes "temperature")) (λ t. (t ≤ HIGHEST_TEMPERATURE) × (is_temperature t ≡ true)) IsTemperature temperature_of
    (only_kind is_temperature (natural_words (codes "temperature")) (λ t. t ≤ HIGHEST_TEMPERATURE) (natural_after (codes "temperature") HIGHEST_TEMPERATURE) numbers LOWEST_TEMPERATURE (omega arith) refl)
    (λ t fits. (leb-true LOWEST_TEMPERATURE t fits.1, fits.0)) (λ t fits. (fits.1, le-leb LOWEST_TEMPERATURE t fits.0))

abbrev pub IsLattice : ℕ → Type 0
IsLattice n = is_lattice n ≡ true

lattice_small : (n : ℕ) → is_lattice n ≡ true → n ≤ MOST_PARTS
lattice_small n e = among LATTICES n (omega arith, (omega arith, (omega arith, (omega arith, (omega arith, (omega arith, (omega arith, (omega arith, (omega arith, (omega arith, (omega arith, tt))))))))))) e
  where
    either : (a b : Bool) {P : Type 0} → (a || b) ≡ true → (a ≡ true → P) → (b ≡ true → P) → P
    either true b e left right = left refl
    either false b e left right = right e

    among : (ls : List ℕ) (n : ℕ) → AllByRecursion (λ l. l ≤ MOST_PARTS) ls → list_any (λ l. eqb n l) ls ≡ true → n ≤ MOST_PARTS
    among [] n all e = absurd cc
    among (l ∷ ls) n all e = either (eqb n l) (list_any (λ l. eqb n l) ls) e (λ is. let same : n ≡ l = eqb-true _ _ is in omega (arith, all.0, same)) (λ is. among ls n all.1 is)

pub lattice_kind : Kind (natural_words (codes "lattice")) IsLattice lattice_of
unfolding lattice_of
lattice_kind =
    let numbers = natural_kind (codes "lattice") MOST_PARTS (plain_from (codes "lattice") refl) (omega arith) in
    kind_as (natural_words (codes "lattice")) (λ n. (n ≤ MOST_PARTS) × (is_lattice n ≡ true)) IsLattice lattice_of
    (only_kind is_lattice (natural_words (codes "lattice")) (λ n. n ≤ MOST_PARTS) (natural_after (codes "lattice") MOST_PARTS) numbers 10 (omega arith) refl)
    (λ n fits. fits.1) (λ n fits. (lattice_small n fits, fits))

pub count_kind : Kind (natural_words (codes "entries")) (λ n. n ≤ MOST_ENTRIES) count_of
unfolding count_of
count_kind = natural_kind (codes "entries") MOST_ENTRIES (plain_from (codes "entries") refl) (omega arith)

abbrev pub integer_words : Word → ℤ → List Word
integer_words key v = key ∷ signed_decimal v ∷ []

pub integer_kind : (key : Word) (limit : ℕ) → IsWord key → limit < 10 ^ 64 → Kind (integer_words key) (IsUpTo limit) (integer_after key limit)
integer_kind key limit is_key small = record {
  found = λ ws v e. found ws v e;
  again = λ v fits. rw (same-again key) (integer-again limit v small fits);
  plain = λ v fits. words_from key (signed_decimal v ∷ []) is_key (signed_word v (omega (arith, fits)), tt);
  example = (pos 0, omega arith);
}
  where
    found : (ws : List Word) (v : ℤ) → integer_after key limit ws ≡ Some v → (ws ≡ integer_words key v) × IsUpTo limit v
    found [] v e = absurd cc
    found (w ∷ []) v e = absurd cc
    found (w ∷ n ∷ []) v e =
        let p = cond_found (same_word w key) (integer_of limit n) v e in
        let r = integer-found limit v n small p.1 in
        (rw (same-found w key p.0, r.0) refl, r.1)
    found (w ∷ n ∷ x ∷ ws) v e = absurd cc

-- from 0 to the limit
abbrev pub IsSize : ℕ → ℤ → Type 0
IsSize limit v = (pos 0 ≤ℤ v) × (v ≤ℤ pos limit)

to_size : (limit : ℕ) (v : ℤ) → IsUpTo limit v × (is_natural v ≡ true) → IsSize limit v
to_size limit (pos n) fits = (omega (arith, ints), let le : n ≤ limit = fits.0 in omega (arith, ints, le))
to_size limit (negsuc n) fits = let no : false ≡ true = fits.1 in absurd cc

from_size : (limit : ℕ) (v : ℤ) → IsSize limit v → IsUpTo limit v × (is_natural v ≡ true)
from_size limit (pos n) fits = (omega (arith, ints, fits.1), refl)
from_size limit (negsuc n) fits = absurd (omega (arith, ints, fits.0))

pub size_kind : (key : Word) (limit : ℕ) → IsWord key → limit < 10 ^ 64 → Kind (integer_words key) (IsSize limit) (size_after key limit)
unfolding size_after
size_kind key limit is_key small =
    kind_as (integer_words key) (λ v. IsUpTo limit v × (is_natural v ≡ true)) (IsSize limit) (size_after key limit)
    (only_kind is_natural (integer_words key) (IsUpTo limit) (integer_after key limit) (integer_kind key limit is_key small) (pos 0) (omega arith) refl)
    (to_size limit) (from_size limit)

-- ---- many numbers

abbrev pub AreUpTo : ℕ → ℕ → List ℤ → Type 0
AreUpTo n limit vs = (length vs ≡ n) × AllByRecursion (IsUpTo limit) vs

length_map : (vs : List ℤ) → length (map signed_decimal vs) ≡ length vs
length_map [] = refl
length_map (v ∷ vs) = ap suc (length_map vs)

pub zeros : (limit n : ℕ) → (vs : List ℤ) × AreUpTo n limit vs × (list_all is_natural vs ≡ true)
zeros limit zero = ([], (refl, tt), refl)
zeros limit (suc n) = let r = zeros limit n in (pos 0 ∷ r.0, (ap suc r.1.0, (omega arith, r.1.1)), r.2)

pub integers_kind : (key : Word) (n limit : ℕ) → IsWord key → limit < 10 ^ 64 → Kind (number_words key) (AreUpTo n limit) (integers_after key n limit)
integers_kind key n limit is_key small = record {
  found = λ ws vs e. found ws vs e;
  again = λ vs fits. again vs fits;
  plain = λ vs fits. words_from key (map signed_decimal vs) is_key (integers_plain limit small vs fits.1);
  example = let z = zeros limit n in (z.0, z.1);
}
  where
    found : (ws : List Word) (vs : List ℤ) → integers_after key n limit ws ≡ Some vs → (ws ≡ number_words key vs) × AreUpTo n limit vs
    found [] vs e = absurd cc
    found (w ∷ ws) vs e =
        let p = cond_found (same_word w key) (cond (eqb (length ws) n) (all_integers limit ws) None) vs e in
        let q = cond_found (eqb (length ws) n) (all_integers limit ws) vs p.1 in
        let f = integers-found limit small ws vs q.1 in
        let len : length ws ≡ n = eqb-true _ _ q.0 in
        (rw (same-found w key p.0, f.0) refl, (sym (length_map vs) ∙ ap length (sym f.0) ∙ len, f.1))

    again : (vs : List ℤ) → AreUpTo n limit vs → integers_after key n limit (number_words key vs) ≡ Some vs
    again vs fits =
        let size : eqb (length (map signed_decimal vs)) n ≡ true = let e : length (map signed_decimal vs) ≡ n = length_map vs ∙ fits.0 in grind (arith, nat_tests) in
        rw (same-again key, size) (integers-again limit small vs fits.1)

pub numbers_kind : (key : Word) (n : ℕ) → IsWord key → Kind (number_words key) (AreNumbers n) (integers_after key n MOST_NUMBER)
numbers_kind key n is_key = integers_kind key n MOST_NUMBER is_key (omega arith)

abbrev pub AreAsked : ℕ → List ℤ → Type 0
AreAsked n vs = (length vs ≡ n) × AllByRecursion IsAsked vs

to_asked : (vs : List ℤ) → AllByRecursion (IsUpTo MOST_ASKED) vs → list_all is_natural vs ≡ true → AllByRecursion IsAsked vs
to_asked [] all e = tt
to_asked (v ∷ vs) all e = let p = and_parts (is_natural v) (list_all is_natural vs) e in (to_size MOST_ASKED v (all.0, p.0), to_asked vs all.1 p.1)

from_asked : (vs : List ℤ) → AllByRecursion IsAsked vs → AllByRecursion (IsUpTo MOST_ASKED) vs × (list_all is_natural vs ≡ true)
from_asked [] all = (tt, refl)
from_asked (v ∷ vs) all =
    let p = from_size MOST_ASKED v all.0 in
    let r = from_asked vs all.1 in
    ((p.0, r.0), and_from (is_natural v) (list_all is_natural vs) p.1 r.1)

pub asked_kind : (n : ℕ) → Kind (number_words (codes "asked")) (AreAsked n) (asked_of n)
unfolding asked_of
asked_kind n =
    let z = zeros MOST_ASKED n in
    kind_as (number_words (codes "asked")) (λ vs. AreUpTo n MOST_ASKED vs × (list_all is_natural vs ≡ true)) (AreAsked n) (asked_of n)
    (only_kind (list_all is_natural) (number_words (codes "asked")) (AreUpTo n MOST_ASKED) (integers_after (codes "asked") n MOST_ASKED) (integers_kind (codes "asked") n MOST_ASKED (plain_from (codes "asked") refl) (omega arith)) z.0 z.1 z.2)
    (λ vs fits. (fits.0.0, to_asked vs fits.0.1 fits.1)) (λ vs fits. let r = from_asked vs fits.1 in ((fits.0, r.0), r.1))
