-- Words of kinds, and lines of such words: just the words that are written so are read.
use Rattle.std.proofs.Common.{◌≡◌, ℕ, ◌<◌, ◌^◌, true, cond, ltb, List, [], ◌∷◌, length, map, Option, Some, None, refl, sym, subst, arith}
use Rattle.std.specs.Prelude.{ℤ, codes, ◌&&◌}
use Rattle.std.specs.List.{AllByRecursion, list_all, IsDistinct}
use Rattle.std.specs.Fmt.{signed_decimal}
use Rattle.std.proofs.lemmas.Bool.{and_parts, and_from, ltb-true}
use Rattle.std.proofs.lemmas.Bool.Decides.{nat_tests}
use Rattle.cal_scan.specs.Bytes.{is_letter, is_name_byte}
use Rattle.cal_scan.specs.Words.{same_word, is_name}
use Rattle.cal_scan.specs.Lines.{Word}
use Rattle.cal_scan.specs.Names.{same_name, are_names, stands_in, IsWithin, AreNamesWithin, names_of}
use Rattle.cal_scan.proofs.NameLists.{same-found, same-again, cond_found, cond_both, are_names-again, names_of-found, names_of-again}
use Rattle.cal_lines.specs.Words.{integer_of}
use Rattle.cal_lines.specs.Kinds.{names_words, names_after, IsUpTo, with_value, all_integers}
use Rattle.cal_lines.proofs.Lines.{IsWord, IsWords, Kind}
use Rattle.cal_lines.proofs.Numbers.{integer-found, integer-again, signed_word}

-- ---- words

-- words that have only bytes above the space
pub words_from : (w : Word) (ws : List Word) → IsWord w → AllByRecursion IsWord ws → IsWords (w ∷ ws)
words_from w [] is all = is
words_from w (v ∷ ws) is all = (is, words_from v ws all.0 all.1)

pub plain_from : (w : Word) → list_all (λ b. ltb 32 b) w ≡ true → IsWord w
plain_from [] e = tt
plain_from (b ∷ w) e = let p = and_parts (ltb 32 b) (list_all (λ b. ltb 32 b) w) e in (ltb-true _ _ p.0, plain_from w p.1)

name_byte : (b : ℕ) → is_name_byte b ≡ true → ltb 32 b ≡ true
name_byte b e = grind (arith, nat_tests)

pub name_word : (w : Word) → is_name w ≡ true → IsWord w
unfolding is_name
name_word [] e = absurd cc
name_word (b ∷ w) e =
    let p = and_parts (is_letter b) (ltb (length (b ∷ w)) 41 && list_all is_name_byte (b ∷ w)) e in
    let q = and_parts (ltb (length (b ∷ w)) 41) (list_all is_name_byte (b ∷ w)) p.1 in
    plain_from (b ∷ w) (all_bytes (b ∷ w) q.1)
  where
    all_bytes : (w : Word) → list_all is_name_byte w ≡ true → list_all (λ b. ltb 32 b) w ≡ true
    all_bytes [] e = refl
    all_bytes (b ∷ w) e = let p = and_parts (is_name_byte b) (list_all is_name_byte w) e in and_from (ltb 32 b) (list_all (λ b. ltb 32 b) w) (name_byte b p.0) (all_bytes w p.1)

pub names_words_plain : (ws : List Word) → are_names ws ≡ true → AllByRecursion IsWord ws
unfolding are_names
names_words_plain [] e = tt
names_words_plain (w ∷ ws) e = let p = cond_both (is_name w) (stands_in w ws) (are_names ws) e in (name_word w p.0, names_words_plain ws p.2)

-- ---- lines of fixed words

pub two-found : (w k v j : Word) → cond (same_word w k) (cond (same_word v j) (Some (let t : Unit {0} = tt in t)) None) None ≡ Some tt → w ∷ v ∷ [] ≡ k ∷ j ∷ []
two-found w k v j e =
    let p = cond_found (same_word w k) (cond (same_word v j) (Some tt) None) tt e in
    let q = cond_found (same_word v j) (Some tt) tt p.1 in
    rw (same-found w k p.0, same-found v j q.0) refl

-- ---- names

pub names-found : (key : Word) (most : Option ℕ) (ws names : List Word) → names_after key most ws ≡ Some names → (ws ≡ names_words key names) × AreNamesWithin most names
names-found key most [] names e = absurd cc
names-found key most (w ∷ ws) names e =
    let p = cond_found (same_word w key) (names_of most ws) names e in
    let f = names_of-found most ws names p.1 in
    (rw (same-found w key p.0, f.1) refl, f.0)

pub names-again : (key : Word) (most : Option ℕ) (names : List Word) → AreNamesWithin most names → names_after key most (names_words key names) ≡ Some names
names-again key most names fits = rw (same-again key) (names_of-again most names fits)

-- Lines of a key and names: none twice, and at most so many where there is a limit.
pub names_kind : (key : Word) (most : Option ℕ) → IsWord key → IsWithin most 1 → Kind (names_words key) (AreNamesWithin most) (names_after key most)
names_kind key most key_word one_fits = record {
  found = λ ws names e. names-found key most ws names e;
  again = λ names fits. names-again key most names fits;
  plain = λ names fits. words_from key names key_word (names_words_plain names (are_names-again names fits.0.fine fits.0.distinct));
  example = (codes "A" ∷ [], (record { present = omega arith; fine = (one_name, tt); distinct = alone }, one_fits));
}
  where
    one_name : is_name (codes "A") ≡ true
    one_name = unfold is_name in refl

    alone : IsDistinct same_name (codes "A" ∷ [])
    alone = unfold IsDistinct in (tt, tt)

-- ---- numbers

pub integers-found : (limit : ℕ) → limit < 10 ^ 64 → (ws : List Word) (vs : List ℤ) → all_integers limit ws ≡ Some vs → (ws ≡ map signed_decimal vs) × AllByRecursion (IsUpTo limit) vs
unfolding all_integers
integers-found limit small [] vs e = let none : vs ≡ [] = cc in subst (λ (vs : List ℤ). ([] ≡ map signed_decimal vs) × AllByRecursion (IsUpTo limit) vs) (sym none) (refl, tt)
integers-found limit small (w ∷ ws) vs e = by_first (integer_of limit w) (all_integers limit ws) refl refl (λ us h. integers-found limit small ws us h) e
  where
    by_first : (o : Option ℤ) (os : Option (List ℤ)) → integer_of limit w ≡ o → all_integers limit ws ≡ os
        → ((us : List ℤ) → all_integers limit ws ≡ Some us → (ws ≡ map signed_decimal us) × AllByRecursion (IsUpTo limit) us)
        → with_value o os ≡ Some vs → (w ∷ ws ≡ map signed_decimal vs) × AllByRecursion (IsUpTo limit) vs
    by_first None os is iss rest e = absurd cc
    by_first (Some v) None is iss rest e = absurd cc
    by_first (Some v) (Some us) is iss rest e =
        let same : v ∷ us ≡ vs = cc in
        let f = integer-found limit v w small is in
        let r = rest us iss in
        subst (λ (vs : List ℤ). (w ∷ ws ≡ map signed_decimal vs) × AllByRecursion (IsUpTo limit) vs) same (rw (f.0, r.0) refl, (f.1, r.1))

pub integers-again : (limit : ℕ) → limit < 10 ^ 64 → (vs : List ℤ) → AllByRecursion (IsUpTo limit) vs → all_integers limit (map signed_decimal vs) ≡ Some vs
unfolding all_integers
integers-again limit small [] fits = refl
integers-again limit small (v ∷ vs) fits = rw (integer-again limit v small fits.0, integers-again limit small vs fits.1) refl

pub integers_plain : (limit : ℕ) → limit < 10 ^ 64 → (vs : List ℤ) → AllByRecursion (IsUpTo limit) vs → AllByRecursion IsWord (map signed_decimal vs)
integers_plain limit small [] fits = tt
integers_plain limit small (v ∷ vs) fits = (signed_word v (omega (arith, small, fits.0)), integers_plain limit small vs fits.1)
