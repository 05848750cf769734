-- Each kind of line of a path: its words are just those that are understood.
use Rattle.std.proofs.Common.{◌≡◌, ℕ, zero, suc, ◌≤◌, ◌<◌, ◌^◌, Bool, true, false, cond, ltb, List, [], ◌∷◌, Option, Some, None, refl, sym, ap, ◌∙◌, arith}
use Rattle.std.specs.Prelude.{codes}
use Rattle.std.specs.List.{AllByRecursion}
use Rattle.std.proofs.lemmas.Bool.{ltb-true, lt-ltb, leb-true, le-leb}
use Rattle.cal_limits.specs.declared.TheConstants.{LOWEST_TEMPERATURE, HIGHEST_TEMPERATURE}
use Rattle.cal_scan.specs.Words.{same_word, is_name}
use Rattle.cal_scan.specs.Lines.{Word}
use Rattle.cal_lines.proofs.Lines.{IsWord, IsWords, Kind}
use Rattle.cal_scan.proofs.NameLists.{same-found, same-again, cond_found}
use Rattle.cal_lines.proofs.Sorts.{words_from, plain_from, name_word}
use Rattle.eq_text.specs.Kinds.{only_if, natural_after, is_temperature}
use Rattle.eq_text.proofs.Sayings.{kind_as, only_kind, natural_words, natural_kind, IsTemperature}
use Rattle.cef_path.specs.declared.finish.Finish.{Finish}
use Rattle.cef_path.specs.declared.finish.Finish.TheVariants.{NoLiquid, Fraction, Temperature}
use Rattle.cef_path.specs.Texts.{finish_word}
use Rattle.path_text.specs.Kinds.{name_after, positive_after, floor_of, finish_named, finish_of}

abbrev pub word_after : Word → Word → List Word
word_after key w = key ∷ w ∷ []

abbrev pub IsName : Word → Type 0
IsName w = is_name w ≡ true

pub name_kind : (key : Word) → IsWord key → Kind (word_after key) IsName (name_after key)
unfolding name_after
name_kind key is_key = record {
  found = λ ws n e. found ws n e;
  again = λ n fits. rw (same-again key, fits) refl;
  plain = λ n fits. words_from key (n ∷ []) is_key (name_word n fits, tt);
  example = (codes "A", unfold is_name in refl);
}
  where
    found : (ws : List Word) (n : Word) → name_after key ws ≡ Some n → (ws ≡ word_after key n) × IsName n
    found [] n e = absurd cc
    found (w ∷ []) n e = absurd cc
    found (w ∷ v ∷ []) n e =
        let p = cond_found (same_word w key) (cond (is_name v) (Some v) None) n e in
        let q = cond_found (is_name v) (Some v) n p.1 in
        let same : v ≡ n = cc in
        (rw (same-found w key p.0, same) refl, ap is_name (sym same) ∙ q.0)
    found (w ∷ v ∷ x ∷ ws) n e = absurd cc

abbrev pub IsUpFromOne : ℕ → ℕ → Type 0
IsUpFromOne limit n = (1 ≤ n) × (n ≤ limit)

pub positive_kind : (key : Word) (limit : ℕ) → IsWord key → limit < 10 ^ 64 → 1 ≤ limit → Kind (natural_words key) (IsUpFromOne limit) (positive_after key limit)
unfolding positive_after
positive_kind key limit is_key small some =
    kind_as (natural_words key) (λ n. (n ≤ limit) × (ltb 0 n ≡ true)) (IsUpFromOne limit) (positive_after key limit)
    (only_kind (ltb 0) (natural_words key) (λ n. n ≤ limit) (natural_after key limit) (natural_kind key limit is_key small) 1 some refl)
    (λ n fits. (let lt : 0 < n = ltb-true 0 n fits.1 in omega (arith, lt), fits.0)) (λ n fits. (fits.1, lt-ltb 0 n (omega (arith, fits.0))))

pub floor_kind : Kind (natural_words (codes "floor")) IsTemperature floor_of
unfolding floor_of
floor_kind =
    let numbers = natural_kind (codes "floor") HIGHEST_TEMPERATURE (plain_from (codes "floor") refl) (omega arith) in
    kind_as (natural_words (codes "floor")) (λ t. (t ≤ HIGHEST_TEMPERATURE) × (is_temperature t ≡ true)) IsTemperature floor_of
    (only_kind is_temperature (natural_words (codes "floor")) (λ t. t ≤ HIGHEST_TEMPERATURE) (natural_after (codes "floor") HIGHEST_TEMPERATURE) numbers LOWEST_TEMPERATURE (omega arith) refl)
    (λ t fits. (leb-true LOWEST_TEMPERATURE t fits.1, fits.0)) (λ t fits. (fits.1, le-leb LOWEST_TEMPERATURE t fits.0))

-- ---- why a path ends

abbrev pub AnyFinish : Finish → Type 0
AnyFinish f = Unit {0}

abbrev pub finish_words : Finish → List Word
finish_words f = codes "finish" ∷ finish_word f ∷ []

named-again : (f : Finish) → finish_named (finish_word f) ≡ Some f
unfolding finish_named same_word
named-again NoLiquid = refl
named-again Fraction = refl
named-again Temperature = refl

finish_plain : (f : Finish) → IsWord (finish_word f)
finish_plain NoLiquid = plain_from (codes "no-liquid") refl
finish_plain Fraction = plain_from (codes "fraction") refl
finish_plain Temperature = plain_from (codes "temperature") refl

named-found : (w : Word) (f : Finish) → finish_named w ≡ Some f → w ≡ finish_word f
unfolding finish_named
named-found w f e = first (same_word w (codes "no-liquid")) refl e
  where
    third : (b : Bool) → same_word w (codes "temperature") ≡ b → cond b (Some Temperature) None ≡ Some f → w ≡ finish_word f
    third true is e = let same : Temperature ≡ f = cc in same-found w (codes "temperature") is ∙ ap finish_word same
    third false is e = absurd cc

    second : (b : Bool) → same_word w (codes "fraction") ≡ b → cond b (Some Fraction) (cond (same_word w (codes "temperature")) (Some Temperature) None) ≡ Some f → w ≡ finish_word f
    second true is e = let same : Fraction ≡ f = cc in same-found w (codes "fraction") is ∙ ap finish_word same
    second false is e = third (same_word w (codes "temperature")) refl e

    first : (b : Bool) → same_word w (codes "no-liquid") ≡ b → cond b (Some NoLiquid) (cond (same_word w (codes "fraction")) (Some Fraction) (cond (same_word w (codes "temperature")) (Some Temperature) None)) ≡ Some f → w ≡ finish_word f
    first true is e = let same : NoLiquid ≡ f = cc in same-found w (codes "no-liquid") is ∙ ap finish_word same
    first false is e = second (same_word w (codes "fraction")) refl e

pub finish_kind : Kind finish_words AnyFinish finish_of
unfolding finish_of
finish_kind = record {
  found = λ ws f e. found ws f e;
  again = λ f fits. rw (same-again (codes "finish")) (named-again f);
  plain = λ f fits. (plain_from (codes "finish") refl, finish_plain f);
  example = (NoLiquid, tt);
}
  where
    found : (ws : List Word) (f : Finish) → finish_of ws ≡ Some f → (ws ≡ finish_words f) × Unit {0}
    found [] f e = absurd cc
    found (w ∷ []) f e = absurd cc
    found (w ∷ v ∷ []) f e = let p = cond_found (same_word w (codes "finish")) (finish_named v) f e in (rw (same-found w (codes "finish") p.0, named-found v f p.1) refl, tt)
    found (w ∷ v ∷ x ∷ ws) f e = absurd cc
