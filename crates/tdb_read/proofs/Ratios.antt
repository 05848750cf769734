-- The ratios of a phase.
use Rattle.std.proofs.Common.{◌≡◌, ℕ, zero, suc, ◌+◌, ◌<◌, ◌≤◌, List, [], ◌∷◌, ◌++◌, length, Option, Some, None, refl, sym, ap, subst, ◌∙◌, append_assoc, append-nil, arith}
use Rattle.std.specs.Prelude.{ℤ, pos, ◌<ℤ◌, ◌≤ℤ◌}
use Rattle.std.proofs.lemmas.Int.{ints}
use Rattle.cal_dec.specs.declared.dec.Dec.{Dec}
use Rattle.cal_dec.specs.Decimals.{Decimal, decimal_of}
use Rattle.cal_dec.specs.Numerals.{Numeral, value_of}
use Rattle.cal_dec.proofs.Spelling.{numeral_again}
use Rattle.cal_scan.specs.FrontTokens.{first_token, behind_token}
use Rattle.tdb_forms.specs.Numbers.{IsReadable}
use Rattle.tdb_read.specs.Phase.{AreRatios}

-- ---- one number of a token

pub readable_once : (token : List ℕ) (a b : Dec) → IsReadable token a → IsReadable token b → decimal_of a ≡ decimal_of b
readable_once token a b one two =
    let same : one.numeral ≡ two.numeral = cc (numeral_again one.numeral token one.spells, numeral_again two.numeral token two.spells) in
    one.value ∙ ap value_of same ∙ sym two.value

pub not_above : (token : List ℕ) (a : Dec) → IsReadable token a → ((pos 0 <ℤ a.mantissa) → ⊥) → (b : Dec) → IsReadable token b × (pos 0 <ℤ b.mantissa) → ⊥
not_above token a one low b two =
    low (subst (λ (z : ℤ). pos 0 <ℤ z) (ap (λ (d : Decimal). d.mantissa) (readable_once token b a two.0 one)) two.1)

-- ---- the ratios

abbrev IsRatioOf : List ℕ → Dec → Type 0
IsRatioOf token d = IsReadable token d × (pos 0 <ℤ d.mantissa)

pub record Held (n : ℕ) (text : List ℕ) (done : List Dec) (rest : List ℕ) (i : ℕ) : Type 0 where
  pub count : length done ≡ i
  pub fore : (ds : List Dec) → AreRatios rest ds → AreRatios text (done ++ ds)
  pub back : (ds : List Dec) → AreRatios text ds → length ds ≡ n → (es : List Dec) × AreRatios rest es × (length es + i ≡ n)

pub held_start : (n : ℕ) (text : List ℕ) → Held n text [] text 0
held_start n text = record { count = refl; fore = λ ds are. are; back = λ ds are e. (ds, are, omega (arith, e)) }

pub held_none : (n : ℕ) (text : List ℕ) (done : List Dec) (rest : List ℕ) (i : ℕ) → i < n → Held n text done rest i → ((d : Dec) → IsRatioOf (first_token rest) d → ⊥) → (ds : List Dec) → (length ds ≡ n) × AreRatios text ds → ⊥
held_none n text done rest i lt held none ds are = first (held.back ds are.1 are.0).0 (held.back ds are.1 are.0).1 (held.back ds are.1 are.0).2
  where
    first : (es : List Dec) → AreRatios rest es → length es + i ≡ n → ⊥
    first [] are e = absurd (omega (arith, e, lt))
    first (e ∷ es) are same = none e (are.0, are.1)

pub held_next : (n : ℕ) (text : List ℕ) (done : List Dec) (rest : List ℕ) (i : ℕ) (d : Dec) → i < n → Held n text done rest i → IsRatioOf (first_token rest) d → Held n text (done ++ d ∷ []) (behind_token rest) (i + 1)
held_next n text done rest i d lt held is = record {
  count = omega (arith, held.count, length_push done d);
  fore = λ ds are. rw (append_assoc done (d ∷ []) ds) (held.fore (d ∷ ds) (is.0, is.1, are));
  back = λ ds are e. behind (held.back ds are e).0 (held.back ds are e).1 (held.back ds are e).2;
}
  where
    length_push : (xs : List Dec) (x : Dec) → length (xs ++ x ∷ []) ≡ length xs + 1
    length_push [] x = refl
    length_push (y ∷ ys) x = omega (arith, length_push ys x)

    behind : (es : List Dec) → AreRatios rest es → length es + i ≡ n → (fs : List Dec) × AreRatios (behind_token rest) fs × (length fs + (i + 1) ≡ n)
    behind [] are e = absurd (omega (arith, e, lt))
    behind (x ∷ es) are e = (es, are.2, omega (arith, e))

pub held_end : (n : ℕ) (text : List ℕ) (done : List Dec) (rest : List ℕ) (i : ℕ) → n ≤ i → i ≤ n → Held n text done rest i → (length done ≡ n) × AreRatios text done
held_end n text done rest i le ge held = (omega (arith, held.count, le, ge), subst (AreRatios text) (append-nil done) (held.fore [] tt))
