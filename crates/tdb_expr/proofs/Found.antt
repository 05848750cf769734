-- What is read of a factor is spelled by words at the front of the text.
use Rattle.std.proofs.Common.{◌≡◌, ℕ, zero, suc, ◌+◌, ◌-◌, ◌<◌, ◌≤◌, ◌⊎◌, inl, inr, List, [], ◌∷◌, ◌++◌, length, take, drop, length-append, Option, Some, None, Bool, true, false, cond, eqb, refl, sym, ap, subst, ◌∙◌, arith}
use Rattle.std.specs.Prelude.{ℤ, pos, unsigned_abs, codes, nat_lt, not, ◌&&◌}
use Rattle.std.specs.Cmp.Lexicographic.{same_text}
use Rattle.std.specs.List.{prefix_len}
use Rattle.std.specs.Str.Parse.{AllDigits, digits_value}
use Rattle.std.proofs.Math.Seq.{take-append_seam}
use Rattle.std.proofs.lemmas.Bool.{cases_lt, and_parts, ltb-true, lt-ltb}
use Rattle.std.proofs.lemmas.Int.{ints}
use Rattle.std.proofs.lemmas.List.{take-append-drop}
use Rattle.cal_dec.specs.Decimals.{Decimal, decimal_of}
use Rattle.cal_dec.specs.Signs.{signed}
use Rattle.cal_dec.specs.Numerals.{Sign, Absent, Plus, Minus, is_minus, sign_text, fraction_text, power_text, Numeral, Spells, numeral_text, value_of}
use Rattle.cal_dec.specs.Scanning.{digits_in, after_digits, numeral_in, after_number}
use Rattle.cal_dec.proofs.Spelling.{numeral_found, digits_found}
use Rattle.cal_dec.proofs.Longest.{front_found}
use Rattle.cal_scan.specs.Bytes.{is_letter, is_name_byte}
use Rattle.cal_scan.specs.Words.{same_word}
use Rattle.cal_scan.specs.Fronts.{behind_spaces, name_bytes_at}
use Rattle.tdb_expr.specs.Grammar.{Word, spaces, Begins, IsNumberWord, WritesDigits, sign_words, SpellsPlain, SpellsBracketed, SpellsExponent, SpellsPower, is_function_name, SpellsName}
use Rattle.tdb_expr.specs.Parts.{Part, Number, T, Power, LnT, Name}
use Rattle.tdb_expr.specs.Reading.{◌>>=◌, Read, byte_at, mark_at, stars_at, magnitude_if, magnitude_at, plain_of, plain_at, closed_of, closed_at, unless_minus, unless_plus, bracketed_at, unless_bracket, exponent_at, unless_stars, temperature_at, logarithm_at, unless_hash, behind_hash, called_at, named_at, is_readable, value_if, value_in, number_up_to, number_at, is_sign, factor_from, factor_at}
use Rattle.tdb_expr.proofs.Words.{Spaced, spaces_found, mark_behind, mark_found, stars_behind, begins_join}

abbrev pub SpellsPart : Part → List Word → Type 0
SpellsPart (Number d) ws = (w : Word) × (ws ≡ w ∷ []) × IsNumberWord w d
SpellsPart T ws = ws ≡ codes "T" ∷ []
SpellsPart (Power n) ws = SpellsPower n ws
SpellsPart LnT ws = ws ≡ codes "LN" ∷ codes "(" ∷ codes "T" ∷ codes ")" ∷ []
SpellsPart (Name name) ws = SpellsName name ws

pub bind_some : {A B : Type 0} (r : Option A) (k : A → Option B) (y : B) → (r >>= k) ≡ Some y → (x : A) × (r ≡ Some x) × (k x ≡ Some y)
bind_some None k y e = absurd cc
bind_some (Some x) k y e = (x, refl, e)

-- ---- exponents

pub record Digits (t : List ℕ) (m : ℕ × List ℕ) : Type 0 where
  pub word : Word
  pub writes : WritesDigits word m.0
  pub small : m.0 ≤ 20
  pub begins : Begins (word ∷ []) t m.1

not_above : (v : ℕ) → nat_lt 20 v ≡ false → v ≤ 20
not_above v low = elim (cases_lt 20 v) [ inl more ↦ absurd (clash (lt-ltb 20 v more)) | inr less ↦ less ]
  where
    clash : nat_lt 20 v ≡ true → ⊥
    clash high = let both : true ≡ false = sym high ∙ low in absurd cc

magnitude_found : (t : List ℕ) (m : ℕ × List ℕ) → magnitude_at t ≡ Some m → Digits t m
unfolding magnitude_at
magnitude_found t m e = by_digits (digits_in (behind_spaces t)) refl e
  where
    here : Spaced t
    here = spaces_found t

    by_digits : (ds : List ℕ) → digits_in (behind_spaces t) ≡ ds → magnitude_if ds (after_digits (behind_spaces t)) ≡ Some m → Digits t m
    by_digits [] is e = absurd cc
    by_digits (d ∷ ds) is e = by_test (nat_lt 20 (digits_value 10 (d ∷ ds))) refl e
      where
        found : (t ≡ spaces here.count ++ ((d ∷ ds) ++ after_digits (behind_spaces t))) × AllDigits 10 (d ∷ ds)
        found = (here.parts ∙ ap (λ (z : List ℕ). spaces here.count ++ z) ((digits_found (behind_spaces t)).0 ∙ ap (λ (z : List ℕ). z ++ after_digits (behind_spaces t)) is), subst (AllDigits 10) is (digits_found (behind_spaces t)).1)

        by_test : (v : Bool) → nat_lt 20 (digits_value 10 (d ∷ ds)) ≡ v → cond v None (Some (digits_value 10 (d ∷ ds), after_digits (behind_spaces t))) ≡ Some m → Digits t m
        by_test true large e = absurd cc
        by_test false low e =
            let made : ℕ × List ℕ = (digits_value 10 (d ∷ ds), after_digits (behind_spaces t)) in
            let same : made ≡ m = cc in
            subst (Digits t) same (record {
              word = d ∷ ds;
              writes = record { filled = omega arith; digits = found.1; value = refl };
              small = not_above (digits_value 10 (d ∷ ds)) low;
              begins = (here.count, after_digits (behind_spaces t), found.0, refl);
            })

pub record Exponent (t : List ℕ) (y : Read) : Type 0 where
  pub power : ℤ
  pub words : List Word
  pub power_is : y.0 ≡ Power power
  pub spells : SpellsExponent power words
  pub begins : Begins words t y.1

small_signed : (minus : Bool) (n : ℕ) → n ≤ 20 → unsigned_abs (signed minus n) ≤ 20
small_signed true zero h = omega arith
small_signed true (suc n) h = omega (arith, ints, h)
small_signed false n h = omega (arith, h)

plain_found : (t : List ℕ) (y : Read) → plain_at t ≡ Some y → Exponent t y
plain_found t y e =
    let m = bind_some (magnitude_at t) plain_of y e in
    let d = magnitude_found t m.0 m.1 in
    let made : Read = (Power (signed false m.0.0), m.0.1) in
    let same : made ≡ y = let h = m.2 in cc in
    subst (Exponent t) same (record {
      power = signed false m.0.0;
      words = d.word ∷ [];
      power_is = refl;
      spells = (d.small, inl (record { digits = d.word; magnitude = m.0.0; writes = d.writes; words = refl; value = refl }));
      begins = d.begins;
    })

-- digits and ')'
record Closed (negative : Bool) (t : List ℕ) (y : Read) : Type 0 where
  digits : Word
  magnitude : ℕ
  writes : WritesDigits digits magnitude
  small : magnitude ≤ 20
  power_is : y.0 ≡ Power (signed negative magnitude)
  begins : Begins (digits ∷ (41 ∷ []) ∷ []) t y.1

closed_found : (negative : Bool) (t : List ℕ) (y : Read) → closed_at negative t ≡ Some y → Closed negative t y
closed_found negative t y e =
    let m = bind_some (magnitude_at t) (closed_of negative) y e in
    let d = magnitude_found t m.0 m.1 in
    let c = bind_some (mark_at 41 m.0.1) (λ rest. Some (Power (signed negative m.0.0), rest)) y m.2 in
    let made : Read = (Power (signed negative m.0.0), c.0) in
    let same : made ≡ y = let h = c.2 in cc in
    subst (Closed negative t) same (record {
      digits = d.word;
      magnitude = m.0.0;
      writes = d.writes;
      small = d.small;
      power_is = refl;
      begins = begins_join (d.word ∷ []) ((41 ∷ []) ∷ []) t m.0.1 c.0 d.begins (mark_found 41 m.0.1 c.0 c.1);
    })

bracketed_as : (s : Sign) (t u : List ℕ) (y : Read) → Begins ((40 ∷ []) ∷ sign_words s) t u → Closed (is_minus s) u y → Exponent t y
bracketed_as s t u y front c = record {
  power = signed (is_minus s) c.magnitude;
  words = (40 ∷ []) ∷ (sign_words s ++ c.digits ∷ (41 ∷ []) ∷ []);
  power_is = c.power_is;
  spells = (small_signed (is_minus s) c.magnitude c.small, inr (record { sign = s; digits = c.digits; magnitude = c.magnitude; writes = c.writes; words = refl; value = refl }));
  begins = begins_join ((40 ∷ []) ∷ sign_words s) (c.digits ∷ (41 ∷ []) ∷ []) t u y.1 front c.begins;
}

bracketed_found : (t u : List ℕ) (y : Read) → mark_at 40 t ≡ Some u → bracketed_at u ≡ Some y → Exponent t y
bracketed_found t u y first e = by_plus (mark_at 43 u) refl e
  where
    front : Begins ((40 ∷ []) ∷ []) t u
    front = mark_found 40 t u first

    by_minus : (o : Option (List ℕ)) → mark_at 45 u ≡ o → unless_minus u o ≡ Some y → Exponent t y
    by_minus None m e = bracketed_as Absent t u y front (closed_found false u y e)
    by_minus (Some v) m e = bracketed_as Minus t v y (begins_join ((40 ∷ []) ∷ []) ((45 ∷ []) ∷ []) t u v front (mark_found 45 u v m)) (closed_found true v y e)

    by_plus : (o : Option (List ℕ)) → mark_at 43 u ≡ o → unless_plus u o ≡ Some y → Exponent t y
    by_plus None p e = by_minus (mark_at 45 u) refl e
    by_plus (Some v) p e = bracketed_as Plus t v y (begins_join ((40 ∷ []) ∷ []) ((43 ∷ []) ∷ []) t u v front (mark_found 43 u v p)) (closed_found false v y e)

exponent_found : (t : List ℕ) (y : Read) → exponent_at t ≡ Some y → Exponent t y
unfolding exponent_at
exponent_found t y e = by_bracket (mark_at 40 t) refl e
  where
    by_bracket : (o : Option (List ℕ)) → mark_at 40 t ≡ o → unless_bracket t o ≡ Some y → Exponent t y
    by_bracket None is e = plain_found t y e
    by_bracket (Some u) is e = bracketed_found t u y is e

-- ---- factors

-- behind the first word of a factor
record Behind (first : Word) (t : List ℕ) (y : Read) : Type 0 where
  words : List Word
  spells : SpellsPart y.0 (first ∷ words)
  begins : Begins words t y.1

power_behind : (t u : List ℕ) (y : Read) (n : ℕ) → t ≡ spaces n ++ (42 ∷ 42 ∷ u) → Exponent u y → Behind (codes "T") t y
power_behind t u y n parts x = record {
  words = codes "**" ∷ x.words;
  spells = subst (λ (p : Part). SpellsPart p (codes "T" ∷ codes "**" ∷ x.words)) (sym x.power_is) (record { exponent = x.words; spells = x.spells; words = refl });
  begins = (n, u, parts, x.begins);
}

temperature_found : (t : List ℕ) (y : Read) → temperature_at t ≡ Some y → Behind (codes "T") t y
unfolding temperature_at
temperature_found t y e = by_stars (stars_at t) refl e
  where
    by_stars : (o : Option (List ℕ)) → stars_at t ≡ o → unless_stars t o ≡ Some y → Behind (codes "T") t y
    by_stars None is e =
        let made : Read = (T, t) in
        let same : made ≡ y = cc in
        subst (Behind (codes "T") t) same (record { words = []; spells = refl; begins = refl })
    by_stars (Some u) is e =
        let m = bind_some (mark_at 42 t) (byte_at 42) u is in
        let s = stars_behind t u m.0 m.1 m.2 in
        power_behind t u y s.0 s.1 (exponent_found u y e)

logarithm_found : (t : List ℕ) (y : Read) → logarithm_at t ≡ Some y → Behind (codes "LN") t y
unfolding logarithm_at
logarithm_found t y e =
    let c = bind_some (mark_at 40 t >>= mark_at 84 >>= mark_at 41) (λ rest. Some (LnT, rest)) y e in
    let b = bind_some (mark_at 40 t >>= mark_at 84) (mark_at 41) c.0 c.1 in
    let a = bind_some (mark_at 40 t) (mark_at 84) b.0 b.1 in
    let made : Read = (LnT, c.0) in
    let same : made ≡ y = let h = c.2 in cc in
    subst (Behind (codes "LN") t) same (record {
      words = codes "(" ∷ codes "T" ∷ codes ")" ∷ [];
      spells = refl;
      begins = begins_join ((40 ∷ []) ∷ []) ((84 ∷ []) ∷ (41 ∷ []) ∷ []) t a.0 c.0 (mark_found 40 t a.0 a.1) (begins_join ((84 ∷ []) ∷ []) ((41 ∷ []) ∷ []) a.0 b.0 c.0 (mark_found 84 a.0 b.0 a.2) (mark_found 41 b.0 c.0 b.2));
    })

called_found : (name t : List ℕ) (y : Read) → called_at name t ≡ Some y → Behind name t y
unfolding behind_hash
called_found name t y e = by_name (is_function_name name) refl e
  where
    by_hash : (o : Option (List ℕ)) → mark_at 35 t ≡ o → is_function_name name ≡ true → (let made : Read = (Name name, unless_hash t o) in Behind name t made)
    by_hash None is fine = record { words = []; spells = record { fine = fine; words = inl refl }; begins = refl }
    by_hash (Some u) is fine = record { words = (35 ∷ []) ∷ []; spells = record { fine = fine; words = inr refl }; begins = mark_found 35 t u is }

    by_name : (v : Bool) → is_function_name name ≡ v → cond v (Some (Name name, behind_hash t)) None ≡ Some y → Behind name t y
    by_name true fine e =
        let made : Read = (Name name, behind_hash t) in
        let same : made ≡ y = cc in
        subst (Behind name t) same (by_hash (mark_at 35 t) refl fine)
    by_name false fine e = absurd cc

named_found : (name t : List ℕ) (y : Read) → named_at name t ≡ Some y → Behind name t y
unfolding named_at same_word
named_found name t y e = by_t (same_word name (codes "T")) refl e
  where
    by_ln : (v : Bool) → same_word name (codes "LN") ≡ v → cond v (logarithm_at t) (called_at name t) ≡ Some y → Behind name t y
    by_ln true is e = subst (λ (w : Word). Behind w t y) (sym (same_text name (codes "LN") (sym is))) (logarithm_found t y e)
    by_ln false is e = called_found name t y e

    by_t : (v : Bool) → same_word name (codes "T") ≡ v → cond v (temperature_at t) (cond (same_word name (codes "LN")) (logarithm_at t) (called_at name t)) ≡ Some y → Behind name t y
    by_t true is e = subst (λ (w : Word). Behind w t y) (sym (same_text name (codes "T") (sym is))) (temperature_found t y e)
    by_t false is e = by_ln (same_word name (codes "LN")) refl e

pub record FactorFound (t : List ℕ) (y : Read) : Type 0 where
  pub words : List Word
  pub spells : SpellsPart y.0 words
  pub begins : Begins words t y.1

pub head : (a b : ℕ) (xs ys : List ℕ) → a ∷ xs ≡ b ∷ ys → a ≡ b
head a b xs ys e = cc

signed_clash : (a b : ℕ) → is_sign a ≡ false → is_sign b ≡ true → a ≡ b → ⊥
signed_clash a b plain signed same = let both : false ≡ true = sym plain ∙ ap is_sign same ∙ signed in absurd cc

-- the sign of a number is at its front
unsigned_front : (b : ℕ) (bs : List ℕ) (n : Numeral) (r : List ℕ) → is_sign b ≡ false → b ∷ bs ≡ numeral_text n ++ r → n.sign ≡ Absent
unsigned_front b bs n r plain parts = by_sign n.sign refl
  where
    rest : List ℕ
    rest = n.whole ++ (fraction_text n.fraction ++ power_text n.power)

    by_sign : (s : Sign) → n.sign ≡ s → n.sign ≡ Absent
    by_sign Absent is = is
    by_sign Plus is = absurd (signed_clash b 43 plain refl (head b 43 bs (rest ++ r) (parts ∙ ap (λ (s : Sign). (sign_text s ++ rest) ++ r) is)))
    by_sign Minus is = absurd (signed_clash b 45 plain refl (head b 45 bs (rest ++ r) (parts ∙ ap (λ (s : Sign). (sign_text s ++ rest) ++ r) is)))

cut_before : (t a r : List ℕ) → t ≡ a ++ r → t ≡ take (length t - length r) t ++ r
cut_before t a r parts = parts ∙ ap (λ (z : List ℕ). z ++ r) (sym left)
  where
    size : length t - length r ≡ length a
    size = omega (arith, ap length parts, length-append a r)

    left : take (length t - length r) t ≡ a
    left = ap (λ (k : ℕ). take k t) size ∙ ap (λ (z : List ℕ). take (length a) z) parts ∙ take-append_seam a r

number_found : (n : ℕ) (t : List ℕ) (b : ℕ) (bs : List ℕ) (y : Read) → t ≡ spaces n ++ (b ∷ bs) → is_sign b ≡ false → number_at (b ∷ bs) ≡ Some y → FactorFound t y
unfolding number_at value_in
number_found n t b bs y parts plain e = by_rest (after_number (b ∷ bs)) refl e
  where
    text : List ℕ
    text = b ∷ bs

    by_value : (r w : List ℕ) → text ≡ w ++ r → (o : Option Numeral) → numeral_in w ≡ o → (value_if w o >>= λ d. Some (Number d, r)) ≡ Some y → FactorFound t y
    by_value r w front None is e = absurd cc
    by_value r w front (Some m) is e = by_test (is_readable w m) refl e
      where
        spells : Spells m w
        spells = numeral_found w m is

        by_test : (v : Bool) → is_readable w m ≡ v → (cond v (Some (value_of m)) None >>= λ d. Some (Number d, r)) ≡ Some y → FactorFound t y
        by_test true fine e =
            let limits = and_parts (nat_lt (length w) 65) (nat_lt (unsigned_abs (value_of m).exponent) 201) fine in
            let made : Read = (Number (value_of m), r) in
            let same : made ≡ y = cc in
            let few : length w < 65 = ltb-true _ _ limits.0 in
            let within : unsigned_abs (value_of m).exponent < 201 = ltb-true _ _ limits.1 in
            subst (FactorFound t) same (record {
              words = w ∷ [];
              spells = (
                w,
                refl,
                record {
                  numeral = m;
                  spells = spells;
                  unsigned = unsigned_front b bs m r plain (front ∙ ap (λ (z : List ℕ). z ++ r) spells.text_is);
                  short = omega (arith, few);
                  value = refl;
                  within = omega (arith, within);
                },
              );
              begins = (n, r, parts ∙ ap (λ (z : List ℕ). spaces n ++ z) front, refl);
            })
        by_test false fine e = absurd cc

    by_rest : (o : Option (List ℕ)) → after_number text ≡ o → number_up_to text o ≡ Some y → FactorFound t y
    by_rest None is e = absurd cc
    by_rest (Some r) is e =
        let f = front_found text r is in
        let w : List ℕ = take (length text - length r) text in
        by_value r w (cut_before text (numeral_text f.numeral) r f.parts) (numeral_in w) refl e

pub factor_found : (t : List ℕ) (y : Read) → factor_at t ≡ Some y → FactorFound t y
unfolding factor_at name_bytes_at
factor_found t y e = by_front (behind_spaces t) refl e
  where
    here : Spaced t
    here = spaces_found t

    by_front : (s : List ℕ) → behind_spaces t ≡ s → factor_from s ≡ Some y → FactorFound t y
    by_front [] is e = absurd cc
    by_front (b ∷ bs) is e = by_letter (is_letter b) refl e
      where
        parts : t ≡ spaces here.count ++ (b ∷ bs)
        parts = here.parts ∙ ap (λ (z : List ℕ). spaces here.count ++ z) is

        name : Word
        name = (name_bytes_at (b ∷ bs)).0

        behind : List ℕ
        behind = (name_bytes_at (b ∷ bs)).1

        by_sign : (v : Bool) → is_sign b ≡ v → cond v None (number_at (b ∷ bs)) ≡ Some y → FactorFound t y
        by_sign true signed e = absurd cc
        by_sign false plain e = number_found here.count t b bs y parts plain e

        by_letter : (v : Bool) → is_letter b ≡ v → cond v (named_at name behind) (cond (is_sign b) None (number_at (b ∷ bs))) ≡ Some y → FactorFound t y
        by_letter true letter e =
            let f = named_found name behind y e in
            record {
              words = name ∷ f.words;
              spells = f.spells;
              begins = (here.count, behind, parts ∙ ap (λ (z : List ℕ). spaces here.count ++ z) (sym (take-append-drop (prefix_len is_name_byte (b ∷ bs)) (b ∷ bs))), f.begins);
            }
        by_letter false other e = by_sign (is_sign b) refl e
