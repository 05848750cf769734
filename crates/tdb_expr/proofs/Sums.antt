-- Products, signs and sums: what is read is spelled, and what is spelled is read.
use Rattle.std.proofs.Common.{◌≡◌, ℕ, zero, suc, ◌+◌, ◌<◌, ◌≤◌, ◌⊎◌, inl, inr, List, [], ◌∷◌, ◌++◌, length, length-append, append_assoc, append-nil, Option, Some, None, Bool, true, false, cond, eqb, refl, sym, ap, subst, ◌∙◌, arith}
use Rattle.std.specs.Prelude.{ℤ, codes, not, ◌||◌, ◌&&◌, nat_lt}
use Rattle.std.specs.List.{list_all}
use Rattle.std.proofs.lemmas.Bool.{eqb-true, and_parts}
use Rattle.std.proofs.lemmas.Bool.Decides.{nat_tests}
use Rattle.cal_scan.specs.Bytes.{is_letter, is_name_byte}
use Rattle.cal_scan.specs.Words.{is_name}
use Rattle.cal_scan.specs.Fronts.{behind_spaces}
use Rattle.cal_dec.specs.Decimals.{Decimal}
use Rattle.tdb_expr.specs.Grammar.{Word, spaces, Begins, AreWords, IsNumberWord, SpellsPower, SpellsName, is_taken, is_function_name, SpellsSigns}
use Rattle.tdb_expr.specs.Parts.{Part, Number, T, Power, LnT, Name, Term}
use Rattle.tdb_expr.specs.Reading.{◌>>=◌, Read, byte_at, mark_at, factor_at, Parts, product_on, product_behind, product_at, turned, signs_at, is_sign, term, terms_at, all_terms, sum_at}
use Rattle.tdb_expr.proofs.Words.{NoSpace, Spaced, spaces_found, spaces_again, behind_is, behind_twice, behind_space, spaces_shorter, spaces_twice, begins_join, begins_split, begins_shorter, begins_spaced, mark_behind, mark_found, mark_word, mark_other, mark_end}
use Rattle.tdb_expr.proofs.Found.{head, SpellsPart, bind_some, FactorFound, factor_found}
use Rattle.tdb_expr.proofs.Again.{Ends, NumberFirst, number_first, factor_again}

-- ---- products

abbrev pub SpellsParts : List Part → List Word → Type 0
SpellsParts [] ws = ⊥
SpellsParts (x ∷ []) ws = SpellsPart x ws
SpellsParts (x ∷ y ∷ xs) ws = (a : List Word) × (b : List Word) × (ws ≡ a ++ codes "*" ∷ b) × SpellsPart x a × SpellsParts (y ∷ xs) b

pub record ProductFound (k : ℕ) (t : List ℕ) (y : Parts) : Type 0 where
  pub words : List Word
  pub spells : SpellsParts y.0 words
  pub begins : Begins words t y.1
  pub few : length y.0 ≤ k

one_more : (x : Part) (xs : List Part) (a b : List Word) → SpellsPart x a → SpellsParts xs b → SpellsParts (x ∷ xs) (a ++ codes "*" ∷ b)
one_more x [] a b first more = absurd more
one_more x (y ∷ xs) a b first more = (a, b, refl, first, more)

pub product_found : (k : ℕ) (t : List ℕ) (y : Parts) → product_at k t ≡ Some y → ProductFound k t y
unfolding product_at
product_found zero t y e = absurd cc
product_found (suc k) t y e =
    let x = bind_some (factor_at t) (product_behind (product_at k)) y e in
    let f = factor_found t x.0 x.1 in
    by_star x.0 f (mark_at 42 x.0.1) refl x.2 (λ rest z h. product_found k rest z h)
  where
    by_star : (x : Read) → FactorFound t x → (o : Option (List ℕ)) → mark_at 42 x.1 ≡ o → product_on (product_at k) x o ≡ Some y → ((rest : List ℕ) (z : Parts) → product_at k rest ≡ Some z → ProductFound k rest z)
        → ProductFound (suc k) t y
    by_star x f None is e more =
        let made : Parts = (x.0 ∷ [], x.1) in
        let same : made ≡ y = cc in
        subst (ProductFound (suc k) t) same (record { words = f.words; spells = f.spells; begins = f.begins; few = omega arith })
    by_star x f (Some rest) is e more =
        let z = bind_some (product_at k rest) (λ z. Some (x.0 ∷ z.0, z.1)) y e in
        let r = more rest z.0 z.1 in
        let made : Parts = (x.0 ∷ z.0.0, z.0.1) in
        let same : made ≡ y = let h = z.2 in cc in
        let star = mark_found 42 x.1 rest is in
        subst (ProductFound (suc k) t) same (record {
          words = f.words ++ codes "*" ∷ r.words;
          spells = one_more x.0 z.0.0 f.words r.words f.spells r.spells;
          begins = begins_join f.words (codes "*" ∷ r.words) t x.1 z.0.1 f.begins (begins_join (codes "*" ∷ []) r.words x.1 rest z.0.1 star r.begins);
          few = omega (arith, r.few);
        })

-- ---- how a product begins

pub record Start (t : List ℕ) : Type 0 where
  pub count : ℕ
  pub byte : ℕ
  pub more : List ℕ
  pub parts : t ≡ spaces count ++ (byte ∷ more)
  pub no_space : eqb byte 32 ≡ false
  pub no_star : eqb byte 42 ≡ false
  pub no_sign : is_sign byte ≡ false

letter_no_space : (b : ℕ) → is_letter b ≡ true → eqb b 32 ≡ false
letter_no_space b h = grind (arith, nat_tests)

letter_no_star : (b : ℕ) → is_letter b ≡ true → eqb b 42 ≡ false
letter_no_star b h = grind (arith, nat_tests)

letter_no_plus : (b : ℕ) → is_letter b ≡ true → eqb b 43 ≡ false
letter_no_plus b h = grind (arith, nat_tests)

letter_no_minus : (b : ℕ) → is_letter b ≡ true → eqb b 45 ≡ false
letter_no_minus b h = grind (arith, nat_tests)

letter_start : (b : ℕ) (bs : Word) (n : ℕ) (t u : List ℕ) → is_letter b ≡ true → t ≡ spaces n ++ ((b ∷ bs) ++ u) → Start t
letter_start b bs n t u letter parts = record {
  count = n;
  byte = b;
  more = bs ++ u;
  parts = parts;
  no_space = letter_no_space b letter;
  no_star = letter_no_star b letter;
  no_sign = rw (letter_no_plus b letter, letter_no_minus b letter) refl;
}

name_start : (w : Word) (n : ℕ) (t u : List ℕ) → is_name w ≡ true → t ≡ spaces n ++ (w ++ u) → Start t
unfolding is_name
name_start [] n t u fine parts = absurd cc
name_start (b ∷ bs) n t u fine parts = letter_start b bs n t u (and_parts (is_letter b) (nat_lt (length (b ∷ bs)) 41 && list_all is_name_byte (b ∷ bs)) fine).0 parts

pub part_start : (p : Part) (ws : List Word) (t u : List ℕ) → SpellsPart p ws → Begins ws t u → Start t
part_start (Number d) ws t u (w, is, number) begins =
    let here = subst (λ (ws : List Word). Begins ws t u) is begins in
    let f = number_first w d number in
    record {
      count = here.0;
      byte = f.byte;
      more = f.more ++ here.1;
      parts = here.2 ∙ ap (λ (z : List ℕ). spaces here.0 ++ (z ++ here.1)) f.parts;
      no_space = f.no_space;
      no_star = f.no_star;
      no_sign = f.no_sign;
    }
part_start T ws t u is begins = let here = subst (λ (ws : List Word). Begins ws t u) is begins in letter_start 84 [] here.0 t here.1 refl here.2
part_start (Power n) ws t u power begins = let here = subst (λ (ws : List Word). Begins ws t u) power.words begins in letter_start 84 [] here.0 t here.1 refl here.2
part_start LnT ws t u is begins = let here = subst (λ (ws : List Word). Begins ws t u) is begins in letter_start 76 (78 ∷ []) here.0 t here.1 refl here.2
part_start (Name w) ws t u name begins = by_words name.words
  where
    fine : is_name w ≡ true
    fine = (and_parts (is_name w) (not (is_taken w)) name.fine).0

    by_words : (ws ≡ w ∷ []) ⊎ (ws ≡ w ∷ codes "#" ∷ []) → Start t
    by_words (inl is) = let here = subst (λ (ws : List Word). Begins ws t u) is begins in name_start w here.0 t here.1 fine here.2
    by_words (inr is) = let here = subst (λ (ws : List Word). Begins ws t u) is begins in name_start w here.0 t here.1 fine here.2

pub product_start : (xs : List Part) (ws : List Word) (t u : List ℕ) → SpellsParts xs ws → Begins ws t u → Start t
product_start [] ws t u spells begins = absurd spells
product_start (x ∷ []) ws t u spells begins = part_start x ws t u spells begins
product_start (x ∷ y ∷ xs) ws t u spells begins =
    let parts = begins_split spells.0 (codes "*" ∷ spells.1) t u (subst (λ (ws : List Word). Begins ws t u) spells.2 begins) in
    part_start x spells.0 t parts.0 spells.3 parts.1

no_star_first : (t : List ℕ) → Start t → byte_at 42 t ≡ None
no_star_first t start = by_count start.count start.parts
  where
    by_count : (n : ℕ) → t ≡ spaces n ++ (start.byte ∷ start.more) → byte_at 42 t ≡ None
    by_count zero parts = ap (byte_at 42) parts ∙ rw start.no_star refl
    by_count (suc n) parts = ap (byte_at 42) parts

-- ---- what may stand behind a product

abbrev FinalAt : List ℕ → Type 0
FinalAt [] = Unit {0}
FinalAt (b ∷ bs) = (b ≡ 43) ⊎ (b ≡ 45)

-- the end or a sign, behind any spaces
pub record Final (t : List ℕ) : Type 0 where
  pub count : ℕ
  pub rest : List ℕ
  pub parts : t ≡ spaces count ++ rest
  pub at : FinalAt rest

final_ends : (t : List ℕ) → Final t → Ends t
final_ends t final = by_rest final.rest final.parts final.at
  where
    by_rest : (r : List ℕ) → t ≡ spaces final.count ++ r → FinalAt r → Ends t
    by_rest [] parts at = record { count = final.count; rest = []; parts = parts; at = tt }
    by_rest (b ∷ bs) parts (inl is) = record { count = final.count; rest = b ∷ bs; parts = parts; at = inl is }
    by_rest (b ∷ bs) parts (inr is) = record { count = final.count; rest = b ∷ bs; parts = parts; at = inr (inl is) }

final_star : (t : List ℕ) → Final t → mark_at 42 t ≡ None
final_star t final = by_rest final.rest final.parts final.at
  where
    by_rest : (r : List ℕ) → t ≡ spaces final.count ++ r → FinalAt r → mark_at 42 t ≡ None
    by_rest [] parts at = mark_end 42 final.count t parts
    by_rest (b ∷ bs) parts (inl is) = mark_other 42 43 final.count t bs refl refl (parts ∙ ap (λ (c : ℕ). spaces final.count ++ (c ∷ bs)) is)
    by_rest (b ∷ bs) parts (inr is) = mark_other 42 45 final.count t bs refl refl (parts ∙ ap (λ (c : ℕ). spaces final.count ++ (c ∷ bs)) is)

pub product_again : (k : ℕ) (xs : List Part) (ws : List Word) (t u : List ℕ) → SpellsParts xs ws → length xs ≤ k → Begins ws t u → Final u → product_at k t ≡ Some (xs, u)
unfolding product_at
product_again k [] ws t u spells few begins final = absurd spells
product_again zero (x ∷ xs) ws t u spells few begins final = absurd (omega (arith, few))
product_again (suc k) (x ∷ []) ws t u spells few begins final =
    rw (factor_again x ws t u spells begins (final_ends u final), final_star u final) refl
product_again (suc k) (x ∷ y ∷ xs) ws t u spells few begins final =
    let parts = begins_split spells.0 (codes "*" ∷ spells.1) t u (subst (λ (ws : List Word). Begins ws t u) spells.2 begins) in
    let star = parts.2 in
    let start = product_start (y ∷ xs) spells.1 star.1 u spells.4 star.3 in
    let ends : Ends parts.0 = record { count = star.0; rest = 42 ∷ star.1; parts = star.2; at = inr (inr (refl, no_star_first star.1 start)) } in
    let first = factor_again x spells.0 t parts.0 spells.3 parts.1 ends in
    let mark = mark_word 42 star.0 parts.0 star.1 refl refl star.2 in
    let more = product_again k (y ∷ xs) spells.1 star.1 u spells.4 (omega (arith, few)) star.3 final in
    rw (first, mark, more) refl

pub product_shorter : (k : ℕ) (t : List ℕ) (p : Parts) → product_at k t ≡ Some p → length p.1 ≤ length t
product_shorter k t p e = let f = product_found k t p e in begins_shorter f.words t p.1 f.begins

factor_behind : (t : List ℕ) → factor_at (behind_spaces t) ≡ factor_at t
unfolding factor_at
factor_behind t = rw (behind_twice t) refl

pub product_behind_spaces : (k : ℕ) (t : List ℕ) → product_at k (behind_spaces t) ≡ product_at k t
unfolding product_at
product_behind_spaces zero t = refl
product_behind_spaces (suc k) t = ap (λ (o : Option Read). o >>= product_behind (product_at k)) (factor_behind t)

-- ---- signs

pub record SignsFound (t : List ℕ) (s : Bool × List ℕ) : Type 0 where
  pub words : List Word
  pub sign : SpellsSigns s.0 words
  pub count : ℕ
  pub begins : Begins words t (spaces count ++ s.1)

twice : (b : Bool) (ws : List Word) → SpellsSigns b ws → SpellsSigns (not (not b)) ws
twice true ws spells = spells
twice false ws spells = spells

space_more : (ws : List Word) (t r : List ℕ) (n : ℕ) → Begins ws t (spaces n ++ r) → (m : ℕ) × Begins ws (32 ∷ t) (spaces m ++ r)
space_more [] t r n begins = (suc n, ap (λ (z : List ℕ). 32 ∷ z) begins)
space_more (w ∷ ws) t r n begins = (n, (suc begins.0, begins.1, ap (λ (z : List ℕ). 32 ∷ z) begins.2, begins.3))

pub signs_found : (t : List ℕ) → SignsFound t (signs_at t)
unfolding signs_at
signs_found [] = record { words = []; sign = refl; count = 0; begins = refl }
signs_found (b ∷ bs) = by_space (eqb b 32) refl (signs_found bs)
  where
    by_minus : (v : Bool) → eqb b 45 ≡ v → SignsFound bs (signs_at bs) → SignsFound (b ∷ bs) (cond v (turned (signs_at bs)) (false, b ∷ bs))
    by_minus true is f = record {
      words = codes "-" ∷ f.words;
      sign = inr (refl, twice (signs_at bs).0 f.words f.sign);
      count = f.count;
      begins = (0, bs, ap (λ (c : ℕ). c ∷ bs) (eqb-true _ _ is), f.begins);
    }
    by_minus false is f = record { words = []; sign = refl; count = 0; begins = refl }

    by_plus : (v : Bool) → eqb b 43 ≡ v → SignsFound bs (signs_at bs) → SignsFound (b ∷ bs) (cond v (signs_at bs) (cond (eqb b 45) (turned (signs_at bs)) (false, b ∷ bs)))
    by_plus true is f = record { words = codes "+" ∷ f.words; sign = inl (refl, f.sign); count = f.count; begins = (0, bs, ap (λ (c : ℕ). c ∷ bs) (eqb-true _ _ is), f.begins) }
    by_plus false is f = by_minus (eqb b 45) refl f

    by_space : (v : Bool) → eqb b 32 ≡ v → SignsFound bs (signs_at bs) → SignsFound (b ∷ bs) (cond v (signs_at bs) (cond (eqb b 43) (signs_at bs) (cond (eqb b 45) (turned (signs_at bs)) (false, b ∷ bs))))
    by_space true is f =
        let more = space_more f.words bs (signs_at bs).1 f.count f.begins in
        record {
          words = f.words;
          sign = f.sign;
          count = more.0;
          begins = subst (λ (c : ℕ). Begins f.words (c ∷ bs) (spaces more.0 ++ (signs_at bs).1)) (sym (eqb-true _ _ is)) more.1;
        }
    by_space false is f = by_plus (eqb b 43) refl f

signs_spaced : (n : ℕ) (t : List ℕ) → signs_at (spaces n ++ t) ≡ signs_at t
unfolding signs_at
signs_spaced zero t = refl
signs_spaced (suc n) t = signs_spaced n t

pub signs_behind : (t : List ℕ) → signs_at (behind_spaces t) ≡ signs_at t
signs_behind t = let s = spaces_found t in sym (ap signs_at s.parts ∙ signs_spaced s.count (behind_spaces t))

no_plus : (b : ℕ) → is_sign b ≡ false → eqb b 43 ≡ false
no_plus b plain = by_test (eqb b 43) plain
  where
    by_test : (v : Bool) → (v || eqb b 45) ≡ false → v ≡ false
    by_test true e = absurd cc
    by_test false e = refl

no_minus : (b : ℕ) → is_sign b ≡ false → eqb b 45 ≡ false
no_minus b plain = by_test (eqb b 43) (eqb b 45) plain
  where
    by_test : (v w : Bool) → (v || w) ≡ false → w ≡ false
    by_test true w e = absurd cc
    by_test false w e = e

unsigned : (b : ℕ) (bs : List ℕ) → eqb b 32 ≡ false → is_sign b ≡ false → signs_at (b ∷ bs) ≡ (false, b ∷ bs)
unfolding signs_at
unsigned b bs space plain = rw (space, no_plus b plain, no_minus b plain) refl

flipped : (b : Bool) (t : List ℕ) → turned (not b, t) ≡ (b, t)
flipped true t = refl
flipped false t = refl

pub signs_again : (b : Bool) (ws : List Word) (t u : List ℕ) → SpellsSigns b ws → Begins ws t u → Start u → signs_at t ≡ (b, behind_spaces u)
unfolding signs_at
signs_again b [] t u spells begins start =
    let behind : behind_spaces u ≡ start.byte ∷ start.more = behind_is start.count u (start.byte ∷ start.more) start.parts start.no_space in
    let plain : signs_at t ≡ (false, start.byte ∷ start.more) =
    ap signs_at (begins ∙ start.parts) ∙ signs_spaced start.count (start.byte ∷ start.more) ∙ unsigned start.byte start.more start.no_space start.no_sign in
    plain ∙ ap (λ (z : List ℕ). (false, z)) (sym behind) ∙ ap (λ (x : Bool). (x, behind_spaces u)) (sym spells)
signs_again b (w ∷ ws) t u (inl (is, spells)) begins start =
    let parts : t ≡ spaces begins.0 ++ (43 ∷ begins.1) = begins.2 ∙ ap (λ (z : List ℕ). spaces begins.0 ++ (z ++ begins.1)) is in
    ap signs_at parts ∙ signs_spaced begins.0 (43 ∷ begins.1) ∙ signs_again b ws begins.1 u spells begins.3 start
signs_again b (w ∷ ws) t u (inr (is, spells)) begins start =
    let parts : t ≡ spaces begins.0 ++ (45 ∷ begins.1) = begins.2 ∙ ap (λ (z : List ℕ). spaces begins.0 ++ (z ++ begins.1)) is in
    ap signs_at parts ∙ signs_spaced begins.0 (45 ∷ begins.1) ∙ ap turned (signs_again (not b) ws begins.1 u spells begins.3 start) ∙ flipped b (behind_spaces u)

-- ---- terms

pub record SpellsPartTerm (x : Term) (signs factors : List Word) : Type 0 where
  pub sign : SpellsSigns x.negative signs
  pub product : SpellsParts x.parts factors
  pub few : length x.parts ≤ 16

abbrev pub SpellsPartTerms : List Term → List Word → Type 0
SpellsPartTerms [] ws = ws ≡ []
SpellsPartTerms (x ∷ xs) ws =
    (a : List Word) × (b : List Word) × (c : List Word) × (ws ≡ a ++ (b ++ c)) × (0 < length a) × SpellsPartTerm x a b × SpellsPartTerms xs c

abbrev pub SpellsPartSum : List Term → List Word → Type 0
SpellsPartSum [] ws = ⊥
SpellsPartSum (x ∷ xs) ws =
    (a : List Word) × (b : List Word) × (c : List Word) × (ws ≡ a ++ (b ++ c)) × SpellsPartTerm x a b × SpellsPartTerms xs c

-- words behind further spaces
words_spaced : (ws : List Word) (t : List ℕ) → AreWords ws (behind_spaces t) → AreWords ws t
words_spaced [] t words =
    let s = spaces_found t in
    let k = spaces_twice s.count words.0 [] in
    (k.0, s.parts ∙ ap (λ (z : List ℕ). spaces s.count ++ z) (words.1 ∙ sym (append-nil (spaces words.0))) ∙ k.1 ∙ append-nil (spaces k.0))
words_spaced (w ∷ ws) t words = let s = spaces_found t in (words.0, begins_spaced w ws s.count (behind_spaces t) t (spaces words.0) s.parts words.1)

-- a product has a word
record Filled (ws : List Word) : Type 0 where
  first : Word
  more : List Word
  parts : ws ≡ first ∷ more

part_filled : (p : Part) (ws : List Word) → SpellsPart p ws → Filled ws
part_filled (Number d) ws (w, is, number) = record { first = w; more = []; parts = is }
part_filled T ws is = record { first = codes "T"; more = []; parts = is }
part_filled (Power n) ws power = record { first = codes "T"; more = codes "**" ∷ power.exponent; parts = power.words }
part_filled LnT ws is = record { first = codes "LN"; more = codes "(" ∷ codes "T" ∷ codes ")" ∷ []; parts = is }
part_filled (Name w) ws name = by_words name.words
  where
    by_words : (ws ≡ w ∷ []) ⊎ (ws ≡ w ∷ codes "#" ∷ []) → Filled ws
    by_words (inl is) = record { first = w; more = []; parts = is }
    by_words (inr is) = record { first = w; more = codes "#" ∷ []; parts = is }

product_filled : (xs : List Part) (ws : List Word) → SpellsParts xs ws → Filled ws
product_filled [] ws spells = absurd spells
product_filled (x ∷ []) ws spells = part_filled x ws spells
product_filled (x ∷ y ∷ xs) ws spells =
    let f = part_filled x spells.0 spells.3 in
    record { first = f.first; more = f.more ++ codes "*" ∷ spells.1; parts = spells.2 ∙ ap (λ (z : List Word). z ++ codes "*" ∷ spells.1) f.parts }

-- the product at the front, behind its signs
record TermFound (t rest : List ℕ) (x : Term) : Type 0 where
  signs : List Word
  factors : List Word
  spells : SpellsPartTerm x signs factors
  begins : Begins (signs ++ factors) t rest
  some_sign : (b : ℕ) (bs : List ℕ) → t ≡ b ∷ bs → is_sign b ≡ true → 0 < length signs

no_first_sign : (t : List ℕ) (b : ℕ) (bs : List ℕ) → Start t → t ≡ b ∷ bs → is_sign b ≡ true → ⊥
no_first_sign t b bs start is signed = by_count start.count start.parts
  where
    clash : (c : ℕ) → is_sign c ≡ false → c ≡ b → ⊥
    clash c plain same = let both : false ≡ true = sym plain ∙ ap is_sign same ∙ signed in absurd cc

    by_count : (n : ℕ) → t ≡ spaces n ++ (start.byte ∷ start.more) → ⊥
    by_count zero parts = clash start.byte start.no_sign (head start.byte b start.more bs (sym parts ∙ is))
    by_count (suc n) parts = clash 32 refl (head 32 b (spaces n ++ (start.byte ∷ start.more)) bs (sym parts ∙ is))

term_found : (t : List ℕ) (p : Parts) → product_at 16 (signs_at t).1 ≡ Some p → TermFound t p.1 (term (signs_at t).0 p.0)
term_found t p e = record {
  signs = s.words;
  factors = f.words;
  spells = record { sign = s.sign; product = f.spells; few = f.few };
  begins = begins_join s.words f.words t (spaces s.count ++ (signs_at t).1) p.1 s.begins spaced;
  some_sign = λ b bs is signed. by_words s.words s.begins b bs is signed;
}
  where
    s : SignsFound t (signs_at t)
    s = signs_found t

    f : ProductFound 16 (signs_at t).1 p
    f = product_found 16 (signs_at t).1 p e

    spaced : Begins f.words (spaces s.count ++ (signs_at t).1) p.1
    spaced =
        let w = product_filled p.0 f.words f.spells in
        subst (λ (ws : List Word). Begins ws (spaces s.count ++ (signs_at t).1) p.1) (sym w.parts)
        (begins_spaced w.first w.more s.count (signs_at t).1 (spaces s.count ++ (signs_at t).1) p.1 refl (subst (λ (ws : List Word). Begins ws (signs_at t).1 p.1) w.parts f.begins))

    by_words : (ws : List Word) → Begins ws t (spaces s.count ++ (signs_at t).1) → (b : ℕ) (bs : List ℕ) → t ≡ b ∷ bs → is_sign b ≡ true → 0 < length ws
    by_words [] begins b bs is signed =
        let start = product_start p.0 f.words (spaces s.count ++ (signs_at t).1) p.1 f.spells spaced in
        absurd (no_first_sign (spaces s.count ++ (signs_at t).1) b bs start (sym begins ∙ is) signed)
    by_words (w ∷ ws) begins b bs is signed = omega arith

cond_found : {A : Type 0} (b : Bool) (o : Option A) (y : A) → cond b o None ≡ Some y → (b ≡ true) × (o ≡ Some y)
cond_found true o y e = (refl, e)
cond_found false o y e = absurd cc

record TermsFound (t : List ℕ) (xs : List Term) : Type 0 where
  words : List Word
  spells : SpellsPartTerms xs words
  are : AreWords words t

terms_found : (k : ℕ) (t : List ℕ) (xs : List Term) → terms_at k t ≡ Some xs → TermsFound t xs
unfolding terms_at
terms_found k [] xs e =
    let none : xs ≡ [] = cc in
    subst (TermsFound []) (sym none) (record { words = []; spells = refl; are = (0, refl) })
terms_found zero (b ∷ bs) xs e = absurd cc
terms_found (suc k) (b ∷ bs) xs e =
    let t : List ℕ = b ∷ bs in
    let c = cond_found (is_sign b) (product_at 16 (signs_at t).1 >>= λ p. terms_at k (behind_spaces p.1) >>= λ ys. Some (term (signs_at t).0 p.0 ∷ ys)) xs e in
    let p = bind_some (product_at 16 (signs_at t).1) (λ p. terms_at k (behind_spaces p.1) >>= λ ys. Some (term (signs_at t).0 p.0 ∷ ys)) xs c.1 in
    let q = bind_some (terms_at k (behind_spaces p.0.1)) (λ ys. Some (term (signs_at t).0 p.0.0 ∷ ys)) xs p.2 in
    let first = term_found t p.0 p.1 in
    let more = terms_found k (behind_spaces p.0.1) q.0 q.1 in
    let behind = words_spaced more.words p.0.1 more.are in
    let same : term (signs_at t).0 p.0.0 ∷ q.0 ≡ xs = let h = q.2 in cc in
    subst (TermsFound t) same (record {
      words = first.signs ++ (first.factors ++ more.words);
      spells = (first.signs, first.factors, more.words, refl, first.some_sign b bs refl c.0, first.spells, more.spells);
      are = (behind.0, subst (λ (ws : List Word). Begins ws t (spaces behind.0)) (append_assoc first.signs first.factors more.words) (begins_join (first.signs ++ first.factors) more.words t p.0.1 (spaces behind.0) first.begins behind.1));
    })

-- ---- sums

pub record SumFound (t : List ℕ) (xs : List Term) : Type 0 where
  pub words : List Word
  pub spells : SpellsPartSum xs words
  pub are : AreWords words t

pub sum_found : (t : List ℕ) (xs : List Term) → sum_at t ≡ Some xs → SumFound t xs
unfolding sum_at
sum_found t xs e =
    let p = bind_some (product_at 16 (signs_at t).1) (λ p. all_terms (behind_spaces p.1) >>= λ ys. Some (term (signs_at t).0 p.0 ∷ ys)) xs e in
    let q = bind_some (all_terms (behind_spaces p.0.1)) (λ ys. Some (term (signs_at t).0 p.0.0 ∷ ys)) xs p.2 in
    let first = term_found t p.0 p.1 in
    let more = terms_found (length (behind_spaces p.0.1)) (behind_spaces p.0.1) q.0 q.1 in
    let behind = words_spaced more.words p.0.1 more.are in
    let same : term (signs_at t).0 p.0.0 ∷ q.0 ≡ xs = let h = q.2 in cc in
    subst (SumFound t) same (record {
      words = first.signs ++ (first.factors ++ more.words);
      spells = (first.signs, first.factors, more.words, refl, first.spells, more.spells);
      are = (behind.0, subst (λ (ws : List Word). Begins ws t (spaces behind.0)) (append_assoc first.signs first.factors more.words) (begins_join (first.signs ++ first.factors) more.words t p.0.1 (spaces behind.0) first.begins behind.1));
    })

-- what terms leave behind a product
terms_final : (xs : List Term) (ws : List Word) (t : List ℕ) → SpellsPartTerms xs ws → AreWords ws t → Final t
terms_final [] ws t spells are =
    let here = subst (λ (ws : List Word). Begins ws t (spaces are.0)) spells are.1 in
    record { count = are.0; rest = []; parts = here ∙ sym (append-nil (spaces are.0)); at = tt }
terms_final (x ∷ xs) ws t spells are = by_signs spells.0 spells.4 spells.5.sign (subst (λ (ws : List Word). Begins ws t (spaces are.0)) spells.3 are.1)
  where
    by_signs : (a : List Word) → 0 < length a → SpellsSigns x.negative a → Begins (a ++ (spells.1 ++ spells.2)) t (spaces are.0) → Final t
    by_signs [] filled sign begins = absurd (omega (arith, filled))
    by_signs (w ∷ a) filled (inl (is, sign)) begins =
        record { count = begins.0; rest = 43 ∷ begins.1; parts = begins.2 ∙ ap (λ (z : List ℕ). spaces begins.0 ++ (z ++ begins.1)) is; at = inl refl }
    by_signs (w ∷ a) filled (inr (is, sign)) begins =
        record { count = begins.0; rest = 45 ∷ begins.1; parts = begins.2 ∙ ap (λ (z : List ℕ). spaces begins.0 ++ (z ++ begins.1)) is; at = inr refl }

-- the first sign of a term
record SignFirst (a : List Word) (t u : List ℕ) : Type 0 where
  byte : ℕ
  more : List ℕ
  behind : behind_spaces t ≡ byte ∷ more
  signed : is_sign byte ≡ true
  shorter : length u ≤ length more

sign_first : (b : Bool) (a : List Word) (t u : List ℕ) → 0 < length a → SpellsSigns b a → Begins a t u → SignFirst a t u
sign_first b [] t u filled sign begins = absurd (omega (arith, filled))
sign_first b (w ∷ a) t u filled (inl (is, sign)) begins =
    let parts : t ≡ spaces begins.0 ++ (43 ∷ begins.1) = begins.2 ∙ ap (λ (z : List ℕ). spaces begins.0 ++ (z ++ begins.1)) is in
    record { byte = 43; more = begins.1; behind = behind_is begins.0 t (43 ∷ begins.1) parts refl; signed = refl; shorter = begins_shorter a begins.1 u begins.3 }
sign_first b (w ∷ a) t u filled (inr (is, sign)) begins =
    let parts : t ≡ spaces begins.0 ++ (45 ∷ begins.1) = begins.2 ∙ ap (λ (z : List ℕ). spaces begins.0 ++ (z ++ begins.1)) is in
    record { byte = 45; more = begins.1; behind = behind_is begins.0 t (45 ∷ begins.1) parts refl; signed = refl; shorter = begins_shorter a begins.1 u begins.3 }

nothing_at : (t : List ℕ) (n : ℕ) → t ≡ spaces n → behind_spaces t ≡ []
nothing_at t n is = behind_is n t [] (is ∙ sym (append-nil (spaces n))) tt

terms_again : (k : ℕ) (xs : List Term) (ws : List Word) (t : List ℕ) → SpellsPartTerms xs ws → AreWords ws t → length (behind_spaces t) ≤ k → terms_at k (behind_spaces t) ≡ Some xs
unfolding terms_at
terms_again k [] ws t spells are few =
    let here = subst (λ (ws : List Word). Begins ws t (spaces are.0)) spells are.1 in
    ap (terms_at k) (nothing_at t are.0 here)
terms_again zero (x ∷ xs) ws t spells are few =
    let begins = subst (λ (ws : List Word). Begins ws t (spaces are.0)) spells.3 are.1 in
    let cut = begins_split spells.0 (spells.1 ++ spells.2) t (spaces are.0) begins in
    let first = sign_first x.negative spells.0 t cut.0 spells.4 spells.5.sign cut.1 in
    absurd (omega (arith, few, ap length first.behind))
terms_again (suc k) (x ∷ xs) ws t spells are few =
    let begins = subst (λ (ws : List Word). Begins ws t (spaces are.0)) spells.3 are.1 in
    let cut = begins_split spells.0 (spells.1 ++ spells.2) t (spaces are.0) begins in
    let again = begins_split spells.1 spells.2 cut.0 (spaces are.0) cut.2 in
    let first = sign_first x.negative spells.0 t cut.0 spells.4 spells.5.sign cut.1 in
    let start = product_start x.parts spells.1 cut.0 again.0 spells.5.product again.1 in
    let signs : signs_at (first.byte ∷ first.more) ≡ (x.negative, behind_spaces cut.0) =
    ap signs_at (sym first.behind) ∙ signs_behind t ∙ signs_again x.negative spells.0 t cut.0 spells.5.sign cut.1 start in
    let final = terms_final xs spells.2 again.0 spells.6 (are.0, again.2) in
    let product : product_at 16 (behind_spaces cut.0) ≡ Some (x.parts, again.0) =
    product_behind_spaces 16 cut.0 ∙ product_again 16 x.parts spells.1 cut.0 again.0 spells.5.product spells.5.few again.1 final in
    let shorter : length (behind_spaces again.0) ≤ k =
    omega (arith, few, ap length first.behind, first.shorter, begins_shorter spells.1 cut.0 again.0 again.1, spaces_shorter again.0) in
    let more = terms_again k xs spells.2 again.0 spells.6 (are.0, again.2) shorter in
    ap (terms_at (suc k)) first.behind ∙ rw (first.signed, signs, product, more) refl

pub sum_again : (xs : List Term) (ws : List Word) (t : List ℕ) → SpellsPartSum xs ws → AreWords ws t → sum_at t ≡ Some xs
unfolding sum_at
sum_again [] ws t spells are = absurd spells
sum_again (x ∷ xs) ws t spells are =
    let begins = subst (λ (ws : List Word). Begins ws t (spaces are.0)) spells.3 are.1 in
    let cut = begins_split spells.0 (spells.1 ++ spells.2) t (spaces are.0) begins in
    let again = begins_split spells.1 spells.2 cut.0 (spaces are.0) cut.2 in
    let start = product_start x.parts spells.1 cut.0 again.0 spells.4.product again.1 in
    let signs : signs_at t ≡ (x.negative, behind_spaces cut.0) = signs_again x.negative spells.0 t cut.0 spells.4.sign cut.1 start in
    let final = terms_final xs spells.2 again.0 spells.5 (are.0, again.2) in
    let product : product_at 16 (behind_spaces cut.0) ≡ Some (x.parts, again.0) =
    product_behind_spaces 16 cut.0 ∙ product_again 16 x.parts spells.1 cut.0 again.0 spells.4.product spells.4.few again.1 final in
    let more = terms_again (length (behind_spaces again.0)) xs spells.2 again.0 spells.5 (are.0, again.2) (omega arith) in
    rw (signs, product, more) refl
