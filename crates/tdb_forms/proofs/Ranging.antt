-- The pieces of a ranged text, one behind the other.
use Rattle.std.proofs.Common.{◌≡◌, ℕ, zero, suc, ◌+◌, ◌<◌, ◌≤◌, ◌⊎◌, List, [], ◌∷◌, ◌++◌, length, take, drop, slice_get, Option, Some, None, position, inl, inr, refl, sym, ap, subst, ◌∙◌, append_assoc, length-append, length-drop, arith}
use Rattle.std.specs.Prelude.{◌==◌, IfNone, IfSome}
use Rattle.std.proofs.lemmas.List.Quantifiers.{position-Some}
use Rattle.std.specs.Option.{option_map}
use Rattle.std.specs.List.{prefix_len}
use Rattle.cal_dec.specs.declared.dec.Dec.{Dec}
use Rattle.cal_dec.specs.Fronts.{IsLongestNumber, HasNoNumber}
use Rattle.cal_scan.specs.Cuts.{cut_at}
use Rattle.cal_scan.specs.Fronts.{behind_spaces}
use Rattle.tdb_expr.specs.declared.ranged.Ranged.{Ranged}
use Rattle.tdb_expr.specs.declared.ranged.Piece.{Piece}
use Rattle.tdb_expr.specs.Forms.{IsPiece as IsFinePiece}
use Rattle.tdb_forms.specs.Numbers.{BeginsWithNumber}
use Rattle.tdb_forms.specs.Ranges.{behind_separators, is_separator, IsHigh, IsPiece, IsEnd, ArePieces, IsRangedText}
use Rattle.tdb_forms.proofs.Readings.{longest_once}

pub from_none : {A : Type 0} (o : Option A) (P : Type 0) → o ≡ None → IfNone o P → P
from_none None P e h = h
from_none (Some x) P e h = absurd cc

pub from_some : {A : Type 0} (o : Option A) (P : A → Type 0) (x : A) → o ≡ Some x → IfSome o P → P x
from_some o P x e h = subst (λ o. IfSome o P) e h

-- ---- the high limit

pub none_then : {A : Type 0} (o : Option A) (P Q : Type 0) → (P → Q) → IfNone o P → IfNone o Q
none_then None P Q then h = then h
none_then (Some x) P Q then h = tt

pub no_high : (text front rest : List ℕ) → IsLongestNumber text front rest → ((d : Dec) (behind : List ℕ) → BeginsWithNumber text d behind → ⊥) → (high : Dec) (behind : List ℕ) → IsHigh text high behind → ⊥
no_high text front rest longest none high behind (inl begins) = none high behind begins
no_high text front rest longest none high behind (inr written) = written.0 front rest longest.text_is longest.number

high_rest : (text : List ℕ) (a b : Dec) (x y : List ℕ) → IsHigh text a x → IsHigh text b y → x ≡ y
high_rest text a b x y (inl one) (inl two) = (longest_once text one.front x two.front y one.longest two.longest).1
high_rest text a b x y (inl one) (inr two) = absurd (two.0 one.front x one.longest.text_is one.longest.number)
high_rest text a b x y (inr one) (inl two) = absurd (one.0 two.front y two.longest.text_is two.longest.number)
high_rest text a b x y (inr one) (inr two) = one.2 ∙ sym two.2

-- ---- one piece

same_cut : (text a b c d : List ℕ) → cut_at 59 text ≡ Some (a, b) → cut_at 59 text ≡ Some (c, d) → (a ≡ c) × (b ≡ d)
same_cut text a b c d one two =
    let pair : (let made : List ℕ × List ℕ = (a, b) in made) ≡ (c, d) = cc in
    (ap (λ p. p.0) pair, ap (λ p. p.1) pair)

pub no_limit : (text expression limit : List ℕ) → cut_at 59 text ≡ Some (expression, limit) → ((high : Dec) (behind : List ℕ) → IsHigh (behind_separators limit) high behind → ⊥)
    → (piece : Piece) (rest : List ℕ) → IsPiece text piece rest → ⊥
no_limit text expression limit cut none piece rest is =
    none piece.high is.after (subst (λ (l : List ℕ). IsHigh (behind_separators l) piece.high is.after) (same_cut text is.expression is.limit expression limit is.cut cut).1 is.high)

pub no_cut : (text : List ℕ) → cut_at 59 text ≡ None → (piece : Piece) (rest : List ℕ) → IsPiece text piece rest → ⊥
no_cut text none piece rest is = absurd (cc (none, is.cut))

pub piece_rest : (text : List ℕ) (p q : Piece) (a b : List ℕ) → IsPiece text p a → IsPiece text q b → a ≡ b
piece_rest text p q a b one two =
    let limits : one.limit ≡ two.limit = (same_cut text one.expression one.limit two.expression two.limit one.cut two.cut).1 in
    let after : one.after ≡ two.after = high_rest (behind_separators two.limit) p.high q.high one.after two.after (subst (λ (l : List ℕ). IsHigh (behind_separators l) p.high one.after) limits one.high) two.high in
    one.rest_is ∙ ap behind_separators after ∙ sym two.rest_is

-- ---- lengths

separators_shorter : (text : List ℕ) → length (behind_separators text) ≤ length text
unfolding behind_separators
separators_shorter text = omega (arith, length-drop (prefix_len is_separator text) text)

high_shorter : (text : List ℕ) (high : Dec) (rest : List ℕ) → IsHigh text high rest → length rest ≤ length text
high_shorter text high rest (inl begins) = omega (arith, ap length begins.longest.text_is, length-append begins.front rest)
high_shorter text high rest (inr written) = omega (arith, ap length written.2)

position_within : (text : List ℕ) (mark place : ℕ) → position (λ b. b == mark) text ≡ Some place → place < length text
position_within text mark place is = (position-Some (λ b. b == mark) text place 0 is).0

cut_shorter : (text a b : List ℕ) → cut_at 59 text ≡ Some (a, b) → length b < length text
unfolding cut_at
cut_shorter text a b is = by_place (position (λ c. c == 59) text) refl is
  where
    by_place : (o : Option ℕ) → position (λ c. c == 59) text ≡ o → option_map {U = List ℕ × List ℕ} (λ place. (take place text, drop (place + 1) text)) o ≡ Some (a, b) → length b < length text
    by_place None at e = absurd cc
    by_place (Some place) at e =
        let pair : (let made : List ℕ × List ℕ = (take place text, drop (place + 1) text) in made) ≡ (a, b) = cc in
        let behind : drop (place + 1) text ≡ b = ap (λ p. p.1) pair in
        omega (arith, ap length behind, length-drop (place + 1) text, position_within text 59 place at)

pub piece_shorter : (text expression limit after rest : List ℕ) (high : Dec) → cut_at 59 text ≡ Some (expression, limit) → IsHigh (behind_separators limit) high after → rest ≡ behind_separators after → length rest < length text
piece_shorter text expression limit after rest high cut is e =
    omega (arith, ap length e, separators_shorter after, high_shorter (behind_separators limit) high after is, separators_shorter limit, cut_shorter text expression limit cut)

-- ---- all pieces

-- what is read so far, and what is left
pub record Held (text : List ℕ) (done : List Piece) (rest : List ℕ) : Type 0 where
  pub fore : (ps : List Piece) → ArePieces rest ps → ArePieces text (done ++ ps)
  pub back : (ps : List Piece) → ArePieces text ps → (qs : List Piece) × ArePieces rest qs
  pub fine : (i : ℕ) (piece : Piece) → slice_get done i ≡ Some piece → IsFinePiece piece

pub held_start : (text : List ℕ) → Held text [] text
held_start text = record { fore = λ ps are. are; back = λ ps are. (ps, are); fine = λ i piece e. absurd cc }

none_here : (text : List ℕ) → ((p : Piece) (rest : List ℕ) → IsPiece text p rest → ⊥) → (ps : List Piece) → ArePieces text ps → ⊥
none_here text none [] are = are
none_here text none (p ∷ []) are = none p are.0 are.1
none_here text none (p ∷ q ∷ ps) are = none p (89 ∷ are.0) are.1

pub held_none : (text : List ℕ) (done : List Piece) (rest : List ℕ) → Held text done rest → ((p : Piece) (behind : List ℕ) → IsPiece rest p behind → ⊥) → (ps : List Piece) → ArePieces text ps → ⊥
held_none text done rest held none ps are = none_here rest none (held.back ps are).0 (held.back ps are).1

pub each_push : (xs : List Piece) (x : Piece) → ((i : ℕ) (p : Piece) → slice_get xs i ≡ Some p → IsFinePiece p) → IsFinePiece x → (i : ℕ) (p : Piece) → slice_get (xs ++ x ∷ []) i ≡ Some p → IsFinePiece p
each_push [] x all fine zero p e = let same : x ≡ p = cc in subst IsFinePiece same fine
each_push [] x all fine (suc i) p e = absurd cc
each_push (y ∷ ys) x all fine zero p e = all zero p e
each_push (y ∷ ys) x all fine (suc i) p e = each_push ys x (λ j. all (suc j)) fine i p e

pub held_end : (text : List ℕ) (done : List Piece) (rest behind : List ℕ) (p : Piece) → Held text done rest → IsPiece rest p behind → IsEnd behind → ArePieces text (done ++ p ∷ [])
held_end text done rest behind p held is end = held.fore (p ∷ []) (behind, is, end)

pub held_next : (text : List ℕ) (done : List Piece) (rest behind next : List ℕ) (p : Piece) → Held text done rest → IsPiece rest p behind → IsFinePiece p → behind ≡ 89 ∷ next → Held text (done ++ p ∷ []) next
held_next text done rest behind next p held is fine e = record { fore = fore; back = λ ps are. back (held.back ps are).0 (held.back ps are).1; fine = each_push done p held.fine fine }
  where
    here : IsPiece rest p (89 ∷ next)
    here = subst (IsPiece rest p) e is

    fore : (ps : List Piece) → ArePieces next ps → ArePieces text ((done ++ p ∷ []) ++ ps)
    fore [] are = absurd are
    fore (q ∷ ps) are = rw (append_assoc done (p ∷ []) (q ∷ ps)) (held.fore (p ∷ q ∷ ps) (next, here, are))

    back : (ps : List Piece) → ArePieces rest ps → (qs : List Piece) × ArePieces next qs
    back [] are = absurd are
    back (q ∷ []) are = absurd (not_end next (subst IsEnd (piece_rest rest q p are.0 (89 ∷ next) are.1 here) are.2))
      where
        not_end : (next : List ℕ) → IsEnd (89 ∷ next) → ⊥
        not_end next (inl none) = absurd cc
        not_end next (inr unread) = absurd (omega (arith, ap (λ (t : List ℕ). first t) unread.1))
          where
            first : List ℕ → ℕ
            first [] = 0
            first (b ∷ bs) = b
    back (q ∷ r ∷ ps) are =
        let same : 89 ∷ are.0 ≡ 89 ∷ next = piece_rest rest q p (89 ∷ are.0) (89 ∷ next) are.1 here in
        let tails : are.0 ≡ next = cc in
        (r ∷ ps, subst (λ (t : List ℕ). ArePieces t (r ∷ ps)) tails are.2)

pub held_other : (text : List ℕ) (done : List Piece) (rest behind : List ℕ) (p : Piece) → Held text done rest → IsPiece rest p behind → (IsEnd behind → ⊥) → ((next : List ℕ) → behind ≡ 89 ∷ next → ⊥)
    → (ps : List Piece) → ArePieces text ps → ⊥
held_other text done rest behind p held is no_end no_next ps are = other (held.back ps are).0 (held.back ps are).1
  where
    other : (ps : List Piece) → ArePieces rest ps → ⊥
    other [] are = are
    other (q ∷ []) are = no_end (subst IsEnd (piece_rest rest q p are.0 behind are.1 is) are.2)
    other (q ∷ r ∷ ps) are = no_next are.0 (sym (piece_rest rest q p (89 ∷ are.0) behind are.1 is))

-- ---- the whole

pub no_low : (text : List ℕ) (line : ℕ) → ((d : Dec) (rest : List ℕ) → BeginsWithNumber (behind_spaces text) d rest → ⊥) → (ranged : Ranged) → IsRangedText line text ranged → ⊥
no_low text line none ranged is = none is.low is.behind is.begins

begins_once : (text : List ℕ) (a b : Dec) (x y : List ℕ) → BeginsWithNumber text a x → BeginsWithNumber text b y → x ≡ y
begins_once text a b x y one two = (longest_once text one.front x two.front y one.longest two.longest).1

pub no_pieces : (text behind : List ℕ) (line : ℕ) (low : Dec) → BeginsWithNumber (behind_spaces text) low behind → ((ps : List Piece) → ArePieces behind ps → ⊥) → (ranged : Ranged) → IsRangedText line text ranged → ⊥
no_pieces text behind line low begins none ranged is =
    none ranged.pieces (subst (λ (t : List ℕ). ArePieces t ranged.pieces) (begins_once (behind_spaces text) is.low low is.behind behind is.begins begins) is.pieces)
