-- Line feeds: where the lines of some bytes end, and the first of them.
use Rattle.std.proofs.Common.{◌≡◌, ℕ, zero, suc, ◌+◌, ◌<◌, ◌⊎◌, inl, inr, Bool, true, false, cond, eqb, ltb, List, [], ◌∷◌, ◌++◌, length, get_or, take, drop, Option, Some, None, Ok, Err, refl, sym, ap, ◌∙◌, append_assoc, arith}
use Rattle.std.specs.List.{slice_split, position, position_or_len, AllByRecursion, concat}
use Rattle.std.proofs.lemmas.Bool.{eqb-true, ltb-false}
use Rattle.std.proofs.lemmas.List.{take-append-drop, drop_more, drop-drop}
use Rattle.std.proofs.lemmas.List.Sums.{fails_before_first}
use Rattle.std.proofs.lemmas.List.Quantifiers.{position-Some}
use Rattle.cal_scan.specs.Lines.{Word, Line}
use Rattle.cal_lines.specs.Reading.{words_of, all_words, lines_of, before_lines, with_front, without_feed, line_at}

abbrev pub HasNoFeed : List ℕ → Type 0
HasNoFeed bs = AllByRecursion (λ b. eqb b 10 ≡ false) bs

pub lines_cut : (bs rest : List ℕ) → HasNoFeed bs → lines_of (bs ++ 10 ∷ rest) ≡ (bs ++ 10 ∷ []) ∷ lines_of rest
lines_cut [] rest is = refl
lines_cut (b ∷ bs) rest is = rw (is.0, lines_cut bs rest is.1) refl

-- ---- bytes and their lines

-- the lines of some bytes, one after the other, are the bytes
concat_before : (b : ℕ) (ls : List Line) → concat (before_lines b ls) ≡ b ∷ concat ls
concat_before b [] = refl
concat_before b (l ∷ ls) = refl

pub concat-lines_of : (bs : List ℕ) → concat (lines_of bs) ≡ bs
concat-lines_of [] = refl
concat-lines_of (b ∷ bs) = by_test (eqb b 10) refl (concat-lines_of bs)
  where
    by_test : (t : Bool) → eqb b 10 ≡ t → concat (lines_of bs) ≡ bs → concat (cond t ((10 ∷ []) ∷ lines_of bs) (before_lines b (lines_of bs))) ≡ b ∷ bs
    by_test true is rest = let same : b ≡ 10 = eqb-true _ _ is in rw (rest, same) refl
    by_test false is rest = concat_before b (lines_of bs) ∙ ap (λ (t : List ℕ). b ∷ t) rest

-- lines with a line feed at the end and no other
pub record IsLine (l : Line) : Type 0 where
  pub front : List ℕ
  pub cut : l ≡ front ++ 10 ∷ []
  pub clean : HasNoFeed front

abbrev pub AreLines : List Line → Type 0
AreLines ls = AllByRecursion IsLine ls

pub lines_of-concat : (ls : List Line) → AreLines ls → lines_of (concat ls) ≡ ls
lines_of-concat [] all = refl
lines_of-concat (l ∷ ls) all =
    let p = all.0 in
    let regrouped : l ++ concat ls ≡ p.front ++ 10 ∷ concat ls = ap (λ (t : List ℕ). t ++ concat ls) p.cut ∙ append_assoc p.front (10 ∷ []) (concat ls) in
    ap lines_of regrouped ∙ lines_cut p.front (concat ls) p.clean ∙ same l (p.front ++ 10 ∷ []) (lines_of (concat ls)) ls p.cut (lines_of-concat ls all.1)
  where
    same : (a b : Line) (xs ys : List Line) → a ≡ b → xs ≡ ys → b ∷ xs ≡ a ∷ ys
    same a b xs ys p q = cc

pub are_lines-append : (xs ys : List Line) → AreLines xs → AreLines ys → AreLines (xs ++ ys)
are_lines-append [] ys p q = q
are_lines-append (x ∷ xs) ys p q = (p.0, are_lines-append xs ys p.1 q)

-- ---- a line without its line feed

pub feed-again : (bs : List ℕ) → without_feed (bs ++ 10 ∷ []) ≡ Some bs
unfolding without_feed
feed-again [] = refl
feed-again (b ∷ []) = refl
feed-again (b ∷ c ∷ bs) = ap (with_front b) (feed-again (c ∷ bs))

pub feed-found : (l bs : List ℕ) → without_feed l ≡ Some bs → l ≡ bs ++ 10 ∷ []
unfolding without_feed
feed-found [] bs e = absurd cc
feed-found (b ∷ []) bs e = by_test (eqb b 10) refl e
  where
    by_test : (t : Bool) → eqb b 10 ≡ t → cond t (Some []) None ≡ Some bs → b ∷ [] ≡ bs ++ 10 ∷ []
    by_test true is e = let same : b ≡ 10 = eqb-true _ _ is in let none : bs ≡ [] = cc in rw (none, same) refl
    by_test false is e = absurd cc
feed-found (b ∷ c ∷ rest) bs e = by_rest (without_feed (c ∷ rest)) refl (λ t is. feed-found (c ∷ rest) t is) e
  where
    by_rest : (o : Option (List ℕ)) → without_feed (c ∷ rest) ≡ o → ((t : List ℕ) → without_feed (c ∷ rest) ≡ Some t → c ∷ rest ≡ t ++ 10 ∷ []) → with_front b o ≡ Some bs → b ∷ c ∷ rest ≡ bs ++ 10 ∷ []
    by_rest None is found e = absurd cc
    by_rest (Some t) is found e = let head : bs ≡ b ∷ t = cc in rw head (ap (λ (z : List ℕ). b ∷ z) (found t is))

-- ---- the first line

lines_rest : (bs : List ℕ) → HasNoFeed bs → (lines_of bs ≡ []) ⊎ (lines_of bs ≡ bs ∷ [])
lines_rest [] is = inl refl
lines_rest (b ∷ bs) is =
    elim (lines_rest_more bs is.1) [
      | inl h ↦ inr (rw (is.0, h.0) (ap (λ (t : List ℕ). (b ∷ t) ∷ []) (sym h.1)))
      | inr h ↦ inr (rw (is.0, h) refl)
    ]
  where
    lines_rest_more : (bs : List ℕ) → HasNoFeed bs → ((lines_of bs ≡ []) × (bs ≡ [])) ⊎ (lines_of bs ≡ bs ∷ [])
    lines_rest_more [] is = inl (refl, refl)
    lines_rest_more (c ∷ bs) is =
        elim (lines_rest_more bs is.1) [
          | inl h ↦ inr (rw (is.0, h.0) (ap (λ (t : List ℕ). (c ∷ t) ∷ []) (sym h.1)))
          | inr h ↦ inr (rw (is.0, h) refl)
        ]

no_feed : (bs : List ℕ) → HasNoFeed bs → without_feed bs ≡ None
unfolding without_feed
no_feed [] is = refl
no_feed (b ∷ []) is = rw is.0 refl
no_feed (b ∷ c ∷ bs) is = ap (with_front b) (no_feed (c ∷ bs) is.1)

by_index : (bs : List ℕ) → ((k : ℕ) → k < length bs → eqb (get_or bs k 0) 10 ≡ false) → HasNoFeed bs
by_index [] h = tt
by_index (b ∷ bs) h = (h 0 (omega arith), by_index bs (λ k lt. h (suc k) (omega arith)))

passes_none : (bs : List ℕ) → position (λ b. eqb b 10) bs ≡ None → HasNoFeed bs
passes_none bs e = by_test (ltb (position_or_len (λ b. eqb b 10) bs) (length bs)) refl e
  where
    by_test : (t : Bool) → ltb (position_or_len (λ b. eqb b 10) bs) (length bs) ≡ t → cond t (Some (position_or_len (λ b. eqb b 10) bs)) None ≡ None → HasNoFeed bs
    by_test true is e = absurd cc
    by_test false is e = let le = ltb-false _ _ is in by_index bs (λ k lt. fails_before_first (λ b. eqb b 10) bs k 0 (omega arith))

-- no whole line
pub no_line : (bs : List ℕ) → position (λ b. eqb b 10) bs ≡ None → (lines_of bs ≡ []) ⊎ ((lines_of bs ≡ bs ∷ []) × (words_of bs ≡ None))
no_line bs e =
    let is = passes_none bs e in
    elim (lines_rest bs is) [
      | inl h ↦ inl h
      | inr h ↦ inr (h, ap all_words (no_feed bs is))
    ]

pub line_none : (n : ℕ) (bs : List ℕ) → position (λ b. eqb b 10) bs ≡ None → line_at (n, lines_of bs) ≡ Err n
unfolding line_at
line_none n bs e =
    elim (no_line bs e) [
      | inl h ↦ rw h refl
      | inr h ↦ rw h.0 (rw h.1 refl)
    ]

before : (bs : List ℕ) (i : ℕ) → ((k : ℕ) → k < i → eqb (get_or bs k 0) 10 ≡ false) → HasNoFeed (take i bs)
before bs zero h = tt
before [] (suc i) h = tt
before (b ∷ bs) (suc i) h = (h 0 (omega arith), before bs i (λ k lt. h (suc k) (omega arith)))

pub first_line : (i : ℕ) (bs : List ℕ) → position (λ b. eqb b 10) bs ≡ Some i → lines_of bs ≡ (take i bs ++ 10 ∷ []) ∷ lines_of (drop (i + 1) bs)
first_line i bs e =
    let p = position-Some (λ b. eqb b 10) bs i 0 e in
    let feed : get_or bs i 0 ≡ 10 = eqb-true _ _ p.1 in
    let parts : bs ≡ take i bs ++ 10 ∷ drop (i + 1) bs = sym (take-append-drop i bs) ∙ ap (λ (t : List ℕ). take i bs ++ t) (drop_more bs i 0 p.0 ∙ ap (λ (x : ℕ). x ∷ drop (i + 1) bs) feed) in
    ap lines_of parts ∙ lines_cut (take i bs) (drop (i + 1) bs) (before bs i p.2)

pub line_some : (n i : ℕ) (bs : List ℕ) → position (λ b. eqb b 10) bs ≡ Some i → line_at (n, lines_of bs) ≡ Ok (slice_split (λ b. eqb b 32) (take i bs), (n + 1, lines_of (drop (i + 1) bs)))
unfolding line_at
line_some n i bs e = ap (λ (t : List Line). line_at (n, t)) (first_line i bs e) ∙ rw (feed-again (take i bs)) refl

pub line_taken : (n i : ℕ) (bs front tail rest : List ℕ) (ws : List Word) → position (λ b. eqb b 10) bs ≡ Some i → front ≡ take i bs → tail ≡ drop i bs → rest ≡ drop 1 tail → ws ≡ slice_split (λ b. eqb b 32) front
    → line_at (n, lines_of bs) ≡ Ok (ws, (n + 1, lines_of rest))
line_taken n i bs front tail rest ws e f t r w =
    let words : slice_split (λ b. eqb b 32) (take i bs) ≡ ws = ap (slice_split (λ b. eqb b 32)) (sym f) ∙ sym w in
    let behind : drop (i + 1) bs ≡ rest = sym (drop-drop 1 i bs) ∙ ap (drop 1) (sym t) ∙ sym r in
    line_some n i bs e ∙ rw (words, behind) refl
