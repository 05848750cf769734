-- The first word of a line, and what comes next.
use Rattle.std.proofs.Common.{◌≡◌, ℕ, inl, inr, ◌+◌, ◌<◌, Bool, true, false, cond, eqb, ltb, List, [], ◌∷◌, ◌++◌, length, get_or, take, drop, Some, None, refl, sym, ap, subst, ◌∙◌, arith}
use Rattle.std.specs.List.{slice_split, position, position_or_len, All}
use Rattle.std.proofs.lemmas.Bool.{eqb-true, ltb-false}
use Rattle.std.proofs.lemmas.List.{take-append-drop, drop_more, get_or-take, get_or_default, length-take-le}
use Rattle.std.proofs.lemmas.List.Splits.{slice_split_none, slice_split_at}
use Rattle.std.proofs.lemmas.List.Sums.{fails_before_first}
use Rattle.std.proofs.lemmas.List.Quantifiers.{position-Some}
use Rattle.cal_scan.specs.Words.{same_word}
use Rattle.cal_scan.specs.Lines.{Word, Line, line}
use Rattle.cal_lines.specs.Reading.{lines_of, all_words}
use Rattle.cal_lines.specs.Choosing.{is_first, begins_with, next_passes}
use Rattle.cal_lines.proofs.Feeds.{feed-again, no_line, first_line}
use Rattle.cal_lines.proofs.Lines.{IsWords, words_of-line}
use Rattle.cal_lines.proofs.Choices.{Begins}

-- the first word of a line that is spelled
pub begins_with-line : (key w : Word) (ws : List Word) → IsWords (w ∷ ws) → begins_with key (line (w ∷ ws)) ≡ same_word w key
begins_with-line key w ws is = ap (is_first key) (words_of-line (w ∷ ws) is)

-- all lines of a kind begin with one word
pub line-begins : {A : Type 0} (words : A → List Word) (Fits : A → Type 0) (key first : Word) (others : A → List Word) (answer : Bool) → ((a : A) → Fits a → words a ≡ first ∷ others a) → ((a : A) → Fits a → IsWords (words a)) → same_word first key ≡ answer
    → Begins (λ a. line (words a) ∷ []) Fits (begins_with key) answer
line-begins words Fits key first others answer are plain same a fits =
    let is : IsWords (first ∷ others a) = subst (λ (ws : List Word). IsWords ws) (are a fits) (plain a fits) in
    (line (words a), [], refl, ap (λ (ws : List Word). begins_with key (line ws)) (are a fits) ∙ begins_with-line key first (others a) is ∙ same)

-- and so do all that spell such a line first
pub pair-begins : {A B : Type 0} (spellA : A → List Line) (FitsA : A → Type 0) (spellB : A → B → List Line) (FitsB : A → B → Type 0) (test : Line → Bool) (answer : Bool) → Begins spellA FitsA test answer
    → Begins (λ (p : A × B). spellA p.0 ++ spellB p.0 p.1) (λ (p : A × B). FitsA p.0 × FitsB p.0 p.1) test answer
pair-begins spellA FitsA spellB FitsB test answer begins p fits =
    let b = begins p.0 fits.0 in
    (b.0, b.1 ++ spellB p.0 p.1, ap (λ (ls : List Line). ls ++ spellB p.0 p.1) b.2, b.3)

pub only_word : (xs : List ℕ) → position (λ b. eqb b 32) xs ≡ None → (rest : List Word) × (slice_split (λ b. eqb b 32) xs ≡ xs ∷ rest)
only_word xs e = ([], by_test (ltb (position_or_len (λ b. eqb b 32) xs) (length xs)) refl e)
  where
    by_test : (t : Bool) → ltb (position_or_len (λ b. eqb b 32) xs) (length xs) ≡ t → cond t (Some (position_or_len (λ b. eqb b 32) xs)) None ≡ None → slice_split (λ b. eqb b 32) xs ≡ xs ∷ []
    by_test true is e = absurd cc
    by_test false is e = let le = ltb-false _ _ is in slice_split_none (λ b. eqb b 32) xs (λ k d lt. fails_before_first (λ b. eqb b 32) xs k d (omega arith))

before : (i : ℕ) (xs : List ℕ) → i < length xs → ((k : ℕ) → k < i → eqb (get_or xs k 0) 32 ≡ false) → All (λ b. eqb b 32 ≡ false) (take i xs)
before i xs within h = λ k d lt.
    let few : length (take i xs) ≡ i = length-take-le i xs (omega arith) in
    let same : get_or (take i xs) k d ≡ get_or xs k 0 = get_or-take i xs k d (omega (arith, few, lt)) ∙ get_or_default xs k d 0 (omega (arith, few, lt)) in
    ap (λ (b : ℕ). eqb b 32) same ∙ h k (omega (arith, few, lt))

pub word_before : (i : ℕ) (xs : List ℕ) → position (λ b. eqb b 32) xs ≡ Some i → (rest : List Word) × (slice_split (λ b. eqb b 32) xs ≡ take i xs ∷ rest)
word_before i xs e =
    let p = position-Some (λ b. eqb b 32) xs i 0 e in
    let space : get_or xs i 0 ≡ 32 = eqb-true _ _ p.1 in
    let clear : All (λ b. eqb b 32 ≡ false) (take i xs) = before i xs p.0 p.2 in
    let parts : xs ≡ take i xs ++ 32 ∷ drop (i + 1) xs = sym (take-append-drop i xs) ∙ ap (λ (t : List ℕ). take i xs ++ t) (drop_more xs i 0 p.0 ∙ ap (λ (x : ℕ). x ∷ drop (i + 1) xs) space) in
    (slice_split (λ b. eqb b 32) (drop (i + 1) xs), ap (slice_split (λ b. eqb b 32)) parts ∙ slice_split_at (λ b. eqb b 32) (take i xs) 32 (drop (i + 1) xs) clear refl)

pub none_next : (key : Word) (bs : List ℕ) → position (λ b. eqb b 10) bs ≡ None → false ≡ next_passes (begins_with key) (lines_of bs)
none_next key bs e =
    elim (no_line bs e) [
      | inl h ↦ rw h refl
      | inr h ↦ rw h.0 (rw h.1 refl)
    ]

pub some_next : (key : Word) (bs front w : List ℕ) (i : ℕ) (t : Bool) → position (λ b. eqb b 10) bs ≡ Some i → front ≡ take i bs → (rest : List Word) × (slice_split (λ b. eqb b 32) front ≡ w ∷ rest) → t ≡ same_word w key → t ≡ next_passes (begins_with key) (lines_of bs)
some_next key bs front w i t e f words is =
    let split : slice_split (λ b. eqb b 32) (take i bs) ≡ w ∷ words.0 = ap (slice_split (λ b. eqb b 32)) (sym f) ∙ words.1 in
    is ∙ sym (ap (next_passes (begins_with key)) (first_line i bs e) ∙ ap (is_first key) (ap all_words (feed-again (take i bs)) ∙ ap (λ (ws : List Word). Some ws) split))
