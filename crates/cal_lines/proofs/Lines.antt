-- Lines of words, and exact readers of one line and of many.
use Rattle.std.proofs.Common.{◌≡◌, ℕ, zero, suc, ◌+◌, ◌≤◌, ◌<◌, ◌⊎◌, inl, inr, false, eqb, List, [], ◌∷◌, ◌++◌, length, map, Result, Ok, Err, Option, Some, None, refl, sym, ap, subst, ◌∙◌, arith}
use Rattle.std.specs.List.{slice_split, join_with_byte, AllByRecursion}
use Rattle.std.proofs.lemmas.List.{length-append}
use Rattle.std.proofs.lemmas.List.Elements.{All-from_recursion}
use Rattle.std.proofs.lemmas.List.Splits.{slice_split_none, slice_split_at, join_with_byte-slice_split}
use Rattle.std.proofs.lemmas.Bool.{eqb-false}
use Rattle.cal_scan.specs.Lines.{Word, Line, line}
use Rattle.cal_lines.specs.Reading.{Lines, Stops, ◌>>=◌, without_feed, all_words, words_of, taken, line_at, of_line, many, Runs}
use Rattle.cal_lines.proofs.Feeds.{HasNoFeed, IsLine, AreLines, feed-again, feed-found}
use Rattle.cal_lines.proofs.Algebra.{bind_ok, bind_err, ok_is, Took, Exact}

-- ---- words

abbrev pub IsWord : Word → Type 0
IsWord w = AllByRecursion (λ b. 32 < b) w

abbrev pub IsWords : List Word → Type 0
IsWords [] = ⊥
IsWords (w ∷ []) = IsWord w
IsWords (w ∷ v ∷ ws) = IsWord w × IsWords (v ∷ ws)

no_space : (w : Word) → IsWord w → AllByRecursion (λ b. eqb b 32 ≡ false) w
no_space [] is = tt
no_space (b ∷ bs) is = (neq b is.0, no_space bs is.1)
  where
    neq : (b : ℕ) → 32 < b → eqb b 32 ≡ false
    neq b lt = grind (arith, eqb-false)

words-again : (ws : List Word) → IsWords ws → slice_split (λ b. eqb b 32) (join_with_byte 32 ws) ≡ ws
words-again [] is = absurd is
words-again (w ∷ []) is = slice_split_none (λ b. eqb b 32) w (All-from_recursion (λ b. eqb b 32 ≡ false) w (no_space w is))
words-again (w ∷ v ∷ ws) is =
    slice_split_at (λ b. eqb b 32) w 32 (join_with_byte 32 (v ∷ ws)) (All-from_recursion (λ b. eqb b 32 ≡ false) w (no_space w is.0)) refl
    ∙ ap (λ (t : List Word). w ∷ t) (words-again (v ∷ ws) is.1)

no_feeds : (w rest : List ℕ) → IsWord w → HasNoFeed rest → HasNoFeed (w ++ rest)
no_feeds [] rest is clean = clean
no_feeds (b ∷ w) rest is clean = (differs b is.0, no_feeds w rest is.1 clean)
  where
    differs : (b : ℕ) → 32 < b → eqb b 10 ≡ false
    differs b lt = grind (arith, eqb-false)

no_feed_word : (w : Word) → IsWord w → HasNoFeed w
no_feed_word [] is = tt
no_feed_word (b ∷ w) is = (differs b is.0, no_feed_word w is.1)
  where
    differs : (b : ℕ) → 32 < b → eqb b 10 ≡ false
    differs b lt = grind (arith, eqb-false)

clean_words : (ws : List Word) → IsWords ws → HasNoFeed (join_with_byte 32 ws)
clean_words [] is = absurd is
clean_words (w ∷ []) is = no_feed_word w is
clean_words (w ∷ v ∷ ws) is = no_feeds w (32 ∷ join_with_byte 32 (v ∷ ws)) is.0 (refl, clean_words (v ∷ ws) is.1)

pub is_line : (ws : List Word) → IsWords ws → IsLine (line ws)
unfolding line
is_line ws is = record { front = join_with_byte 32 ws; cut = refl; clean = clean_words ws is }

pub words_of-line : (ws : List Word) → IsWords ws → words_of (line ws) ≡ Some ws
unfolding line
words_of-line ws is = ap all_words (feed-again (join_with_byte 32 ws)) ∙ ap (λ (t : List Word). Some t) (words-again ws is)

pub line-words_of : (l : Line) (ws : List Word) → words_of l ≡ Some ws → l ≡ line ws
unfolding line
line-words_of l ws e = by_feed (without_feed l) refl e
  where
    by_feed : (o : Option (List ℕ)) → without_feed l ≡ o → all_words o ≡ Some ws → l ≡ line ws
    by_feed None is e = absurd cc
    by_feed (Some t) is e =
        let split : slice_split (λ b. eqb b 32) t ≡ ws = cc in
        feed-found l t is ∙ ap (λ (z : List ℕ). z ++ 10 ∷ []) (sym (join_with_byte-slice_split 32 t) ∙ ap (join_with_byte 32) split)

-- ---- one line

-- Lines of one kind: what words a value has, and how they are understood.
pub record Kind {A : Type 0} (words : A → List Word) (Fits : A → Type 0) (parse : List Word → Option A) : Type 0 where
  pub found : (ws : List Word) (a : A) → parse ws ≡ Some a → (ws ≡ words a) × Fits a
  pub again : (a : A) → Fits a → parse (words a) ≡ Some a
  pub plain : (a : A) → Fits a → IsWords (words a)
  pub example : (a : A) × Fits a

pub taken_ok : {A B : Type 0} (n : ℕ) (o : Option A) (f : A → Result B ℕ) (y : B) → taken n o f ≡ Ok y → (a : A) × (o ≡ Some a) × (f a ≡ Ok y)
taken_ok n None f y e = absurd cc
taken_ok n (Some a) f y e = (a, refl, e)

pub taken_err : {A B : Type 0} (n : ℕ) (o : Option A) (f : A → Result B ℕ) (k : ℕ) → taken n o f ≡ Err k → ((o ≡ None) × (n ≡ k)) ⊎ ((a : A) × (o ≡ Some a) × (f a ≡ Err k))
taken_err n None f k e = inl (refl, cc)
taken_err n (Some a) f k e = inr (a, refl, e)

-- the words of a line, understood
abbrev pub understood : {A : Type 0} → (List Word → Option A) → Option (List Word) → Option A
understood parse None = None
understood parse (Some ws) = parse ws

understood-found : {A : Type 0} (words : A → List Word) (Fits : A → Type 0) (parse : List Word → Option A) → Kind words Fits parse → (l : Line) (a : A) → understood parse (words_of l) ≡ Some a → (l ≡ line (words a)) × Fits a
understood-found {A = A} words Fits parse kind l a e = by_words (words_of l) refl e
  where
    by_words : (o : Option (List Word)) → words_of l ≡ o → understood parse o ≡ Some a → (l ≡ line (words a)) × Fits a
    by_words None is e = absurd cc
    by_words (Some ws) is e = let f = kind.found ws a e in (line-words_of l ws is ∙ ap line f.0, f.1)

understood-again : {A : Type 0} (words : A → List Word) (Fits : A → Type 0) (parse : List Word → Option A) → Kind words Fits parse → (a : A) → Fits a → understood parse (words_of (line (words a))) ≡ Some a
understood-again words Fits parse kind a fits = ap (understood parse) (words_of-line (words a) (kind.plain a fits)) ∙ kind.again a fits

cons_same : {X : Type 0} (a b : X) (xs ys : List X) → a ≡ b → xs ≡ ys → a ∷ xs ≡ b ∷ ys
cons_same a b xs ys p q = cc

abbrev onward : {A : Type 0} → (A → ℕ → ℕ) → (List Word → Option A) → ℕ → ℕ → List Line → A → Result (List A × Lines) ℕ
onward next parse o n ls a = many next parse (next a o) (n + 1) ls >>= λ x. Ok (a ∷ x.0, x.1)

abbrev behind : {A : Type 0} → ℕ → List Line → A → Result (A × Lines) ℕ
behind n ls a = Ok (a, (n + 1, ls))

abbrev to_words : ℕ → List Line → List Word → Result (List Word × Lines) ℕ
to_words n ls ws = Ok (ws, (n + 1, ls))

abbrev after_words : {A : Type 0} → (List Word → Option A) → ℕ → List Word × Lines → Result (A × Lines) ℕ
after_words parse n x = taken n (parse x.0) (λ a. Ok (a, x.1))

-- many with its line in one step
many_step : {A : Type 0} (next : A → ℕ → ℕ) (parse : List Word → Option A) (o n : ℕ) (l : Line) (ls : List Line) → many next parse (suc o) n (l ∷ ls) ≡ taken n (understood parse (words_of l)) (onward next parse o n ls)
unfolding many
many_step {A = A} next parse o n l ls = by_words (words_of l)
  where
    by_words : (w : Option (List Word)) → taken n w (λ ws. taken n (parse ws) (onward next parse o n ls)) ≡ taken n (understood parse w) (onward next parse o n ls)
    by_words None = refl
    by_words (Some ws) = refl

abbrev pub spelled : {A : Type 0} → (A → List Word) → List A → List Line
spelled words vs = map (λ a. line (words a)) vs

pub exact_many : {A : Type 0} (next : A → ℕ → ℕ) (words : A → List Word) (Fits : A → Type 0) (parse : List Word → Option A) → Kind words Fits parse
    → (a : A) → Fits a → ((o : ℕ) → next a o ≡ o)
    → (o : ℕ) → Exact (spelled words) (Runs next Fits o) (λ at. many next parse o at.0 at.1)
unfolding many
exact_many {A = A} next words Fits parse kind last last_fits ends o = record { took = λ n ls vs m rest e. took o n ls vs m rest e; again = λ vs n rest fits. again o vs n rest fits; stops = λ n ls k e. stops o n ls k e; clean = λ vs fits. clean o vs fits }
  where
    clean : (o : ℕ) (vs : List A) → Runs next Fits o vs → AreLines (spelled words vs)
    clean zero [] fits = tt
    clean zero (a ∷ vs) fits = absurd fits
    clean (suc o) [] fits = absurd fits
    clean (suc o) (a ∷ vs) fits = (is_line (words a) (kind.plain a fits.0), clean (next a o) vs fits.1)

    took : (o n : ℕ) (ls : List Line) (vs : List A) (m : ℕ) (rest : List Line) → many next parse o n ls ≡ Ok (vs, (m, rest)) → Took (spelled words) (Runs next Fits o) n ls vs m rest
    took zero n ls vs m rest e =
        let made : List A × Lines = ([], (n, ls)) in
        subst (λ (z : List A × Lines). Took (spelled words) (Runs next Fits 0) n ls z.0 z.1.0 z.1.1) (ok_is made (vs, (m, rest)) e) (record { parts = refl; number = omega arith; fits = tt })
    took (suc o) n [] vs m rest e = absurd cc
    took (suc o) n (l ∷ ls) vs m rest e =
        let a = taken_ok n (understood parse (words_of l)) (onward next parse o n ls) (vs, (m, rest)) (sym (many_step next parse o n l ls) ∙ e) in
        let x = bind_ok (many next parse (next a.0 o) (n + 1) ls) (λ x. Ok (a.0 ∷ x.0, x.1)) (vs, (m, rest)) a.2 in
        let f = understood-found words Fits parse kind l a.0 a.1 in
        let t = took (next a.0 o) (n + 1) ls x.0.0 x.0.1.0 x.0.1.1 x.1 in
        let made : List A × Lines = (a.0 ∷ x.0.0, x.0.1) in
        subst (λ (z : List A × Lines). Took (spelled words) (Runs next Fits (suc o)) n (l ∷ ls) z.0 z.1.0 z.1.1) (ok_is made (vs, (m, rest)) x.2)
        (record { parts = cons_same l (line (words a.0)) ls (spelled words x.0.0 ++ x.0.1.1) f.0 t.parts; number = omega (arith, t.number); fits = (f.1, t.fits) })

    again : (o : ℕ) (vs : List A) (n : ℕ) (rest : List Line) → Runs next Fits o vs → many next parse o n (spelled words vs ++ rest) ≡ Ok (vs, (n + length (spelled words vs), rest))
    again zero [] n rest fits = let e : n ≡ n + 0 = omega arith in ap (λ (k : ℕ). Ok ([], (k, rest))) e
    again zero (a ∷ vs) n rest fits = absurd fits
    again (suc o) [] n rest fits = absurd fits
    again (suc o) (a ∷ vs) n rest fits =
        let e : n + 1 + length (spelled words vs) ≡ n + suc (length (spelled words vs)) = omega arith in
        many_step next parse o n (line (words a)) (spelled words vs ++ rest)
        ∙ rw (understood-again words Fits parse kind a fits.0, again (next a o) vs (n + 1) rest fits.1, e) refl

    fill : (o : ℕ) → (vs : List A) × Runs next Fits o vs
    fill zero = ([], tt)
    fill (suc o) = let f = fill o in (last ∷ f.0, (last_fits, subst (λ (k : ℕ). Runs next Fits k f.0) (sym (ends o)) f.1))

    stops : (o n : ℕ) (ls : List Line) (k : ℕ) → many next parse o n ls ≡ Err k → Stops (spelled words) (Runs next Fits o) n ls k
    stops zero n ls k e = absurd cc
    stops (suc o) n [] k e =
        let same : n ≡ k = cc in
        let f = fill (suc o) in
        record {
          front = [];
          rest = [];
          cut = refl;
          count = omega (arith, same);
          goes = (f.0, f.1, spelled words f.0, refl);
          ends = λ longer others more vs cut fits spells. omega (arith, same, ap length cut, length-append longer others);
        }
    stops (suc o) n (l ∷ ls) k e =
        elim (taken_err n (understood parse (words_of l)) (onward next parse o n ls) k (sym (many_step next parse o n l ls) ∙ e)) [
          | inl h ↦
              let f = fill (suc o) in
              record {
                front = [];
                rest = l ∷ ls;
                cut = refl;
                count = omega (arith, h.1);
                goes = (f.0, f.1, spelled words f.0, refl);
                ends = λ longer others more vs cut fits spells. unknown n l ls k o h.0 h.1 longer others more vs cut fits spells;
              }
          | inr h ↦ elim (bind_err (many next parse (next h.0 o) (n + 1) ls) (λ x. Ok (h.0 ∷ x.0, x.1)) k h.2) [
            | inl i ↦
                let f = understood-found words Fits parse kind l h.0 h.1 in
                let s = stops (next h.0 o) (n + 1) ls k i in
                record {
                  front = l ∷ s.front;
                  rest = s.rest;
                  cut = ap (λ (t : List Line). l ∷ t) s.cut;
                  count = omega (arith, s.count);
                  goes = (h.0 ∷ s.goes.0, (f.1, s.goes.1), s.goes.2, cons_same (line (words h.0)) l (spelled words s.goes.0) (s.front ++ s.goes.2) (sym f.0) s.goes.3);
                  ends = λ longer others more vs cut fits spells. known n l ls k o h.0 h.1 s longer others more vs cut fits spells;
                }
            | inr i ↦ absurd cc
          ]
        ]
      where
        unknown : (n : ℕ) (l : Line) (ls : List Line) (k o : ℕ) → understood parse (words_of l) ≡ None → n ≡ k
            → (longer others more : List Line) (vs : List A) → l ∷ ls ≡ longer ++ others → Runs next Fits (suc o) vs → spelled words vs ≡ longer ++ more → n + length longer ≤ k
        unknown n l ls k o none same [] others more vs cut fits spells = omega (arith, same)
        unknown n l ls k o none same (x ∷ longer) others more [] cut fits spells = absurd cc
        unknown n l ls k o none same (x ∷ longer) others more (a ∷ vs) cut fits spells =
            let this : l ≡ line (words a) = cc in
            let some : understood parse (words_of l) ≡ Some a = rw this (understood-again words Fits parse kind a fits.0) in
            absurd cc

        known : (n : ℕ) (l : Line) (ls : List Line) (k o : ℕ) (a0 : A) → understood parse (words_of l) ≡ Some a0 → Stops (spelled words) (Runs next Fits (next a0 o)) (n + 1) ls k
            → (longer others more : List Line) (vs : List A) → l ∷ ls ≡ longer ++ others → Runs next Fits (suc o) vs → spelled words vs ≡ longer ++ more → n + length longer ≤ k
        known n l ls k o a0 is s [] others more vs cut fits spells = omega (arith, s.count)
        known n l ls k o a0 is s (x ∷ longer) others more [] cut fits spells = absurd cc
        known n l ls k o a0 is s (x ∷ longer) others more (a ∷ vs) cut fits spells =
            let this : l ≡ line (words a) = cc in
            let some : understood parse (words_of l) ≡ Some a = rw this (understood-again words Fits parse kind a fits.0) in
            let same : a ≡ a0 = cc in
            let tail : ls ≡ longer ++ others = cc in
            let more_is : spelled words vs ≡ longer ++ more = cc in
            let run = subst (λ (b : A). Runs next Fits (next b o) vs) same fits.1 in
            omega (arith, s.ends longer others more vs tail run more_is)

pub exact_line : {A : Type 0} (words : A → List Word) (Fits : A → Type 0) (parse : List Word → Option A) → Kind words Fits parse → Exact (λ a. line (words a) ∷ []) Fits (of_line parse)
unfolding of_line line_at
exact_line {A = A} words Fits parse kind = record { took = took; again = again; stops = stops; clean = λ a fits. (is_line (words a) (kind.plain a fits), tt) }
  where
    shape : (n : ℕ) (l : Line) (ls : List Line) → of_line parse (n, l ∷ ls) ≡ taken n (understood parse (words_of l)) (behind n ls)
    shape n l ls = by_words (words_of l)
      where
        by_words : (w : Option (List Word)) → (taken n w (to_words n ls) >>= after_words parse n) ≡ taken n (understood parse w) (behind n ls)
        by_words None = refl
        by_words (Some ws) = refl

    took : (n : ℕ) (ls : List Line) (a : A) (m : ℕ) (rest : List Line) → of_line parse (n, ls) ≡ Ok (a, (m, rest)) → Took (λ a. line (words a) ∷ []) Fits n ls a m rest
    took n [] a m rest e = absurd cc
    took n (l ∷ ls) a m rest e =
        let t = taken_ok n (understood parse (words_of l)) (behind n ls) (a, (m, rest)) (sym (shape n l ls) ∙ e) in
        let f = understood-found words Fits parse kind l t.0 t.1 in
        let made : A × Lines = (t.0, (n + 1, ls)) in
        subst (λ (z : A × Lines). Took (λ a. line (words a) ∷ []) Fits n (l ∷ ls) z.0 z.1.0 z.1.1) (ok_is made (a, (m, rest)) t.2) (record { parts = ap (λ (z : Line). z ∷ ls) f.0; number = omega arith; fits = f.1 })

    again : (a : A) (n : ℕ) (rest : List Line) → Fits a → of_line parse (n, line (words a) ∷ [] ++ rest) ≡ Ok (a, (n + 1, rest))
    again a n rest fits = shape n (line (words a)) rest ∙ rw (understood-again words Fits parse kind a fits) refl

    stops : (n : ℕ) (ls : List Line) (k : ℕ) → of_line parse (n, ls) ≡ Err k → Stops (λ a. line (words a) ∷ []) Fits n ls k
    stops n [] k e =
        let same : n ≡ k = cc in
        record {
          front = [];
          rest = [];
          cut = refl;
          count = omega (arith, same);
          goes = (kind.example.0, kind.example.1, line (words kind.example.0) ∷ [], refl);
          ends = λ longer others more a cut fits spells. omega (arith, same, ap length cut, length-append longer others);
        }
    stops n (l ∷ ls) k e =
        elim (taken_err n (understood parse (words_of l)) (behind n ls) k (sym (shape n l ls) ∙ e)) [
          | inl h ↦ record {
            front = [];
            rest = l ∷ ls;
            cut = refl;
            count = omega (arith, h.1);
            goes = (kind.example.0, kind.example.1, line (words kind.example.0) ∷ [], refl);
            ends = λ longer others more a cut fits spells. unknown n l ls k h.0 h.1 longer others more a cut fits spells;
          }
          | inr h ↦ absurd cc
        ]
      where
        unknown : (n : ℕ) (l : Line) (ls : List Line) (k : ℕ) → understood parse (words_of l) ≡ None → n ≡ k
            → (longer others more : List Line) (a : A) → l ∷ ls ≡ longer ++ others → Fits a → line (words a) ∷ [] ≡ longer ++ more → n + length longer ≤ k
        unknown n l ls k none same [] others more a cut fits spells = omega (arith, same)
        unknown n l ls k none same (x ∷ longer) others more a cut fits spells =
            let this : l ≡ line (words a) = cc in
            let some : understood parse (words_of l) ≡ Some a = rw this (understood-again words Fits parse kind a fits) in
            absurd cc
