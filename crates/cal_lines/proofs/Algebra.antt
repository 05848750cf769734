-- Exact readers, and how they are put together.
use Rattle.std.proofs.Common.{◌≡◌, ℕ, ◌+◌, ◌⊎◌, inl, inr, List, [], ◌∷◌, ◌++◌, length, Result, Ok, Err, refl, sym, ap, subst, ◌∙◌, append_assoc, arith}
use Rattle.std.proofs.lemmas.List.{append-nil, length-append}
use Rattle.cal_scan.specs.Lines.{Line}
use Rattle.cal_lines.specs.Reading.{Lines, Read, Stops, ◌>>=◌, both, pair, only}
use Rattle.cal_lines.proofs.Feeds.{AreLines, are_lines-append}

-- the value of a step that did not fail
pub bind_ok : {A B : Type 0} (r : Result A ℕ) (f : A → Result B ℕ) (y : B) → (r >>= f) ≡ Ok y → (x : A) × (r ≡ Ok x) × (f x ≡ Ok y)
bind_ok (Ok x) f y e = (x, refl, e)
bind_ok (Err d) f y e = absurd cc

pub bind_err : {A B : Type 0} (r : Result A ℕ) (f : A → Result B ℕ) (k : ℕ) → (r >>= f) ≡ Err k → (r ≡ Err k) ⊎ ((x : A) × (r ≡ Ok x) × (f x ≡ Err k))
bind_err (Ok x) f k e = inr (x, refl, e)
bind_err (Err d) f k e = inl cc

abbrev done : {A : Type 0} → A → Result A ℕ
done x = Ok x

pub ok_is : {A : Type 0} (x y : A) → done x ≡ done y → x ≡ y
ok_is x y e = cc

-- two ways to cut a list
pub two_cuts : {X : Type 0} (a b c d : List X) → a ++ b ≡ c ++ d → ((x : List X) × (c ≡ a ++ x) × (b ≡ x ++ d)) ⊎ ((y : List X) × (a ≡ c ++ y) × (d ≡ y ++ b))
two_cuts [] b c d e = inl (c, refl, e)
two_cuts (x ∷ a) b [] d e = inr (x ∷ a, refl, sym e)
two_cuts (x ∷ a) b (z ∷ c) d e =
    let head : x ≡ z = cc in
    let tail : a ++ b ≡ c ++ d = cc in
    elim (two_cuts a b c d tail) [
      | inl p ↦ inl (p.0, rw (head, p.1) refl, p.2)
      | inr p ↦ inr (p.0, rw (head, p.1) refl, p.2)
    ]

-- what a reader took
pub record Took {A : Type 0} (spell : A → List Line) (Fits : A → Type 0) (n : ℕ) (ls : List Line) (a : A) (m : ℕ) (rest : List Line) : Type 0 where
  pub parts : ls ≡ spell a ++ rest
  pub number : m ≡ n + length (spell a)
  pub fits : Fits a

-- A reader is exact where it takes just what is spelled, and stops at the first line that no spelling goes on with.
pub record Exact {A : Type 0} (spell : A → List Line) (Fits : A → Type 0) (f : Read A) : Type 0 where
  pub took : (n : ℕ) (ls : List Line) (a : A) (m : ℕ) (rest : List Line) → f (n, ls) ≡ Ok (a, (m, rest)) → Took spell Fits n ls a m rest
  pub again : (a : A) (n : ℕ) (rest : List Line) → Fits a → f (n, spell a ++ rest) ≡ Ok (a, (n + length (spell a), rest))
  pub stops : (n : ℕ) (ls : List Line) (k : ℕ) → f (n, ls) ≡ Err k → Stops spell Fits n ls k
  pub clean : (a : A) → Fits a → AreLines (spell a)

-- some value has a spelling
pub some_of : {A : Type 0} (spell : A → List Line) (Fits : A → Type 0) (f : Read A) → Exact spell Fits f → (a : A) × Fits a
some_of {A = A} spell Fits f exact = by_result (f (0, [])) refl
  where
    by_result : (r : Result (A × Lines) ℕ) → f (0, []) ≡ r → (a : A) × Fits a
    by_result (Ok x) e = (x.0, (exact.took 0 [] x.0 x.1.0 x.1.1 e).fits)
    by_result (Err k) e = let g = (exact.stops 0 [] k e).goes in (g.0, g.1)

-- no spelling begins another
pub one_spelling : {A : Type 0} (spell : A → List Line) (Fits : A → Type 0) (f : Read A) → Exact spell Fits f → (a b : A) (x y : List Line) → Fits a → Fits b → spell a ++ x ≡ spell b ++ y → (a ≡ b) × (x ≡ y)
one_spelling {A = A} spell Fits f exact a b x y fa fb e =
    let p = exact.again a 0 x fa in
    let q = exact.again b 0 y fb in
    let r : f (0, spell a ++ x) ≡ f (0, spell b ++ y) = ap (λ (t : List Line). f (0, t)) e in
    let s = ok_is (a, (0 + length (spell a), x)) (b, (0 + length (spell b), y)) (sym p ∙ r ∙ q) in
    (ap (λ (t : A × Lines). t.0) s, ap (λ (t : A × Lines). t.1.1) s)

-- how the values of C are made of those of A and B
pub record Joins {A B C : Type 0} (join : A → B → C) (spellA : A → List Line) (FitsA : A → Type 0) (spellB : A → B → List Line) (FitsB : A → B → Type 0) (spellC : C → List Line) (FitsC : C → Type 0) : Type 0 where
  pub parts : (c : C) → FitsC c → (a : A) × (b : B) × FitsA a × FitsB a b × (c ≡ join a b)
  pub fits : (a : A) (b : B) → FitsA a → FitsB a b → FitsC (join a b)
  pub spells : (a : A) (b : B) → FitsA a → FitsB a b → spellC (join a b) ≡ spellA a ++ spellB a b

pub exact_both : {A B C : Type 0} (join : A → B → C) (spellA : A → List Line) (FitsA : A → Type 0) (f : Read A) (spellB : A → B → List Line) (FitsB : A → B → Type 0) (g : A → Read B) (spellC : C → List Line) (FitsC : C → Type 0)
    → Joins join spellA FitsA spellB FitsB spellC FitsC → Exact spellA FitsA f → ((a : A) → FitsA a → Exact (spellB a) (FitsB a) (g a)) → Exact spellC FitsC (both join f g)
unfolding both
exact_both {A = A} {B = B} {C = C} join spellA FitsA f spellB FitsB g spellC FitsC joins first second = record { took = took; again = again; stops = stops; clean = clean }
  where
    clean : (c : C) → FitsC c → AreLines (spellC c)
    clean c fits =
        let p = joins.parts c fits in
        let text : spellC c ≡ spellA p.0 ++ spellB p.0 p.1 = ap spellC p.4 ∙ joins.spells p.0 p.1 p.2 p.3 in
        subst (λ (ls : List Line). AreLines ls) (sym text) (are_lines-append (spellA p.0) (spellB p.0 p.1) (first.clean p.0 p.2) ((second p.0 p.2).clean p.1 p.3))

    took : (n : ℕ) (ls : List Line) (c : C) (m : ℕ) (rest : List Line) → both join f g (n, ls) ≡ Ok (c, (m, rest)) → Took spellC FitsC n ls c m rest
    took n ls c m rest e =
        let x = bind_ok (f (n, ls)) (λ x. g x.0 x.1 >>= λ y. Ok (join x.0 y.0, y.1)) (c, (m, rest)) e in
        let y = bind_ok (g x.0.0 x.0.1) (λ y. Ok (join x.0.0 y.0, y.1)) (c, (m, rest)) x.2 in
        let one = first.took n ls x.0.0 x.0.1.0 x.0.1.1 x.1 in
        let two = (second x.0.0 one.fits).took x.0.1.0 x.0.1.1 y.0.0 y.0.1.0 y.0.1.1 y.1 in
        let made : C × Lines = (join x.0.0 y.0.0, y.0.1) in
        let whole : Took spellC FitsC n ls (join x.0.0 y.0.0) y.0.1.0 y.0.1.1 = record {
          parts = one.parts ∙ ap (λ (t : List Line). spellA x.0.0 ++ t) two.parts ∙ sym (append_assoc (spellA x.0.0) (spellB x.0.0 y.0.0) y.0.1.1) ∙ ap (λ (t : List Line). t ++ y.0.1.1) (sym (joins.spells x.0.0 y.0.0 one.fits two.fits));
          number = rw (joins.spells x.0.0 y.0.0 one.fits two.fits) (omega (arith, length-append (spellA x.0.0) (spellB x.0.0 y.0.0), one.number, two.number));
          fits = joins.fits x.0.0 y.0.0 one.fits two.fits;
        } in
        subst (λ (z : C × Lines). Took spellC FitsC n ls z.0 z.1.0 z.1.1) (ok_is made (c, (m, rest)) y.2) whole

    again_made : (a : A) (b : B) (n : ℕ) (rest : List Line) → FitsA a → FitsB a b → both join f g (n, spellC (join a b) ++ rest) ≡ Ok (join a b, (n + length (spellC (join a b)), rest))
    again_made a b n rest fa fb =
        let text : spellC (join a b) ≡ spellA a ++ spellB a b = joins.spells a b fa fb in
        let regrouped : spellC (join a b) ++ rest ≡ spellA a ++ (spellB a b ++ rest) = ap (λ (t : List Line). t ++ rest) text ∙ append_assoc (spellA a) (spellB a b) rest in
        let number : n + length (spellA a) + length (spellB a b) ≡ n + length (spellC (join a b)) = omega (arith, length-append (spellA a) (spellB a b)) ∙ sym (ap (λ (t : List Line). n + length t) text) in
        ap (λ (t : List Line). both join f g (n, t)) regrouped
        ∙ rw (first.again a n (spellB a b ++ rest) fa, (second a fa).again b (n + length (spellA a)) rest fb) (rw number refl)

    again : (c : C) (n : ℕ) (rest : List Line) → FitsC c → both join f g (n, spellC c ++ rest) ≡ Ok (c, (n + length (spellC c), rest))
    again c n rest fits =
        let p = joins.parts c fits in
        subst (λ (c : C). both join f g (n, spellC c ++ rest) ≡ Ok (c, (n + length (spellC c), rest))) (sym p.4) (again_made p.0 p.1 n rest p.2 p.3)

    stops : (n : ℕ) (ls : List Line) (k : ℕ) → both join f g (n, ls) ≡ Err k → Stops spellC FitsC n ls k
    stops n ls k e =
        elim (bind_err (f (n, ls)) (λ x. g x.0 x.1 >>= λ y. Ok (join x.0 y.0, y.1)) k e) [
          | inl h ↦ in_first n ls k h
          | inr h ↦ elim (bind_err (g h.0.0 h.0.1) (λ y. Ok (join h.0.0 y.0, y.1)) k h.2) [
            | inl i ↦ in_second n ls k h.0.0 h.0.1.0 h.0.1.1 (first.took n ls h.0.0 h.0.1.0 h.0.1.1 h.1) i
            | inr i ↦ absurd cc
          ]
        ]
      where
        in_first : (n : ℕ) (ls : List Line) (k : ℕ) → f (n, ls) ≡ Err k → Stops spellC FitsC n ls k
        in_first n ls k h =
            let s = first.stops n ls k h in
            let a = s.goes.0 in
            let b = some_of (spellB a) (FitsB a) (g a) (second a s.goes.1) in
            record {
              front = s.front;
              rest = s.rest;
              cut = s.cut;
              count = s.count;
              goes = (join a b.0, joins.fits a b.0 s.goes.1 b.1, s.goes.2 ++ spellB a b.0, joins.spells a b.0 s.goes.1 b.1 ∙ ap (λ (t : List Line). t ++ spellB a b.0) s.goes.3 ∙ append_assoc s.front s.goes.2 (spellB a b.0));
              ends = λ longer others more c cut fits spells.
                  let p = joins.parts c fits in
                  let e : spellA p.0 ++ spellB p.0 p.1 ≡ longer ++ more = sym (joins.spells p.0 p.1 p.2 p.3) ∙ ap spellC (sym p.4) ∙ spells in
                  elim (two_cuts (spellA p.0) (spellB p.0 p.1) longer more e) [
                    | inl q ↦
                        let whole : ls ≡ spellA p.0 ++ (q.0 ++ others) = cut ∙ ap (λ (t : List Line). t ++ others) q.1 ∙ append_assoc (spellA p.0) q.0 others in
                        let ok = first.again p.0 n (q.0 ++ others) p.2 in
                        let bad : f (n, ls) ≡ Ok (p.0, (n + length (spellA p.0), q.0 ++ others)) = ap (λ (t : List Line). f (n, t)) whole ∙ ok in
                        absurd cc
                    | inr q ↦ s.ends longer others q.0 p.0 cut p.2 q.1
                  ];
            }

        in_second : (n : ℕ) (ls : List Line) (k : ℕ) (a0 : A) (m : ℕ) (rest : List Line) → Took spellA FitsA n ls a0 m rest → g a0 (m, rest) ≡ Err k → Stops spellC FitsC n ls k
        in_second n ls k a0 m rest one h =
            let s = (second a0 one.fits).stops m rest k h in
            record {
              front = spellA a0 ++ s.front;
              rest = s.rest;
              cut = one.parts ∙ ap (λ (t : List Line). spellA a0 ++ t) s.cut ∙ sym (append_assoc (spellA a0) s.front s.rest);
              count = omega (arith, length-append (spellA a0) s.front, one.number, s.count);
              goes = (join a0 s.goes.0, joins.fits a0 s.goes.0 one.fits s.goes.1, s.goes.2, joins.spells a0 s.goes.0 one.fits s.goes.1 ∙ ap (λ (t : List Line). spellA a0 ++ t) s.goes.3 ∙ sym (append_assoc (spellA a0) s.front s.goes.2));
              ends = λ longer others more c cut fits spells.
                  let p = joins.parts c fits in
                  let e : spellA p.0 ++ spellB p.0 p.1 ≡ longer ++ more = sym (joins.spells p.0 p.1 p.2 p.3) ∙ ap spellC (sym p.4) ∙ spells in
                  elim (two_cuts (spellA p.0) (spellB p.0 p.1) longer more e) [
                    | inl q ↦
                        let whole : spellA p.0 ++ (q.0 ++ others) ≡ spellA a0 ++ rest = sym (append_assoc (spellA p.0) q.0 others) ∙ ap (λ (t : List Line). t ++ others) (sym q.1) ∙ sym cut ∙ one.parts in
                        let same = one_spelling spellA FitsA f first p.0 a0 (q.0 ++ others) rest p.2 one.fits whole in
                        let moved = subst (λ (a : A). FitsB a p.1 × (spellB a p.1 ≡ q.0 ++ more)) same.0 (p.3, q.2) in
                        let le = s.ends q.0 others more p.1 (sym same.1) moved.0 moved.1 in
                        let shift : spellA a0 ≡ spellA p.0 = ap spellA (sym same.0) in
                        let len : length longer ≡ length (spellA a0) + length q.0 = ap length q.1 ∙ length-append (spellA p.0) q.0 ∙ ap (λ (t : List Line). length t + length q.0) (sym shift) in
                        omega (arith, le, len, one.number)
                    | inr q ↦ elim (two_cuts (spellA a0) rest longer others (sym one.parts ∙ cut)) [
                      | inl z ↦
                          let longest : spellA p.0 ++ [] ≡ spellA a0 ++ (z.0 ++ q.0) = append-nil (spellA p.0) ∙ q.1 ∙ ap (λ (t : List Line). t ++ q.0) z.1 ∙ append_assoc (spellA a0) z.0 q.0 in
                          let same = one_spelling spellA FitsA f first p.0 a0 [] (z.0 ++ q.0) p.2 one.fits longest in
                          let none : length z.0 ≡ 0 = omega (arith, ap length same.1, length-append z.0 q.0) in
                          let len : length longer ≡ length (spellA a0) + length z.0 = ap length z.1 ∙ length-append (spellA a0) z.0 in
                          omega (arith, none, len, one.number, s.count)
                      | inr z ↦ omega (arith, ap length z.1, length-append longer z.0, one.number, s.count)
                    ]
                  ];
            }

pair_joins : {A B : Type 0} (spellA : A → List Line) (FitsA : A → Type 0) (spellB : A → B → List Line) (FitsB : A → B → Type 0) → Joins pair spellA FitsA spellB FitsB (λ (p : A × B). spellA p.0 ++ spellB p.0 p.1) (λ (p : A × B). FitsA p.0 × FitsB p.0 p.1)
pair_joins spellA FitsA spellB FitsB = record { parts = λ c fits. (c.0, c.1, fits.0, fits.1, refl); fits = λ a b fa fb. (fa, fb); spells = λ a b fa fb. refl }

-- one part behind another, as a pair
pub exact_pair : {A B : Type 0} (spellA : A → List Line) (FitsA : A → Type 0) (f : Read A) (spellB : A → B → List Line) (FitsB : A → B → Type 0) (g : A → Read B)
    → Exact spellA FitsA f → ((a : A) → FitsA a → Exact (spellB a) (FitsB a) (g a)) → Exact (λ (p : A × B). spellA p.0 ++ spellB p.0 p.1) (λ (p : A × B). FitsA p.0 × FitsB p.0 p.1) (both pair f g)
exact_pair {A = A} {B = B} spellA FitsA f spellB FitsB g first second = exact_both pair spellA FitsA f spellB FitsB g (λ (p : A × B). spellA p.0 ++ spellB p.0 p.1) (λ (p : A × B). FitsA p.0 × FitsB p.0 p.1) (pair_joins spellA FitsA spellB FitsB) first second

-- ---- a whole text, behind which nothing follows

pub record ExactWhole {A : Type 0} (spell : A → List Line) (Fits : A → Type 0) (f : Lines → Result A ℕ) : Type 0 where
  pub found : (n : ℕ) (ls : List Line) (a : A) → f (n, ls) ≡ Ok a → (ls ≡ spell a) × Fits a
  pub again : (a : A) (n : ℕ) → Fits a → f (n, spell a) ≡ Ok a
  pub stops : (n : ℕ) (ls : List Line) (k : ℕ) → f (n, ls) ≡ Err k → Stops spell Fits n ls k
  pub clean : (a : A) → Fits a → AreLines (spell a)

pub exact_whole : {A : Type 0} (spell : A → List Line) (Fits : A → Type 0) (f : Read A) → Exact spell Fits f → ExactWhole spell Fits (λ at. f at >>= only)
exact_whole {A = A} spell Fits f exact = record { found = found; again = again; stops = stops; clean = exact.clean }
  where
    found : (n : ℕ) (ls : List Line) (a : A) → (f (n, ls) >>= only) ≡ Ok a → (ls ≡ spell a) × Fits a
    found n ls a e = let x = bind_ok (f (n, ls)) only a e in by_rest x.0.0 x.0.1.0 x.0.1.1 x.1 x.2
      where
        by_rest : (b : A) (m : ℕ) (rest : List Line) → f (n, ls) ≡ Ok (b, (m, rest)) → only (b, (m, rest)) ≡ Ok a → (ls ≡ spell a) × Fits a
        by_rest b m [] e h =
            let t = exact.took n ls b m [] e in
            let same : b ≡ a = ok_is b a h in
            subst (λ (a : A). (ls ≡ spell a) × Fits a) same (t.parts ∙ append-nil (spell b), t.fits)
        by_rest b m (l ∷ rest) e h = absurd cc

    again : (a : A) (n : ℕ) → Fits a → (f (n, spell a) >>= only) ≡ Ok a
    again a n fits = let e : f (n, spell a) ≡ Ok (a, (n + length (spell a), [])) = ap (λ (t : List Line). f (n, t)) (sym (append-nil (spell a))) ∙ exact.again a n [] fits in rw e refl

    stops : (n : ℕ) (ls : List Line) (k : ℕ) → (f (n, ls) >>= only) ≡ Err k → Stops spell Fits n ls k
    stops n ls k e =
        elim (bind_err (f (n, ls)) only k e) [
          | inl h ↦ exact.stops n ls k h
          | inr h ↦ by_rest h.0.0 h.0.1.0 h.0.1.1 h.1 h.2
        ]
      where
        by_rest : (b : A) (m : ℕ) (rest : List Line) → f (n, ls) ≡ Ok (b, (m, rest)) → only (b, (m, rest)) ≡ Err k → Stops spell Fits n ls k
        by_rest b m [] e h = absurd cc
        by_rest b m (l ∷ rest) e h =
            let t = exact.took n ls b m (l ∷ rest) e in
            let number : m ≡ k = cc in
            record {
              front = spell b;
              rest = l ∷ rest;
              cut = t.parts;
              count = omega (arith, t.number, number);
              goes = (b, t.fits, [], sym (append-nil (spell b)));
              ends = λ longer others more a cut fits spells. elim (two_cuts (spell b) (l ∷ rest) longer others (sym t.parts ∙ cut)) [
                | inl z ↦
                    let longest : spell a ++ [] ≡ spell b ++ (z.0 ++ more) = append-nil (spell a) ∙ spells ∙ ap (λ (t : List Line). t ++ more) z.1 ∙ append_assoc (spell b) z.0 more in
                    let same = one_spelling spell Fits f exact a b [] (z.0 ++ more) fits t.fits longest in
                    let none : length z.0 ≡ 0 = omega (arith, ap length same.1, length-append z.0 more) in
                    omega (arith, none, ap length z.1, length-append (spell b) z.0, t.number, number)
                | inr z ↦ omega (arith, ap length z.1, length-append longer z.0, t.number, number)
              ];
            }
