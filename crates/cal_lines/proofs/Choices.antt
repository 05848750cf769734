-- Exact readers of a choice, and of a part for each of some keys.
use Rattle.std.proofs.Common.{◌≡◌, ℕ, zero, suc, ◌+◌, ◌≤◌, ◌⊎◌, inl, inr, Bool, true, false, cond, List, [], ◌∷◌, ◌++◌, length, Result, Ok, Err, refl, sym, ap, subst, ◌∙◌, append_assoc, arith}
use Rattle.std.specs.List.{flat_map, AllByRecursion}
use Rattle.std.proofs.lemmas.List.{append-nil}
use Rattle.cal_scan.specs.Lines.{Line}
use Rattle.cal_lines.specs.Reading.{Lines, Read, Stops, ◌>>=◌, both, pair}
use Rattle.cal_lines.specs.Choosing.{either, each, nothing, in_front, at_end, until}
use Rattle.cal_lines.proofs.Feeds.{AreLines}
use Rattle.cal_lines.proofs.Algebra.{Exact, Took, exact_both, exact_pair, bind_ok, bind_err, ok_is, some_of}

-- a spelling for each key
abbrev pub each_lines : {K A : Type 0} → (K → A → List Line) → List K → List A → List Line
each_lines spell [] vs = []
each_lines spell (k ∷ ks) [] = []
each_lines spell (k ∷ ks) (v ∷ vs) = spell k v ++ each_lines spell ks vs

abbrev pub EachFits : {K A : Type 0} → (K → A → Type 0) → List K → List A → Type 0
EachFits Fits [] [] = Unit {0}
EachFits Fits [] (v ∷ vs) = ⊥
EachFits Fits (k ∷ ks) [] = ⊥
EachFits Fits (k ∷ ks) (v ∷ vs) = Fits k v × EachFits Fits ks vs

pub exact_each : {K A : Type 0} (spell : K → A → List Line) (Fits : K → A → Type 0) (f : K → Read A) → ((k : K) → Exact (spell k) (Fits k) (f k)) → (ks : List K) → Exact (each_lines spell ks) (EachFits Fits ks) (each f ks)
unfolding each
exact_each {A = A} spell Fits f exact [] = record {
  took = λ n ls vs m rest e. let made : List A × Lines = ([], (n, ls)) in subst (λ (z : List A × Lines). Took (each_lines spell []) (EachFits Fits []) n ls z.0 z.1.0 z.1.1) (ok_is made (vs, (m, rest)) e) (record { parts = refl; number = omega arith; fits = tt });
  again = λ vs n rest fits. none vs n rest fits;
  stops = λ n ls k e. absurd cc;
  clean = λ vs fits. clean vs fits;
}
  where
    clean : (vs : List A) → EachFits Fits [] vs → AreLines (each_lines spell [] vs)
    clean [] fits = tt
    clean (v ∷ vs) fits = absurd fits

    none : (vs : List A) (n : ℕ) (rest : List Line) → EachFits Fits [] vs → each f [] (n, each_lines spell [] vs ++ rest) ≡ Ok (vs, (n + length (each_lines spell [] vs), rest))
    none [] n rest fits = let e : n ≡ n + 0 = omega arith in ap (λ (k : ℕ). Ok ([], (k, rest))) e
    none (v ∷ vs) n rest fits = absurd fits
exact_each {K = K} {A = A} spell Fits f exact (k ∷ ks) =
    exact_both (λ v vs. v ∷ vs) (spell k) (Fits k) (f k) (λ v. each_lines spell ks) (λ v. EachFits Fits ks) (λ v. each f ks) (each_lines spell (k ∷ ks)) (EachFits Fits (k ∷ ks))
    (record { parts = λ vs fits. cut vs fits; fits = λ v vs fv fvs. (fv, fvs); spells = λ v vs fv fvs. refl })
    (exact k) (λ v fits. exact_each spell Fits f exact ks)
  where
    cut : (vs : List A) → EachFits Fits (k ∷ ks) vs → (a : A) × (b : List A) × Fits k a × EachFits Fits ks b × (vs ≡ a ∷ b)
    cut [] fits = absurd fits
    cut (v ∷ vs) fits = (v, vs, fits.0, fits.1, refl)

-- every spelling begins with a line at which the test answers so
abbrev pub Begins : {A : Type 0} → (A → List Line) → (A → Type 0) → (Line → Bool) → Bool → Type 0
Begins {A = A} spell Fits test answer = (a : A) → Fits a → (l : Line) × (more : List Line) × (spell a ≡ l ∷ more) × (test l ≡ answer)

abbrev pub either_lines : {A B : Type 0} → (A → List Line) → (B → List Line) → A ⊎ B → List Line
either_lines spell spellB (inl a) = spell a
either_lines spell spellB (inr b) = spellB b

abbrev pub EitherFits : {A B : Type 0} → (A → Type 0) → (B → Type 0) → A ⊎ B → Type 0
EitherFits Fits FitsB (inl a) = Fits a
EitherFits Fits FitsB (inr b) = FitsB b

pub exact_either : {A B : Type 0} (test : Line → Bool) (spell : A → List Line) (Fits : A → Type 0) (f : Read A) (spellB : B → List Line) (FitsB : B → Type 0) (g : Read B)
    → Exact spell Fits f → Exact spellB FitsB g → Begins spell Fits test true → Begins spellB FitsB test false → Exact (either_lines spell spellB) (EitherFits Fits FitsB) (either test f g)
unfolding either
exact_either {A = A} {B = B} test spell Fits f spellB FitsB g first second is_first is_second = record { took = took; again = again; stops = stops; clean = clean }
  where
    clean : (v : A ⊎ B) → EitherFits Fits FitsB v → AreLines (either_lines spell spellB v)
    clean (inl a) fits = first.clean a fits
    clean (inr b) fits = second.clean b fits

    made : (A ⊎ B) × Lines → Result ((A ⊎ B) × Lines) ℕ
    made x = Ok x

    left : A × Lines → Result ((A ⊎ B) × Lines) ℕ
    left x = Ok (inl x.0, x.1)

    right : B × Lines → Result ((A ⊎ B) × Lines) ℕ
    right x = Ok (inr x.0, x.1)

    Spell : A ⊎ B → List Line
    Spell v = either_lines spell spellB v

    Both : A ⊎ B → Type 0
    Both v = EitherFits Fits FitsB v

    took : (n : ℕ) (ls : List Line) (v : A ⊎ B) (m : ℕ) (rest : List Line) → either test f g (n, ls) ≡ Ok (v, (m, rest)) → Took (either_lines spell spellB) (EitherFits Fits FitsB) n ls v m rest
    took n [] v m rest e = absurd cc
    took n (l ∷ ls) v m rest e = by_test (test l) e
      where
        by_test : (t : Bool) → cond t (f (n, l ∷ ls) >>= left) (g (n, l ∷ ls) >>= right) ≡ Ok (v, (m, rest)) → Took (either_lines spell spellB) (EitherFits Fits FitsB) n (l ∷ ls) v m rest
        by_test true e =
            let x = bind_ok (f (n, l ∷ ls)) left (v, (m, rest)) e in
            let t = first.took n (l ∷ ls) x.0.0 x.0.1.0 x.0.1.1 x.1 in
            subst (λ (z : (A ⊎ B) × Lines). Took (either_lines spell spellB) (EitherFits Fits FitsB) n (l ∷ ls) z.0 z.1.0 z.1.1) (ok_is (inl x.0.0, x.0.1) (v, (m, rest)) x.2) (record { parts = t.parts; number = t.number; fits = t.fits })
        by_test false e =
            let x = bind_ok (g (n, l ∷ ls)) right (v, (m, rest)) e in
            let t = second.took n (l ∷ ls) x.0.0 x.0.1.0 x.0.1.1 x.1 in
            subst (λ (z : (A ⊎ B) × Lines). Took (either_lines spell spellB) (EitherFits Fits FitsB) n (l ∷ ls) z.0 z.1.0 z.1.1) (ok_is (inr x.0.0, x.0.1) (v, (m, rest)) x.2) (record { parts = t.parts; number = t.number; fits = t.fits })

    open_at : (n : ℕ) (l : Line) (ls : List Line) (t : Bool) → test l ≡ t → either test f g (n, l ∷ ls) ≡ cond t (f (n, l ∷ ls) >>= left) (g (n, l ∷ ls) >>= right)
    open_at n l ls t e = ap (λ (b : Bool). cond b (f (n, l ∷ ls) >>= left) (g (n, l ∷ ls) >>= right)) e

    again : (v : A ⊎ B) (n : ℕ) (rest : List Line) → EitherFits Fits FitsB v → either test f g (n, either_lines spell spellB v ++ rest) ≡ Ok (v, (n + length (either_lines spell spellB v), rest))
    again (inl a) n rest fits =
        let b = is_first a fits in
        let e : spell a ++ rest ≡ b.0 ∷ (b.1 ++ rest) = ap (λ (t : List Line). t ++ rest) b.2 in
        let ok : f (n, b.0 ∷ (b.1 ++ rest)) ≡ Ok (a, (n + length (spell a), rest)) = ap (λ (t : List Line). f (n, t)) (sym e) ∙ first.again a n rest fits in
        ap (λ (t : List Line). either test f g (n, t)) e ∙ open_at n b.0 (b.1 ++ rest) true b.3 ∙ ap (λ (r : Result (A × Lines) ℕ). r >>= left) ok
    again (inr a) n rest fits =
        let b = is_second a fits in
        let e : spellB a ++ rest ≡ b.0 ∷ (b.1 ++ rest) = ap (λ (t : List Line). t ++ rest) b.2 in
        let ok : g (n, b.0 ∷ (b.1 ++ rest)) ≡ Ok (a, (n + length (spellB a), rest)) = ap (λ (t : List Line). g (n, t)) (sym e) ∙ second.again a n rest fits in
        ap (λ (t : List Line). either test f g (n, t)) e ∙ open_at n b.0 (b.1 ++ rest) false b.3 ∙ ap (λ (r : Result (B × Lines) ℕ). r >>= right) ok

    stops : (n : ℕ) (ls : List Line) (k : ℕ) → either test f g (n, ls) ≡ Err k → Stops (either_lines spell spellB) (EitherFits Fits FitsB) n ls k
    stops n [] k e =
        let a = some_of spell Fits f first in
        let same : n ≡ k = cc in
        record {
          front = [];
          rest = [];
          cut = refl;
          count = omega (arith, same);
          goes = (inl a.0, a.1, spell a.0, refl);
          ends = λ longer others more v cut fits spells. few longer others cut same;
        }
      where
        few : (longer others : List Line) → [] ≡ longer ++ others → n ≡ k → n + length longer ≤ k
        few [] others cut same = omega (arith, same)
        few (x ∷ longer) others cut same = absurd cc
    stops n (l ∷ ls) k e = by_test (test l) refl e
      where
        other : (longer others more : List Line) (s : List Line) (x : Line) (xs : List Line) (t u : Bool) → l ∷ ls ≡ longer ++ others → s ≡ longer ++ more → s ≡ x ∷ xs → test x ≡ t → test l ≡ u → (t ≡ u → ⊥) → n ≤ k → n + length longer ≤ k
        other [] others more s x xs t u cut spells starts ex el apart le = omega (arith, le)
        other (y ∷ longer) others more s x xs t u cut spells starts ex el apart le =
            let same : l ≡ x = cc in
            absurd (apart (sym ex ∙ ap test (sym same) ∙ el))

        by_test : (t : Bool) → test l ≡ t → cond t (f (n, l ∷ ls) >>= left) (g (n, l ∷ ls) >>= right) ≡ Err k → Stops (either_lines spell spellB) (EitherFits Fits FitsB) n (l ∷ ls) k
        by_test true is e =
            elim (bind_err (f (n, l ∷ ls)) left k e) [
              | inl h ↦
                  let s = first.stops n (l ∷ ls) k h in
                  record {
                    front = s.front;
                    rest = s.rest;
                    cut = s.cut;
                    count = s.count;
                    goes = (inl s.goes.0, s.goes.1, s.goes.2, s.goes.3);
                    ends = λ longer others more v cut fits spells. from_left longer others more v s cut fits spells;
                  }
              | inr h ↦ absurd cc
            ]
          where
            from_left : (longer others more : List Line) (v : A ⊎ B) → Stops spell Fits n (l ∷ ls) k → l ∷ ls ≡ longer ++ others → EitherFits Fits FitsB v → either_lines spell spellB v ≡ longer ++ more → n + length longer ≤ k
            from_left longer others more (inl a) s cut fits spells = s.ends longer others more a cut fits spells
            from_left longer others more (inr b) s cut fits spells = let p = is_second b fits in other longer others more (spellB b) p.0 p.1 false true cut spells p.2 p.3 is (λ h. absurd cc) (omega (arith, s.count))
        by_test false is e =
            elim (bind_err (g (n, l ∷ ls)) right k e) [
              | inl h ↦
                  let s = second.stops n (l ∷ ls) k h in
                  record {
                    front = s.front;
                    rest = s.rest;
                    cut = s.cut;
                    count = s.count;
                    goes = (inr s.goes.0, s.goes.1, s.goes.2, s.goes.3);
                    ends = λ longer others more v cut fits spells. from_right longer others more v s cut fits spells;
                  }
              | inr h ↦ absurd cc
            ]
          where
            from_right : (longer others more : List Line) (v : A ⊎ B) → Stops spellB FitsB n (l ∷ ls) k → l ∷ ls ≡ longer ++ others → EitherFits Fits FitsB v → either_lines spell spellB v ≡ longer ++ more → n + length longer ≤ k
            from_right longer others more (inr b) s cut fits spells = s.ends longer others more b cut fits spells
            from_right longer others more (inl a) s cut fits spells = let p = is_first a fits in other longer others more (spell a) p.0 p.1 true false cut spells p.2 p.3 is (λ h. absurd cc) (omega (arith, s.count))

abbrev pub AnyUnit : Unit {0} → Type 0
AnyUnit u = Unit {0}

abbrev pub no_lines : Unit {0} → List Line
no_lines u = []

pub exact_nothing : Exact no_lines AnyUnit nothing
unfolding nothing
exact_nothing = record {
  took = λ n ls u m rest e. let made : Unit {0} × Lines = (tt, (n, ls)) in subst (λ (z : Unit {0} × Lines). Took no_lines AnyUnit n ls z.0 z.1.0 z.1.1) (ok_is made (u, (m, rest)) e) (record { parts = refl; number = omega arith; fits = tt });
  again = λ u n rest fits. let e : n ≡ n + 0 = omega arith in ap (λ (k : ℕ). Ok (u, (k, rest))) e;
  stops = λ n ls k e. absurd cc;
  clean = λ u fits. tt;
}

-- ---- parts until an end

abbrev pub until_lines : {A B : Type 0} → (A → List Line) → (B → List Line) → List A × B → List Line
until_lines spell spellB p = flat_map spell p.0 ++ spellB p.1

abbrev pub UntilFits : {A B : Type 0} → (A → Type 0) → (B → Type 0) → ℕ → List A × B → Type 0
UntilFits Fits FitsB k p = (length p.0 ≤ k) × AllByRecursion Fits p.0 × FitsB p.1

pub exact_until : {A B : Type 0} (test : Line → Bool) (spell : A → List Line) (Fits : A → Type 0) (f : Read A) (spellB : B → List Line) (FitsB : B → Type 0) (g : Read B)
    → Exact spell Fits f → Exact spellB FitsB g → Begins spell Fits test true → Begins spellB FitsB test false → (k : ℕ) → Exact (until_lines spell spellB) (UntilFits Fits FitsB k) (until test f g k)
unfolding until
exact_until {A = A} {B = B} test spell Fits f spellB FitsB g first second is_first is_second zero =
    exact_both at_end spellB FitsB g (λ b. no_lines) (λ b. AnyUnit) (λ b. nothing) (until_lines spell spellB) (UntilFits Fits FitsB 0)
    (record { parts = λ p fits. cut p fits; fits = λ b u fb fu. (omega arith, tt, fb); spells = λ b u fb fu. sym (append-nil (spellB b)) }) second (λ b fits. exact_nothing)
  where
    cut : (p : List A × B) → UntilFits Fits FitsB 0 p → (b : B) × (u : Unit {0}) × FitsB b × AnyUnit u × (p ≡ at_end b u)
    cut ([], b) fits = (b, tt, fits.2, tt, refl)
    cut (a ∷ vs, b) fits = absurd (omega (arith, fits.0))
exact_until {A = A} {B = B} test spell Fits f spellB FitsB g first second is_first is_second (suc k) =
    exact_both in_front (either_lines more_lines spellB) (EitherFits MoreFits FitsB) (either test (both pair f (λ a. until test f g k)) g) (λ x. no_lines) (λ x. AnyUnit) (λ x. nothing) (until_lines spell spellB) (UntilFits Fits FitsB (suc k))
    (record { parts = λ p fits. cut p fits; fits = λ x u fx fu. joined x fx; spells = λ x u fx fu. spelled_so x })
    (exact_either test more_lines MoreFits (both pair f (λ a. until test f g k)) spellB FitsB g
    (exact_pair spell Fits f (λ a. until_lines spell spellB) (λ a. UntilFits Fits FitsB k) (λ a. until test f g k) first (λ a fits. exact_until test spell Fits f spellB FitsB g first second is_first is_second k))
    second begins is_second)
    (λ x fits. exact_nothing)
  where
    more_lines : A × (List A × B) → List Line
    more_lines x = spell x.0 ++ until_lines spell spellB x.1

    MoreFits : A × (List A × B) → Type 0
    MoreFits x = Fits x.0 × UntilFits Fits FitsB k x.1

    begins : (x : A × (List A × B)) → MoreFits x → (l : Line) × (more : List Line) × (more_lines x ≡ l ∷ more) × (test l ≡ true)
    begins x fits = let b = is_first x.0 fits.0 in (b.0, b.1 ++ until_lines spell spellB x.1, ap (λ (z : List Line). z ++ until_lines spell spellB x.1) b.2, b.3)

    cut : (p : List A × B) → UntilFits Fits FitsB (suc k) p → (x : (A × (List A × B)) ⊎ B) × (u : Unit {0}) × EitherFits MoreFits FitsB x × AnyUnit u × (p ≡ in_front x u)
    cut ([], b) fits = (inr b, tt, fits.2, tt, refl)
    cut (a ∷ vs, b) fits = (inl (a, (vs, b)), tt, (fits.1.0, (omega (arith, fits.0), fits.1.1, fits.2)), tt, refl)

    joined : (x : (A × (List A × B)) ⊎ B) → EitherFits MoreFits FitsB x → UntilFits Fits FitsB (suc k) (in_front x tt)
    joined (inl x) fits = (omega (arith, fits.1.0), (fits.0, fits.1.1), fits.1.2)
    joined (inr b) fits = (omega arith, tt, fits)

    spelled_so : (x : (A × (List A × B)) ⊎ B) → until_lines spell spellB (in_front x tt) ≡ either_lines more_lines spellB x ++ []
    spelled_so (inl x) = append_assoc (spell x.0) (flat_map spell x.1.0) (spellB x.1.1) ∙ sym (append-nil (more_lines (x.0, x.1)))
    spelled_so (inr b) = sym (append-nil (spellB b))
