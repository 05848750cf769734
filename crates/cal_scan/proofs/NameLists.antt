-- Lists of names: just the words that are such names are read.
use Rattle.std.proofs.Common.{◌≡◌, ℕ, ◌<◌, Bool, true, false, cond, eqb, List, [], ◌∷◌, length, Option, Some, None, refl, sym, subst, ◌∙◌, arith}
use Rattle.std.specs.Prelude.{nat_eq, not, IfSome, ◌&&◌, ◌||◌}
use Rattle.std.specs.List.{AllByRecursion, IsDistinct}
use Rattle.std.specs.Cmp.Lexicographic.{pointwise}
use Rattle.std.proofs.lemmas.Bool.{and_parts, and_from, eqb-true, leb-true, le-leb}
use Rattle.std.proofs.lemmas.Bool.Decides.{nat_tests}
use Rattle.cal_scan.specs.Words.{same_word, is_name}
use Rattle.cal_scan.specs.Lines.{Word}
use Rattle.cal_scan.specs.Names.{same_name, are_names, stands_in, is_within, IsWithin, AreNamesWithin, names_of}

-- ---- words

pub same-found : (v w : Word) → same_word v w ≡ true → v ≡ w
unfolding same_word
same-found [] [] e = refl
same-found [] (b ∷ w) e = absurd cc
same-found (a ∷ v) [] e = absurd cc
same-found (a ∷ v) (b ∷ w) e =
    let p = and_parts (nat_eq a b) (pointwise nat_eq v w) e in
    let head : a ≡ b = eqb-true _ _ p.0 in
    let tail : v ≡ w = same-found v w p.1 in
    rw (head, tail) refl

pub same-again : (w : Word) → same_word w w ≡ true
unfolding same_word
same-again [] = refl
same-again (b ∷ w) = and_from (nat_eq b b) (pointwise nat_eq w w) (grind (arith, nat_tests)) (same-again w)

pub cond_found : {A : Type 0} (b : Bool) (o : Option A) (y : A) → cond b o None ≡ Some y → (b ≡ true) × (o ≡ Some y)
cond_found true o y e = (refl, e)
cond_found false o y e = absurd cc

-- ---- names, none of them twice

pub cond_both : (b c d : Bool) → cond b (cond c false d) false ≡ true → (b ≡ true) × (c ≡ false) × (d ≡ true)
cond_both true true d e = absurd cc
cond_both true false d e = (refl, refl, e)
cond_both false c d e = absurd cc

stands_none : (w : Word) (ws : List Word) → stands_in w ws ≡ false → AllByRecursion (λ v. same_name w v ≡ false) ws
unfolding same_word
stands_none w [] e = tt
stands_none w (v ∷ ws) e = let p = or_parts (same_name w v) (stands_in w ws) e in (p.0, stands_none w ws p.1)
  where
    or_parts : (a b : Bool) → (a || b) ≡ false → (a ≡ false) × (b ≡ false)
    or_parts true b e = absurd cc
    or_parts false b e = (refl, e)

none_stands : (w : Word) (ws : List Word) → AllByRecursion (λ v. same_name w v ≡ false) ws → stands_in w ws ≡ false
unfolding same_word
none_stands w [] all = refl
none_stands w (v ∷ ws) all = rw (all.0, none_stands w ws all.1) refl

pub are_names-found : (ws : List Word) → are_names ws ≡ true → AllByRecursion (λ w. is_name w ≡ true) ws × IsDistinct same_name ws
unfolding are_names IsDistinct
are_names-found [] e = (tt, tt)
are_names-found (w ∷ ws) e =
    let p = cond_both (is_name w) (stands_in w ws) (are_names ws) e in
    let r = are_names-found ws p.2 in
    ((p.0, r.0), (stands_none w ws p.1, r.1))

pub are_names-again : (ws : List Word) → AllByRecursion (λ w. is_name w ≡ true) ws → IsDistinct same_name ws → are_names ws ≡ true
unfolding are_names IsDistinct
are_names-again [] fine distinct = refl
are_names-again (w ∷ ws) fine distinct = rw (fine.0, none_stands w ws distinct.0, are_names-again ws fine.1 distinct.1) refl

-- ---- and at most so many

within-found : (most : Option ℕ) (n : ℕ) → is_within most n ≡ true → IsWithin most n
within-found None n e = tt
within-found (Some most) n e = leb-true n most e

within-again : (most : Option ℕ) (n : ℕ) → IsWithin most n → is_within most n ≡ true
within-again None n within = refl
within-again (Some most) n within = le-leb n most within

positive : (n : ℕ) → not (eqb n 0) ≡ true → 0 < n
positive n e = grind (arith, nat_tests)

not_zero : (n : ℕ) → 0 < n → not (eqb n 0) ≡ true
not_zero n h = grind (arith, nat_tests)

pub names_of-found : (most : Option ℕ) (ws names : List Word) → names_of most ws ≡ Some names → AreNamesWithin most names × (ws ≡ names)
unfolding names_of
names_of-found most ws names e =
    let p = cond_found (not (eqb (length ws) 0) && is_within most (length ws)) (cond (are_names ws) (Some ws) None) names e in
    let q = cond_found (are_names ws) (Some ws) names p.1 in
    let r = and_parts (not (eqb (length ws) 0)) (is_within most (length ws)) p.0 in
    let same : ws ≡ names = cc in
    let f = are_names-found ws q.0 in
    (subst (AreNamesWithin most) same (record { present = positive (length ws) r.0; fine = f.0; distinct = f.1 }, within-found most (length ws) r.1), same)

pub names_of-again : (most : Option ℕ) (names : List Word) → AreNamesWithin most names → names_of most names ≡ Some names
unfolding names_of
names_of-again most names fits =
    let good = are_names-again names fits.0.fine fits.0.distinct in
    let size : (not (eqb (length names) 0) && is_within most (length names)) ≡ true = and_from _ _ (not_zero (length names) fits.0.present) (within-again most (length names) fits.1) in
    rw (size, good) refl

pub names_found : (most : Option ℕ) (ws : List Word) (o : Option (List Word)) → o ≡ names_of most ws → IfSome o (λ names. AreNamesWithin most names × (ws ≡ names))
names_found most ws None e = tt
names_found most ws (Some names) e = names_of-found most ws names (sym e)

pub names_all : (most : Option ℕ) (ws : List Word) (o : Option (List Word)) → o ≡ names_of most ws → AreNamesWithin most ws → o ≡ Some ws
names_all most ws o e within = e ∙ names_of-again most ws within
