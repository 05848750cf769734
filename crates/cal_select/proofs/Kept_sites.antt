-- The sites of a selected phase: how many there are, and of which components.
use Rattle.std.proofs.Common.{◌≡◌, ℕ, suc, ◌+◌, ◌*◌, ◌≤◌, List, [], ◌∷◌, length, map, sum, Bool, true, false, cond, Option, Some, None, refl, sym, ◌∙◌, arith, subst}
use Rattle.std.specs.Prelude.{filter, ◌||◌}
use Rattle.std.specs.List.{AllByRecursion, Any, list_any, list_all}
use Rattle.std.proofs.lemmas.List.{length-map}
use Rattle.std.proofs.lemmas.List.Sums.{sum_by-cons}
use Rattle.cal_scan.specs.Names.{same_name}
use Rattle.cef_core.specs.Shapes.{shape, places}
use Rattle.cef_core.specs.Systems.{IsAmong, IsOccupied, HasComponent}
use Rattle.cef_core.specs.Phases.{IsComponent}
use Rattle.tdb_read.specs.Sound.{AreConstituents}
use Rattle.cal_select.specs.Chosen.{Word, is_in, is_kept, is_vacancy, kept_of, all_kept_of, component_of, sites_at}
use Rattle.cal_select.proofs.Everywhere.{all-in, left_true, right_true, some_kept}
use Rattle.cal_select.proofs.Few.{few_kept}
use Rattle.cal_select.proofs.Name_places.{position-within, place}

-- a vacancy, or one of the components
pub component_among : (components : List Word) (name : Word) → IsAmong (length components) (component_of components name)
component_among components name = by_option (component_of components name) refl
  where
    by_option : (o : Option ℕ) → component_of components name ≡ o → IsAmong (length components) o
    by_option None e = tt
    by_option (Some i) e = position-within (λ other. same_name other name) components i e

-- ---- sites

pub sites_present : (components : List Word) (sites : List (List Word)) → list_all (list_any (is_kept components)) sites ≡ true → AllByRecursion (λ names. 1 ≤ length names) (sites_at components (all_kept_of components sites))
sites_present components [] all = tt
sites_present components (names ∷ sites) all =
    let here : list_any (is_kept components) names ≡ true = left_true (list_any (is_kept components) names) (list_all (list_any (is_kept components)) sites) all in
    let there : list_all (list_any (is_kept components)) sites ≡ true = right_true (list_any (is_kept components) names) (list_all (list_any (is_kept components)) sites) all in
    (omega (arith, length-map (filter (is_kept components) names) (component_of components), some_kept (is_kept components) names here), sites_present components sites there)

pub sum-cons : (x : ℕ) (xs : List ℕ) → sum (x ∷ xs) ≡ x + sum xs
sum-cons x xs = sum_by-cons (λ n. n) x xs

one_more : (a b m n : ℕ) → a ≤ m → b ≤ n * m → a + b ≤ suc n * m
one_more a b m n here there = grind arith

pub sites_few : (components : List Word) (sites : List (List Word)) → AllByRecursion AreConstituents sites → places (sites_at components (all_kept_of components sites)) ≤ length sites * (length components + 1)
sites_few components [] all = omega arith
sites_few components (names ∷ sites) all =
    let row : length (map (component_of components) (kept_of components names)) ≤ length components + 1 =
    omega (arith, length-map (filter (is_kept components) names) (component_of components), few_kept components names all.0.distinct) in
    rw (sum-cons (length (map (component_of components) (kept_of components names))) (shape (sites_at components (all_kept_of components sites))))
    (one_more (length (map (component_of components) (kept_of components names))) (places (sites_at components (all_kept_of components sites))) (length components + 1) (length sites) row (sites_few components sites all.1))

pub sites_length : (components : List Word) (sites : List (List Word)) → length (sites_at components (all_kept_of components sites)) ≡ length sites
sites_length components sites = length-map (all_kept_of components sites) (map (component_of components)) ∙ length-map sites (kept_of components)

row_among : (components names : List Word) → AllByRecursion (IsAmong (length components)) (map (component_of components) names)
row_among components [] = tt
row_among components (name ∷ names) = (component_among components name, row_among components names)

pub sites_among : (components : List Word) (kept : List (List Word)) → AllByRecursion (AllByRecursion (IsAmong (length components))) (sites_at components kept)
sites_among components [] = tt
sites_among components (names ∷ kept) = (row_among components names, sites_among components kept)

among_below : (n : ℕ) → n ≤ 8 → (o : Option ℕ) → IsAmong n o → IsComponent o
among_below n le None is = tt
among_below n le (Some c) is = omega (arith, le, is)

pub sites_components : (components : List Word) (kept : List (List Word)) → length components ≤ 8 → AllByRecursion (AllByRecursion IsComponent) (sites_at components kept)
sites_components components kept le =
    all-in (AllByRecursion (IsAmong (length components))) (AllByRecursion IsComponent)
    (λ row all. all-in (IsAmong (length components)) IsComponent (λ o is. among_below (length components) le o is) row all) (sites_at components kept) (sites_among components kept)

-- ---- some site is of a component

any_here : {A : Type 0} (P : A → Type 0) (x : A) (xs : List A) → P x → Any P (x ∷ xs)
any_here P x xs is = (0, x, omega arith, refl, is)

any_later : {A : Type 0} (P : A → Type 0) (x : A) (xs : List A) → Any P xs → Any P (x ∷ xs)
any_later P x xs has = (suc has.0, has.1, omega (arith, has.2), has.3, has.4)

occupied : (components : List Word) (name : Word) → is_in components name ≡ true → IsOccupied (component_of components name)
occupied components name found = subst IsOccupied (sym (place components name found).found) tt

-- what is kept of a sublattice has a component where the sublattice has one
row_occupied : (components names : List Word) → list_any (is_in components) names ≡ true → Any IsOccupied (map (component_of components) (filter (is_kept components) names))
row_occupied components [] found = cc
row_occupied components (x ∷ names) found = by_test (is_in components x) refl (is_vacancy x) found (row_occupied components names)
  where
    by_test : (b : Bool) → is_in components x ≡ b → (v : Bool) → (b || list_any (is_in components) names) ≡ true → (list_any (is_in components) names ≡ true → Any IsOccupied (map (component_of components) (filter (is_kept components) names))) →
        Any IsOccupied (map (component_of components) (cond (v || b) (x ∷ filter (is_kept components) names) (filter (is_kept components) names)))
    by_test true e true found rest = any_here IsOccupied (component_of components x) (map (component_of components) (filter (is_kept components) names)) (occupied components x e)
    by_test true e false found rest = any_here IsOccupied (component_of components x) (map (component_of components) (filter (is_kept components) names)) (occupied components x e)
    by_test false e true found rest = any_later IsOccupied (component_of components x) (map (component_of components) (filter (is_kept components) names)) (rest found)
    by_test false e false found rest = rest found

pub sites_occupied : (components : List Word) (sites : List (List Word)) → list_any (list_any (is_in components)) sites ≡ true → HasComponent (sites_at components (all_kept_of components sites))
sites_occupied components [] found = cc
sites_occupied components (names ∷ sites) found = by_test (list_any (is_in components) names) refl found (sites_occupied components sites)
  where
    row : List (Option ℕ)
    row = map (component_of components) (filter (is_kept components) names)

    others : List (List (Option ℕ))
    others = sites_at components (all_kept_of components sites)

    by_test : (b : Bool) → list_any (is_in components) names ≡ b → (b || list_any (list_any (is_in components)) sites) ≡ true → (list_any (list_any (is_in components)) sites ≡ true → Any (Any IsOccupied) others) → Any (Any IsOccupied) (row ∷ others)
    by_test true e found rest = any_here (Any IsOccupied) row others (row_occupied components names e)
    by_test false e found rest = any_later (Any IsOccupied) row others (rest found)
