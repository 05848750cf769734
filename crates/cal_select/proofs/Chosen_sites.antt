-- how few names are kept, and that a selected phase keeps one on each sublattice
use Rattle.std.proofs.Common.{◌≡◌, ◌+◌, ◌≤◌, List, [], ◌∷◌, length, Bool, true, false, cond, refl, ap, sym, ◌∙◌, arith}
use Rattle.std.specs.Prelude.{filter, codes, ◌&&◌}
use Rattle.std.specs.List.{AllByRecursion, IsDistinct}
use Rattle.std.specs.Set.{is_member}
use Rattle.std.proofs.lemmas.Bool.Decides.{Decides-eqb}
use Rattle.std.proofs.lemmas.Slice.Eq.{slice_eq-Decides}
use Rattle.std.proofs.lemmas.Cmp.{nat_list_eq_equiv}
use Rattle.std.proofs.lemmas.Map.Made.{is_member-filter, length-le_from_is_member}
use Rattle.cal_scan.specs.Names.{same_name}
use Rattle.cal_select.specs.Chosen.{Word, is_in, is_kept, kept_of}

pub all-filter : {A : Type 0} (P : A → Type 0) (p : A → Bool) (xs : List A) → AllByRecursion P xs → AllByRecursion P (filter p xs)
all-filter P p [] all = tt
all-filter P p (x ∷ xs) all = by_test (p x) (all-filter P p xs all.1)
  where
    by_test : (b : Bool) → AllByRecursion P (filter p xs) → AllByRecursion P (cond b (x ∷ filter p xs) (filter p xs))
    by_test true rest = (all.0, rest)
    by_test false rest = rest

pub distinct-filter : (p : Word → Bool) (xs : List Word) → IsDistinct same_name xs → IsDistinct same_name (filter p xs)
unfolding IsDistinct
distinct-filter p [] distinct = tt
distinct-filter p (x ∷ xs) distinct = by_test (p x) (distinct-filter p xs distinct.1)
  where
    by_test : (b : Bool) → IsDistinct same_name (filter p xs) → IsDistinct same_name (cond b (x ∷ filter p xs) (filter p xs))
    by_test true rest = (all-filter (λ y. same_name x y ≡ false) p xs distinct.0, rest)
    by_test false rest = rest

right_of : (a b : Bool) → (a && b) ≡ true → b ≡ true
right_of true b both = both
right_of false b both = cc

-- the kept of distinct names are no more than those that they may be
few : (p : Word → Bool) (names most : List Word) → ((q x : Word) → same_name q x ≡ true → p q ≡ p x) → ((q : Word) → p q ≡ true → is_member same_name most q ≡ true) → IsDistinct same_name names → length (filter p names) ≤ length most
few p names most respects member distinct =
    length-le_from_is_member nat_list_eq_equiv (filter p names) most (distinct-filter p names distinct)
    (λ q has. member q (right_of (is_member same_name names q) (p q) (sym (is_member-filter nat_list_eq_equiv p q (respects q) names) ∙ has)))

pub same_is : (a b : Word) → same_name a b ≡ true → a ≡ b
same_is a b same = (slice_eq-Decides Decides-eqb a b (same_name a b) refl).0 same

-- there are no more components than asked elements
pub few_components : (asked elements : List Word) → IsDistinct same_name elements → length (filter (is_in asked) elements) ≤ length asked
few_components asked elements distinct = few (is_in asked) elements asked (λ q x same. ap (is_in asked) (same_is q x same)) (λ q passes. passes) distinct

-- a sublattice keeps at most the components and the vacancy
pub few_kept : (components sublattice : List Word) → IsDistinct same_name sublattice → length (kept_of components sublattice) ≤ length components + 1
few_kept components sublattice distinct =
    omega (arith, few (is_kept components) sublattice (codes "VA" ∷ components) (λ q x same. ap (is_kept components) (same_is q x same)) (λ q passes. passes) distinct)
