-- The parameters of a selected phase have a form of the formalism.
use Rattle.std.proofs.Common.{◌≡◌, ℕ, ◌≤◌, ◌<◌, List, [], ◌∷◌, length, map, Bool, true, false, Option, refl, ap, sym, ◌∙◌, arith, subst}
use Rattle.std.specs.Prelude.{filter, nat_eq, nat_lt, nat_le, ◌==◌, ◌&&◌, ◌||◌}
use Rattle.std.specs.Cmp.{IsEquivalence}
use Rattle.std.specs.Cmp.Lexicographic.{pointwise}
use Rattle.std.proofs.Common.{get_or}
use Rattle.std.specs.List.{AllByRecursion, list_any, list_all, position, position_or_len}
use Rattle.std.specs.Option.{unwrap_or}
use Rattle.std.proofs.lemmas.Bool.Decides.{nat_tests}
use Rattle.std.proofs.lemmas.Cmp.{nat_list_eq_equiv}
use Rattle.std.proofs.lemmas.List.{length-map}
use Rattle.cal_scan.specs.Names.{same_name}
use Rattle.cef_kind.specs.declared.kind.Kind.{Kind}
use Rattle.cef_kind.specs.declared.kind.Kind.TheVariants.{G, Tc, Beta, Unread, Other}
use Rattle.cef_core.specs.Energies.{is_energy, is_curie, is_moment}
use Rattle.cef_core.specs.Parameters.{interacting}
use Rattle.cef_core.specs.Phases.{ArePlaces, AreDistinct, IsOrder}
use Rattle.cal_select.specs.Chosen.{Word, is_in}
use Rattle.cal_select.specs.Parameters.{has_effect, is_other, are_kept, places_of, array_at, has_twice, interactions, may_have_order, is_ternary}
use Rattle.cal_select.proofs.Everywhere.{left_true, right_true, left_false, right_false}
use Rattle.cal_select.proofs.Kept_lists.{filter-map}
use Rattle.cal_select.proofs.Name_places.{IsPlace, place}

-- ---- the kind

pub kind_formed : (magnetic : Bool) (kind : Kind) → has_effect magnetic kind ≡ true → is_other kind ≡ false → (is_energy kind || (is_curie kind || is_moment kind)) ≡ true
kind_formed magnetic G effect other = refl
kind_formed magnetic Tc effect other = refl
kind_formed magnetic Beta effect other = refl
kind_formed magnetic Unread effect other = cc
kind_formed magnetic Other effect other = cc

-- ---- places

place_is : (names : List Word) (name : Word) (i : ℕ) → IsPlace names name i → unwrap_or (position (λ other. same_name other name) names) 0 ≡ i
place_is names name i p = ap (λ (o : Option ℕ). unwrap_or o 0) p.found

row_places : (names list : List Word) → list_all (is_in names) list ≡ true → AllByRecursion (λ p. p < length names) (places_of names list)
row_places names [] all = tt
row_places names (name ∷ list) all = (
  here (place names name (left_true (is_in names name) (list_all (is_in names) list) all)),
  row_places names list (right_true (is_in names name) (list_all (is_in names) list) all),
)
  where
    here : IsPlace names name (position_or_len (λ other. same_name other name) names) → unwrap_or (position (λ other. same_name other name) names) 0 < length names
    here p = subst (λ (i : ℕ). i < length names) (sym (place_is names name (position_or_len (λ other. same_name other name) names) p)) p.within

pub array_places : (kept array : List (List Word)) → length array ≡ length kept → are_kept kept array ≡ true → ArePlaces (map length kept) (array_at kept array)
array_places [] [] e all = tt
array_places [] (list ∷ array) e all = absurd (omega (arith, e))
array_places (names ∷ kept) [] e all = absurd (omega (arith, e))
array_places (names ∷ kept) (list ∷ array) e all = (
  row_places names list (left_true (list_all (is_in names) list) (are_kept kept array) all),
  array_places kept array (omega (arith, e)) (right_true (list_all (is_in names) list) (are_kept kept array) all),
)

-- ---- no place twice

pub own_name : (a : Word) → same_name a a ≡ true
own_name a = let laws : IsEquivalence (pointwise nat_eq) = nat_list_eq_equiv in laws.refl a

apart : (names : List Word) (a b : Word) → is_in names a ≡ true → is_in names b ≡ true → same_name a b ≡ false →
    unwrap_or (position (λ other. same_name other a) names) 0 ≡ unwrap_or (position (λ other. same_name other b) names) 0 → ⊥
apart names a b in_a in_b differ e =
    let i : ℕ = position_or_len (λ other. same_name other a) names in
    let j : ℕ = position_or_len (λ other. same_name other b) names in
    let p = place names a in_a in
    let q = place names b in_b in
    let same : i ≡ j = sym (place_is names a i p) ∙ e ∙ place_is names b j q in
    let both : a ≡ b = sym p.there ∙ ap (λ (n : ℕ). get_or names n []) same ∙ q.there in
    clash (same_name a b) differ (subst (λ (c : Word). same_name a c ≡ true) both (own_name a))
  where
    clash : (t : Bool) → t ≡ false → t ≡ true → ⊥
    clash true e f = cc
    clash false e f = cc

row_apart : (names : List Word) (a : Word) (list : List Word) → is_in names a ≡ true → list_all (is_in names) list ≡ true → is_in list a ≡ false →
    AllByRecursion (λ q. unwrap_or (position (λ other. same_name other a) names) 0 ≡ q → ⊥) (places_of names list)
row_apart names a [] in_a all none = tt
row_apart names a (b ∷ list) in_a all none = (
  apart names a b in_a (left_true (is_in names b) (list_all (is_in names) list) all) (left_false (same_name a b) (is_in list a) none),
  row_apart names a list in_a (right_true (is_in names b) (list_all (is_in names) list) all) (right_false (same_name a b) (is_in list a) none),
)

row_distinct : (names list : List Word) → list_all (is_in names) list ≡ true → has_twice list ≡ false → AreDistinct (places_of names list)
row_distinct names [] all once = tt
row_distinct names (a ∷ list) all once = (
  row_apart names a list (left_true (is_in names a) (list_all (is_in names) list) all) (right_true (is_in names a) (list_all (is_in names) list) all) (left_false (is_in list a) (has_twice list) once),
  row_distinct names list (right_true (is_in names a) (list_all (is_in names) list) all) (right_false (is_in list a) (has_twice list) once),
)

pub array_distinct : (kept array : List (List Word)) → are_kept kept array ≡ true → list_any has_twice array ≡ false → AllByRecursion AreDistinct (array_at kept array)
array_distinct [] array all once = tt
array_distinct (names ∷ kept) [] all once = tt
array_distinct (names ∷ kept) (list ∷ array) all once = (
  row_distinct names list (left_true (list_all (is_in names) list) (are_kept kept array) all) (left_false (has_twice list) (list_any has_twice array) once),
  array_distinct kept array (right_true (list_all (is_in names) list) (are_kept kept array) all) (right_false (has_twice list) (list_any has_twice array) once),
)

-- ---- the order

array_lengths : (kept array : List (List Word)) → length array ≡ length kept → map length (array_at kept array) ≡ map length array
array_lengths [] [] e = refl
array_lengths [] (list ∷ array) e = absurd (omega (arith, e))
array_lengths (names ∷ kept) [] e = absurd (omega (arith, e))
array_lengths (names ∷ kept) (list ∷ array) e =
    rw (array_lengths kept array (omega (arith, e)))
    (ap (λ (n : ℕ). n ∷ map length array) (length-map list (λ name. unwrap_or (position (λ other. same_name other name) names) 0)))

pub interacting_lengths : (kept array : List (List Word)) → length array ≡ length kept → map length (interacting (array_at kept array)) ≡ interactions array
interacting_lengths kept array e =
    sym (filter-map (λ (ks : List ℕ). length ks) (λ n. nat_lt 1 n) (array_at kept array)) ∙ ap (λ (ns : List ℕ). filter (λ n. nat_lt 1 n) ns) (array_lengths kept array e)

not_two : (n : ℕ) (b : Bool) → 3 ≤ n → (n == 2 && b) ≡ true → ⊥
not_two n b h e = grind (arith, nat_tests)

not_two_or_three : (n : ℕ) (b : Bool) → 4 ≤ n → (n == 2 || (n == 3 && b)) ≡ true → ⊥
not_two_or_three n b h e = grind (arith, nat_tests)

is_zero : (v : ℕ) → (v == 0) ≡ true → v ≡ 0
is_zero v e = grind (arith, nat_tests)

is_low : (v : ℕ) → nat_le v 2 ≡ true → v ≤ 2
is_low v e = grind (arith, nat_tests)

pub order_formed : (v : ℕ) (weighted : Bool) (lists : List (List ℕ)) → may_have_order (map length lists) v ≡ true → v ≤ 9 →
    (is_ternary (map length lists) ≡ true → v ≤ 2 → weighted ≡ false → v ≡ 0) → IsOrder v weighted lists
order_formed v weighted [] may le zero_at = is_zero v may
order_formed v weighted ([] ∷ []) may le zero_at = cc
order_formed v weighted ((i ∷ []) ∷ []) may le zero_at = cc
order_formed v weighted ((i ∷ j ∷ []) ∷ []) may le zero_at = le
order_formed v true ((i ∷ j ∷ k ∷ []) ∷ []) may le zero_at = is_low v may
order_formed v false ((i ∷ j ∷ k ∷ []) ∷ []) may le zero_at = zero_at refl (is_low v may) refl
order_formed v weighted ((i ∷ j ∷ k ∷ l ∷ x) ∷ []) may le zero_at = absurd (not_two_or_three (length (i ∷ j ∷ k ∷ l ∷ x)) (nat_le v 2) (omega arith) may)
order_formed v weighted ([] ∷ y ∷ []) may le zero_at = cc
order_formed v weighted ((i ∷ []) ∷ y ∷ []) may le zero_at = cc
order_formed v weighted ((i ∷ j ∷ []) ∷ [] ∷ []) may le zero_at = cc
order_formed v weighted ((i ∷ j ∷ []) ∷ (k ∷ []) ∷ []) may le zero_at = cc
order_formed v weighted ((i ∷ j ∷ []) ∷ (k ∷ l ∷ []) ∷ []) may le zero_at = is_zero v may
order_formed v weighted ((i ∷ j ∷ []) ∷ (k ∷ l ∷ m ∷ y) ∷ []) may le zero_at = absurd (not_two (length (k ∷ l ∷ m ∷ y)) (v == 0) (omega arith) may)
order_formed v weighted ((i ∷ j ∷ k ∷ x) ∷ y ∷ []) may le zero_at = absurd (not_two (length (i ∷ j ∷ k ∷ x)) (length y == 2 && v == 0) (omega arith) may)
order_formed v weighted (x ∷ y ∷ z ∷ lists) may le zero_at = cc
