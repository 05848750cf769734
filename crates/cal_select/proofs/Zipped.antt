-- arrays, list by list
use Rattle.std.proofs.Common.{◌≡◌, ℕ, zero, suc, ◌+◌, List, [], ◌∷◌, ◌++◌, take, drop, Some, refl, ap, sym, ◌∙◌, add-one, slice_get, Bool, true, false}
use Rattle.std.specs.Prelude.{◌&&◌}
use Rattle.std.specs.List.{list_all}
use Rattle.cal_select.specs.Chosen.{Word, is_in}
use Rattle.cal_select.specs.Parameters.{places_of, array_at, are_kept}

on : (kept array : List (List Word)) (i : ℕ) (names list : List Word) → slice_get kept i ≡ Some names → slice_get array i ≡ Some list
    → array_at (take (suc i) kept) (take (suc i) array) ≡ array_at (take i kept) (take i array) ++ places_of names list ∷ []
on [] array i names list is at = cc
on (k ∷ kept) [] i names list is at = cc
on (k ∷ kept) (l ∷ array) zero names list is at = let same : k ≡ names = cc in let equal : l ≡ list = cc in rw (same, equal) refl
on (k ∷ kept) (l ∷ array) (suc i) names list is at = ap (λ (rest : List (List ℕ)). places_of k l ∷ rest) (on kept array i names list is at)

pub array-next : (kept array : List (List Word)) (i : ℕ) (names list : List Word) (old new : List (List ℕ)) → slice_get kept i ≡ Some names → slice_get array i ≡ Some list
    → old ≡ array_at (take i kept) (take i array) → new ≡ old ++ places_of names list ∷ [] → new ≡ array_at (take (i + 1) kept) (take (i + 1) array)
array-next kept array i names list old new is at old_is new_is = new_is ∙ rw (old_is, add-one) (sym (on kept array i names list is at))

opened : (names : List Word) (kept : List (List Word)) (list : List Word) (xs : List (List Word)) (j : ℕ) → slice_get xs j ≡ Some list → are_kept (names ∷ kept) (drop j xs) ≡ (list_all (is_in names) list && are_kept kept (drop (suc j) xs))
opened names kept list [] j at = cc
opened names kept list (x ∷ xs) zero at = let same : x ≡ list = cc in rw same refl
opened names kept list (x ∷ xs) (suc j) at = opened names kept list xs j at

-- the lists from a place on
pub kept_from : (names : List Word) (kept array : List (List Word)) (i : ℕ) (list : List Word) → slice_get array i ≡ Some list
    → are_kept (names ∷ kept) (drop i array) ≡ (list_all (is_in names) list && are_kept kept (drop (i + 1) array))
kept_from names kept array i list is = rw add-one (opened names kept list array i is)

and_true : (a b : Bool) → a ≡ true → (a && b) ≡ b
and_true true b is = refl
and_true false b is = cc

and_false : (a b : Bool) → a ≡ false → (a && b) ≡ false
and_false true b is = cc
and_false false b is = refl

pub kept_yes : (kept : List (List Word)) (names : List Word) (rest array : List (List Word)) (i : ℕ) (list : List Word) (r : Bool) → kept ≡ names ∷ rest → slice_get array i ≡ Some list
    → list_all (is_in names) list ≡ true → r ≡ are_kept rest (drop (i + 1) array) → r ≡ are_kept kept (drop i array)
kept_yes kept names rest array i list r kept_is at all rest_is =
    rest_is ∙ sym (ap (λ (ks : List (List Word)). are_kept ks (drop i array)) kept_is ∙ kept_from names rest array i list at
    ∙ and_true (list_all (is_in names) list) (are_kept rest (drop (i + 1) array)) all)

pub kept_no : (kept : List (List Word)) (names : List Word) (rest array : List (List Word)) (i : ℕ) (list : List Word) → kept ≡ names ∷ rest → slice_get array i ≡ Some list
    → list_all (is_in names) list ≡ false → false ≡ are_kept kept (drop i array)
kept_no kept names rest array i list kept_is at none =
    sym (ap (λ (ks : List (List Word)). are_kept ks (drop i array)) kept_is ∙ kept_from names rest array i list at
    ∙ and_false (list_all (is_in names) list) (are_kept rest (drop (i + 1) array)) none)
