-- Steps of a loop that reads a whole number at each word.
use Rattle.std.proofs.Common.{◌≡◌, ℕ, ◌+◌, ◌≤◌, ◌<◌, List, [], ◌∷◌, ◌++◌, length, map, drop, get_or, Option, Some, None, refl, sym, ap, ◌∙◌, append_assoc}
use Rattle.std.specs.Prelude.{ℤ}
use Rattle.std.proofs.lemmas.List.{at_drop_more, at_drop_all, append-nil}
use Rattle.cal_scan.specs.Lines.{Word}
use Rattle.cal_lines.specs.Words.{integer_of}
use Rattle.cal_lines.specs.Kinds.{with_value, all_integers}

abbrev pub with_front : {A : Type 0} → List A → Option (List A) → Option (List A)
with_front front None = None
with_front front (Some vs) = Some (front ++ vs)

regroup : (front : List ℤ) (v : ℤ) (o : Option (List ℤ)) → with_front front (with_value (Some v) o) ≡ with_front (front ++ v ∷ []) o
regroup front v None = refl
regroup front v (Some vs) = ap (λ (t : List ℤ). Some t) (sym (append_assoc front (v ∷ []) vs))

-- an element of a list of anything, seen by a function
pub integer_none : {X : Type 0} (view : X → Word) (limit i : ℕ) (front : List ℤ) (xs : List X) (d : X) (total : Option (List ℤ)) → i < length xs → None ≡ integer_of limit (view (get_or xs i d))
    → with_front front (all_integers limit (map view (drop i xs))) ≡ total → None ≡ total
unfolding all_integers
integer_none view limit i front xs d total lt e so_far =
    let opened : with_front front (all_integers limit (map view (drop i xs))) ≡ with_front front (with_value (integer_of limit (view (get_or xs i d))) (all_integers limit (map view (drop (i + 1) xs)))) = at_drop_more (λ ys. with_front front (all_integers limit (map view ys))) xs i d lt in
    sym (sym so_far ∙ opened ∙ rw (← e) refl)

pub integer_some : {X : Type 0} (view : X → Word) (limit i : ℕ) (front : List ℤ) (xs : List X) (d : X) (v : ℤ) (total : Option (List ℤ)) → i < length xs → Some v ≡ integer_of limit (view (get_or xs i d))
    → with_front front (all_integers limit (map view (drop i xs))) ≡ total → with_front (front ++ v ∷ []) (all_integers limit (map view (drop (i + 1) xs))) ≡ total
unfolding all_integers
integer_some view limit i front xs d v total lt e so_far =
    let opened : with_front front (all_integers limit (map view (drop i xs))) ≡ with_front front (with_value (integer_of limit (view (get_or xs i d))) (all_integers limit (map view (drop (i + 1) xs)))) = at_drop_more (λ ys. with_front front (all_integers limit (map view ys))) xs i d lt in
    sym (regroup front v (all_integers limit (map view (drop (i + 1) xs)))) ∙ rw e (sym opened ∙ so_far)

pub integers_end : {X : Type 0} (view : X → Word) (limit i : ℕ) (front : List ℤ) (xs : List X) (total : Option (List ℤ)) → length xs ≤ i → with_front front (all_integers limit (map view (drop i xs))) ≡ total → Some front ≡ total
unfolding all_integers
integers_end view limit i front xs total le so_far =
    let done : with_front front (all_integers limit (map view (drop i xs))) ≡ Some (front ++ []) = at_drop_all (λ ys. with_front front (all_integers limit (map view ys))) xs i le in
    ap (λ (t : List ℤ). Some t) (sym (append-nil front)) ∙ sym done ∙ so_far
