-- Steps of the loop over the counts of an entry.
use Rattle.std.proofs.Common.{◌≡◌, ℕ, ◌+◌, ◌≤◌, ◌<◌, true, false, cond, List, [], ◌∷◌, ◌++◌, length, map, drop, get_or, Option, Some, None, refl, sym, ap, ◌∙◌, arith}
use Rattle.std.specs.Prelude.{codes}
use Rattle.std.specs.List.{concat}
use Rattle.std.proofs.lemmas.List.{at_drop_more, at_drop_all, append-nil, length-append}
use Rattle.cal_limits.specs.declared.TheConstants.{MOST_COUNT}
use Rattle.cal_scan.specs.Words.{same_word}
use Rattle.cal_scan.specs.Lines.{Word}
use Rattle.cal_lines.specs.Words.{natural_of}
use Rattle.cal_lines.specs.Kinds.{if_some, with_count}
use Rattle.eq_text.specs.Kinds.{parts}
use Rattle.eq_text.proofs.Joined.{concat-append}

abbrev Counts : Type 0
Counts = Option (List (List ℕ))

opened : {X : Type 0} (view : X → Word) (done : List (List ℕ)) (part : List ℕ) (xs : List X) (i : ℕ) (d : X) → i < length xs → parts done part (map view (drop i xs))
    ≡ cond (same_word (view (get_or xs i d)) (codes ":")) (if_some part (parts (done ++ part ∷ []) [] (map view (drop (i + 1) xs)))) (with_count (natural_of MOST_COUNT (view (get_or xs i d))) (λ n. parts done (part ++ n ∷ []) (map view (drop (i + 1) xs))))
unfolding parts
opened view done part xs i d lt = at_drop_more (λ ys. parts done part (map view ys)) xs i d lt

none_if_empty : {B : Type 0} (part : List ℕ) (o : Option B) → length part ≡ 0 → if_some part o ≡ None
none_if_empty [] o e = refl
none_if_empty (x ∷ xs) o e = absurd (omega arith)

some_if_more : {B : Type 0} (part : List ℕ) (o : Option B) → (length part ≡ 0 → ⊥) → if_some part o ≡ o
some_if_more [] o h = absurd (h refl)
some_if_more (x ∷ xs) o h = refl

pub counts_cut_early : {X : Type 0} (view : X → Word) (done : List (List ℕ)) (part : List ℕ) (xs : List X) (i : ℕ) (d : X) → i < length xs → (total : Counts) → same_word (view (get_or xs i d)) (codes ":") ≡ true → length part ≡ 0
    → parts done part (map view (drop i xs)) ≡ total → None ≡ total
counts_cut_early view done part xs i d lt total colon empty so_far = sym (sym so_far ∙ opened view done part xs i d lt ∙ rw (colon, none_if_empty part (parts (done ++ part ∷ []) [] (map view (drop (i + 1) xs))) empty) refl)

pub counts_cut : {X : Type 0} (view : X → Word) (done : List (List ℕ)) (part : List ℕ) (xs : List X) (i : ℕ) (d : X) → i < length xs → (total : Counts) → same_word (view (get_or xs i d)) (codes ":") ≡ true → (length part ≡ 0 → ⊥)
    → parts done part (map view (drop i xs)) ≡ total → parts (done ++ part ∷ []) [] (map view (drop (i + 1) xs)) ≡ total
counts_cut view done part xs i d lt total colon more so_far = sym (sym so_far ∙ opened view done part xs i d lt ∙ rw (colon, some_if_more part (parts (done ++ part ∷ []) [] (map view (drop (i + 1) xs))) more) refl)

pub counts_none : {X : Type 0} (view : X → Word) (done : List (List ℕ)) (part : List ℕ) (xs : List X) (i : ℕ) (d : X) → i < length xs → (total : Counts) → same_word (view (get_or xs i d)) (codes ":") ≡ false → natural_of MOST_COUNT (view (get_or xs i d)) ≡ None
    → parts done part (map view (drop i xs)) ≡ total → None ≡ total
counts_none view done part xs i d lt total word bad so_far = sym (sym so_far ∙ opened view done part xs i d lt ∙ rw (word, bad) refl)

pub counts_some : {X : Type 0} (view : X → Word) (done : List (List ℕ)) (part : List ℕ) (xs : List X) (i : ℕ) (d : X) (n : ℕ) → i < length xs → (total : Counts) → same_word (view (get_or xs i d)) (codes ":") ≡ false → natural_of MOST_COUNT (view (get_or xs i d)) ≡ Some n
    → parts done part (map view (drop i xs)) ≡ total → parts done (part ++ n ∷ []) (map view (drop (i + 1) xs)) ≡ total
counts_some view done part xs i d n lt total word good so_far = sym (sym so_far ∙ opened view done part xs i d lt ∙ rw (word, good) refl)

pub counts_end : {X : Type 0} (view : X → Word) (done : List (List ℕ)) (part : List ℕ) (xs : List X) (i : ℕ) → length xs ≤ i → (total : Counts)
    → parts done part (map view (drop i xs)) ≡ total → (length part ≡ 0 → None ≡ total) × ((length part ≡ 0 → ⊥) → Some (done ++ part ∷ []) ≡ total)
unfolding parts
counts_end view done part xs i le total so_far =
    let open-end : parts done part (map view (drop i xs)) ≡ if_some part (Some (done ++ part ∷ [])) = at_drop_all (λ ys. parts done part (map view ys)) xs i le in
    (λ empty. sym (sym so_far ∙ open-end ∙ none_if_empty part (Some (done ++ part ∷ [])) empty), λ more. sym (sym so_far ∙ open-end ∙ some_if_more part (Some (done ++ part ∷ [])) more))

-- one more sublattice
pub counts_in : (done : List (List ℕ)) (part : List ℕ) → length (concat (done ++ part ∷ [])) ≡ length (concat done) + length part
counts_in done part = ap (λ (z : List ℕ). length z) (concat-append done (part ∷ [])) ∙ simp (append-nil, length-append)

-- one more count
pub counts_on : (n : ℕ) (done : List (List ℕ)) (part : List ℕ) (k : ℕ) → n ≡ length (concat done) + length part → n + 1 ≡ length (concat done) + length (part ++ k ∷ [])
counts_on n done part k e = omega (arith, e, length-append part (k ∷ []))
