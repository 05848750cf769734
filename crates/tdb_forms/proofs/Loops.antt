-- Loops over the parts of a text, each of which adds a value at the end.
use Rattle.std.proofs.Common.{◌≡◌, ℕ, ◌+◌, ◌≤◌, ◌<◌, List, [], ◌∷◌, ◌++◌, length, map, drop, get_or, Option, Some, None, refl, sym, ap, ◌∙◌, append_assoc}
use Rattle.std.specs.Option.{option_map, option_and_then}
use Rattle.std.proofs.lemmas.List.{at_drop_more, at_drop_all, append-nil}
use Rattle.tdb_forms.specs.Finding.{each}

-- ---- the value of each

pub mapped_on : {X Y : Type 0} (f : X → Y) (xs : List X) (i : ℕ) (d : X) (done total : List Y) → i < length xs → done ++ map f (drop i xs) ≡ total
    → (done ++ f (get_or xs i d) ∷ []) ++ map f (drop (i + 1) xs) ≡ total
mapped_on {Y = Y} f xs i d done total lt so_far =
    append_assoc done (f (get_or xs i d) ∷ []) (map f (drop (i + 1) xs)) ∙ ap (λ (z : List Y). done ++ z) (sym (at_drop_more (map f) xs i d lt)) ∙ so_far

pub mapped_end : {X Y : Type 0} (f : X → Y) (xs : List X) (i : ℕ) (done total : List Y) → length xs ≤ i → done ++ map f (drop i xs) ≡ total → done ≡ total
mapped_end {Y = Y} f xs i done total le so_far = sym (append-nil done) ∙ ap (λ (z : List Y). done ++ z) (sym (at_drop_all (map f) xs i le)) ∙ so_far

pub map_twice : {X Y Z : Type 0} (f : Y → Z) (view : X → Y) (xs : List X) → map (λ x. f (view x)) xs ≡ map f (map view xs)
map_twice f view [] = refl
map_twice {Z = Z} f view (x ∷ xs) = ap (λ (zs : List Z). f (view x) ∷ zs) (map_twice f view xs)

-- ---- what each says, unless one says nothing

each_opened : {X A B : Type 0} (f : A → Option B) (view : X → A) (xs : List X) (i : ℕ) (d : X) → i < length xs
    → each f (map view (drop i xs)) ≡ option_and_then (λ y. option_map (λ ys. y ∷ ys) (each f (map view (drop (i + 1) xs)))) (f (view (get_or xs i d)))
unfolding each
each_opened f view xs i d lt = at_drop_more (λ ys. each f (map view ys)) xs i d lt

behind_one : {B : Type 0} (done : List B) (y : B) (o : Option (List B)) → option_map (λ ys. done ++ ys) (option_map (λ ys. y ∷ ys) o) ≡ option_map (λ ys. (done ++ y ∷ []) ++ ys) o
behind_one done y None = refl
behind_one {B = B} done y (Some ys) = ap (λ (zs : List B). Some zs) (sym (append_assoc done (y ∷ []) ys))

pub each_none : {X A B : Type 0} (f : A → Option B) (view : X → A) (xs : List X) (i : ℕ) (d : X) (done : List B) (total : Option (List B)) → i < length xs → f (view (get_or xs i d)) ≡ None
    → option_map (λ ys. done ++ ys) (each f (map view (drop i xs))) ≡ total → None ≡ total
each_none f view xs i d done total lt none so_far =
    sym (sym so_far ∙ ap (option_map (λ ys. done ++ ys)) (each_opened f view xs i d lt) ∙ rw none refl)

pub each_on : {X A B : Type 0} (f : A → Option B) (view : X → A) (xs : List X) (i : ℕ) (d : X) (done : List B) (y : B) (total : Option (List B)) → i < length xs → f (view (get_or xs i d)) ≡ Some y
    → option_map (λ ys. done ++ ys) (each f (map view (drop i xs))) ≡ total → option_map (λ ys. (done ++ y ∷ []) ++ ys) (each f (map view (drop (i + 1) xs))) ≡ total
each_on f view xs i d done y total lt is so_far =
    sym (sym so_far ∙ ap (option_map (λ ys. done ++ ys)) (each_opened f view xs i d lt) ∙ rw is (behind_one done y (each f (map view (drop (i + 1) xs)))))

pub each_end : {X A B : Type 0} (f : A → Option B) (view : X → A) (xs : List X) (i : ℕ) (done : List B) (total : Option (List B)) → length xs ≤ i
    → option_map (λ ys. done ++ ys) (each f (map view (drop i xs))) ≡ total → Some done ≡ total
unfolding each
each_end {B = B} f view xs i done total le so_far =
    ap (λ (zs : List B). Some zs) (sym (append-nil done)) ∙ sym (ap (option_map (λ ys. done ++ ys)) (at_drop_all (λ ys. each f (map view ys)) xs i le)) ∙ so_far

pub each_start : {B : Type 0} (o : Option (List B)) → option_map (λ ys. [] ++ ys) o ≡ o
each_start None = refl
each_start (Some ys) = refl
