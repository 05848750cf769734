-- The counts that an array picks, by places that count on over the sublattices.
use Rattle.std.proofs.Common.{◌≡◌, ℕ, zero, suc, ◌+◌, ◌-◌, ◌*◌, ◌^◌, ◌<◌, ◌≤◌, List, [], ◌∷◌, ◌++◌, length, map, refl, arith, ap, sym, ◌∙◌, Bool, true, false, slice_index, filter}
use Rattle.std.specs.Prelude.{sum, nat_lt}
use Rattle.std.specs.List.{concat, AllByRecursion}
use Rattle.std.proofs.lemmas.List.{length-append, append_assoc}
use Rattle.std.proofs.lemmas.List.Sums.{sum_by-cons}
use Rattle.cef_core.specs.Shapes.{shape}
use Rattle.cef_core.specs.Parameters.{picked, product_of, product_over, interacting}
use Rattle.cef_core.specs.Phases.{ArePlaces, AreDistinct}
use Rattle.cef_term.specs.Kept.{placed, count_at, product_at}
use Rattle.cef_term.proofs.Linked.{counted}

pub sum-cons : (k : ℕ) (counts : List ℕ) → sum (k ∷ counts) ≡ k + sum counts
sum-cons k counts = sum_by-cons (λ (x : ℕ). x) k counts

index_here : (counts rest : List ℕ) (p : ℕ) → p < length counts → slice_index (counts ++ rest) p ≡ slice_index counts p
index_here [] rest p lt = absurd (omega arith)
index_here (k ∷ counts) rest zero lt = refl
index_here (k ∷ counts) rest (suc p) lt = index_here counts rest p (omega arith)

pub index_in : (front counts rest : List ℕ) (p : ℕ) → p < length counts → slice_index (front ++ (counts ++ rest)) (length front + p) ≡ slice_index counts p
index_in [] counts rest p lt = let e : 0 + p ≡ p = omega arith in rw e (index_here counts rest p lt)
index_in (k ∷ front) counts rest p lt = let e : length (k ∷ front) + p ≡ suc (length front + p) = omega arith in rw e (index_in front counts rest p lt)

list_picked : (front counts rest places : List ℕ) → AllByRecursion (λ p. p < length counts) places →
    map (λ p. slice_index counts p) places ≡ map (λ p. count_at (front ++ (counts ++ rest)) p) (map (λ p. length front + p) places)
list_picked front counts rest [] h = refl
list_picked front counts rest (p ∷ places) h = rw (index_in front counts rest p h.0, ← list_picked front counts rest places h.1) refl

head_is : (a b : ℕ) (xs ys : List ℕ) → a ∷ xs ≡ b ∷ ys → a ≡ b
head_is a b xs ys e = cc

tail_is : (a b : ℕ) (xs ys : List ℕ) → a ∷ xs ≡ b ∷ ys → xs ≡ ys
tail_is a b xs ys e = cc

pub picked_is : (front widths : List ℕ) (array site : List (List ℕ)) → shape site ≡ widths → ArePlaces widths array → picked array site ≡ counted (front ++ concat site) (placed (length front) widths array)
picked_is front [] [] [] e h = refl
picked_is front [] [] (counts ∷ site) e h = absurd cc
picked_is front [] (places ∷ array) site e h = absurd h
picked_is front (w ∷ widths) [] site e h = absurd h
picked_is front (w ∷ widths) (places ∷ array) [] e h = absurd cc
picked_is front (w ∷ widths) (places ∷ array) (counts ∷ site) e h =
    let width : length counts ≡ w = head_is _ _ _ _ e in
    let below : AllByRecursion (λ p. p < length counts) places = rw width h.0 in
    let first = list_picked front counts (concat site) places below in
    let rest = picked_is (front ++ counts) widths array site (tail_is _ _ _ _ e) h.1 in
    let size : length (front ++ counts) ≡ length front + w = omega (arith, length-append front counts) in
    let whole : (front ++ counts) ++ concat site ≡ front ++ (counts ++ concat site) = append_assoc front counts (concat site) in
    rw (first, rest, size, whole) refl

-- K as one product
product_of-append : (xs ys : List ℕ) → product_of (xs ++ ys) ≡ product_of xs * product_of ys
product_of-append [] ys = omega arith
product_of-append (x ∷ xs) ys = omega (arith, ap (λ (z : ℕ). x * z) (product_of-append xs ys))

map-append : (f : ℕ → ℕ) (xs ys : List ℕ) → map f (xs ++ ys) ≡ map f xs ++ map f ys
map-append f [] ys = refl
map-append f (x ∷ xs) ys = ap (λ (zs : List ℕ). f x ∷ zs) (map-append f xs ys)

pub product_over_is : (c : List ℕ) (lists : List (List ℕ)) → product_over (counted c lists) ≡ product_at c (concat lists)
product_over_is c [] = refl
product_over_is c (l ∷ lists) = rw (map-append (λ p. count_at c p) l (concat lists), product_of-append (map (λ p. count_at c p) l) (map (λ p. count_at c p) (concat lists)), product_over_is c lists) refl

length-map : (f : ℕ → ℕ) (xs : List ℕ) → length (map f xs) ≡ length xs
length-map f [] = refl
length-map f (x ∷ xs) = omega (arith, length-map f xs)

pub interacting_is : (f : ℕ → ℕ) (lists : List (List ℕ)) → interacting (map (λ ps. map f ps) lists) ≡ map (λ ps. map f ps) (interacting lists)
interacting_is f [] = refl
interacting_is f (l ∷ lists) = by (nat_lt 1 (length l)) refl (interacting_is f lists)
  where
    by : (b : Bool) → nat_lt 1 (length l) ≡ b → interacting (map (λ ps. map f ps) lists) ≡ map (λ ps. map f ps) (interacting lists) → interacting (map (λ ps. map f ps) (l ∷ lists)) ≡ map (λ ps. map f ps) (interacting (l ∷ lists))
    by true e rest = rw (length-map f l, e, rest) refl
    by false e rest = rw (length-map f l, e, rest) refl

pub lengths_are : (c : List ℕ) (lists : List (List ℕ)) → sum (map length (counted c lists)) ≡ length (concat lists)
lengths_are c [] = omega arith
lengths_are c (l ∷ lists) = omega (arith, sum-cons (length (map (λ p. count_at c p) l)) (map length (counted c lists)), lengths_are c lists, length-map (λ p. count_at c p) l, length-append l (concat lists))

-- the array's own lists have the same lengths
pub placed_lengths : (from : ℕ) (widths : List ℕ) (array : List (List ℕ)) → ArePlaces widths array → sum (map length array) ≡ length (concat (placed from widths array))
placed_lengths from [] [] h = omega arith
placed_lengths from [] (places ∷ array) h = absurd h
placed_lengths from (w ∷ widths) [] h = absurd h
placed_lengths from (w ∷ widths) (places ∷ array) h = omega (arith, sum-cons (length places) (map length array), placed_lengths (from + w) widths array h.1, length-map (λ p. from + p) places, length-append (map (λ p. from + p) places) (concat (placed (from + w) widths array)))

-- places are below the number of sites
abbrev pub AreBelow : ℕ → List ℕ → Type 0
AreBelow n places = AllByRecursion (λ p. p < n) places

below_more : (m n : ℕ) (places : List ℕ) → m ≤ n → AreBelow m places → AreBelow n places
below_more m n [] le h = tt
below_more m n (p ∷ places) le h = (omega (arith, h.0), below_more m n places le h.1)

below_append : (n : ℕ) (xs ys : List ℕ) → AreBelow n xs → AreBelow n ys → AreBelow n (xs ++ ys)
below_append n [] ys h k = k
below_append n (x ∷ xs) ys h k = (h.0, below_append n xs ys h.1 k)

below_shifted : (from w : ℕ) (places : List ℕ) → AreBelow w places → AreBelow (from + w) (map (λ p. from + p) places)
below_shifted from w [] h = tt
below_shifted from w (p ∷ places) h = (omega (arith, h.0), below_shifted from w places h.1)

pub placed_below : (from : ℕ) (widths : List ℕ) (array : List (List ℕ)) → ArePlaces widths array → AllByRecursion (AreBelow (from + sum widths)) (placed from widths array)
placed_below from [] [] h = tt
placed_below from [] (places ∷ array) h = absurd h
placed_below from (w ∷ widths) [] h = absurd h
placed_below from (w ∷ widths) (places ∷ array) h =
    let e : from + w + sum widths ≡ from + sum (w ∷ widths) = omega (arith, sum-cons w widths) in
    (below_more (from + w) (from + sum (w ∷ widths)) (map (λ p. from + p) places) (omega (arith, sum-cons w widths)) (below_shifted from w places h.0), rw e at (placed_below (from + w) widths array h.1))

pub concat_below : (n : ℕ) (lists : List (List ℕ)) → AllByRecursion (AreBelow n) lists → AreBelow n (concat lists)
concat_below n [] h = tt
concat_below n (l ∷ lists) h = below_append n l (concat lists) h.0 (concat_below n lists h.1)

pub below_at : (n : ℕ) (places : List ℕ) → AreBelow n places → (k : ℕ) → k < length places → slice_index places k < n
below_at n [] h k lt = absurd (omega arith)
below_at n (p ∷ places) h zero lt = h.0
below_at n (p ∷ places) h (suc k) lt = below_at n places h.1 k (omega arith)

-- what holds of all lists holds of the interacting ones
pub interacting_all : (P : List ℕ → Type 0) (lists : List (List ℕ)) → AllByRecursion P lists → AllByRecursion P (interacting lists)
interacting_all P [] h = tt
interacting_all P (l ∷ lists) h = by (nat_lt 1 (length l)) refl (interacting_all P lists h.1)
  where
    by : (b : Bool) → nat_lt 1 (length l) ≡ b → AllByRecursion P (interacting lists) → AllByRecursion P (interacting (l ∷ lists))
    by true e rest = rw e (h.0, rest)
    by false e rest = rw e rest

-- three counts of a row at different places
one_of : (row : List ℕ) (a : ℕ) → slice_index row a ≤ sum row
one_of [] a = omega arith
one_of (k ∷ row) zero = omega (arith, sum-cons k row)
one_of (k ∷ row) (suc a) = omega (arith, sum-cons k row, one_of row a)

two_of : (row : List ℕ) (a b : ℕ) → (a ≡ b → ⊥) → slice_index row a + slice_index row b ≤ sum row
two_of [] a b h = omega arith
two_of (k ∷ row) zero zero h = absurd (h refl)
two_of (k ∷ row) zero (suc b) h = omega (arith, sum-cons k row, one_of row b)
two_of (k ∷ row) (suc a) zero h = omega (arith, sum-cons k row, one_of row a)
two_of (k ∷ row) (suc a) (suc b) h = omega (arith, sum-cons k row, two_of row a b (λ e. h (ap suc e)))

three_of : (row : List ℕ) (a b c : ℕ) → (a ≡ b → ⊥) → (a ≡ c → ⊥) → (b ≡ c → ⊥) → slice_index row a + slice_index row b + slice_index row c ≤ sum row
three_of [] a b c h i j = omega arith
three_of (k ∷ row) zero zero c h i j = absurd (h refl)
three_of (k ∷ row) zero (suc b) zero h i j = absurd (i refl)
three_of (k ∷ row) (suc a) zero zero h i j = absurd (j refl)
three_of (k ∷ row) zero (suc b) (suc c) h i j = omega (arith, sum-cons k row, two_of row b c (λ e. j (ap suc e)))
three_of (k ∷ row) (suc a) zero (suc c) h i j = omega (arith, sum-cons k row, two_of row a c (λ e. i (ap suc e)))
three_of (k ∷ row) (suc a) (suc b) zero h i j = omega (arith, sum-cons k row, two_of row a b (λ e. h (ap suc e)))
three_of (k ∷ row) (suc a) (suc b) (suc c) h i j = omega (arith, sum-cons k row, three_of row a b c (λ e. h (ap suc e)) (λ e. i (ap suc e)) (λ e. j (ap suc e)))

-- the counts of a list of three add to n at most
abbrev pub IsWithinThree : ℕ → List ℕ → List ℕ → Type 0
IsWithinThree n c (i ∷ j ∷ k ∷ []) = count_at c i + count_at c j + count_at c k ≤ n
IsWithinThree n c [] = Unit {0}
IsWithinThree n c (i ∷ []) = Unit {0}
IsWithinThree n c (i ∷ j ∷ []) = Unit {0}
IsWithinThree n c (i ∷ j ∷ k ∷ l ∷ more) = Unit {0}

three_placed : (n : ℕ) (front counts rest places : List ℕ) → AllByRecursion (λ p. p < length counts) places → AreDistinct places → sum counts ≡ n → IsWithinThree n (front ++ (counts ++ rest)) (map (λ p. length front + p) places)
three_placed n front counts rest [] b d e = tt
three_placed n front counts rest (i ∷ []) b d e = tt
three_placed n front counts rest (i ∷ j ∷ []) b d e = tt
three_placed n front counts rest (i ∷ j ∷ k ∷ []) b d e =
    omega (arith, e, three_of counts i j k d.0.0 d.0.1.0 d.1.0.0, index_in front counts rest i b.0, index_in front counts rest j b.1.0, index_in front counts rest k b.1.1.0)
three_placed n front counts rest (i ∷ j ∷ k ∷ l ∷ more) b d e = tt

-- each sublattice's counts add to n
abbrev pub AddTo : ℕ → List (List ℕ) → Type 0
AddTo n site = AllByRecursion (λ counts. sum counts ≡ n) site

pub threes : (n : ℕ) (front widths : List ℕ) (array site : List (List ℕ)) → shape site ≡ widths → ArePlaces widths array → AllByRecursion AreDistinct array → AddTo n site →
    AllByRecursion (IsWithinThree n (front ++ concat site)) (placed (length front) widths array)
threes n front [] [] [] e h d a = tt
threes n front [] [] (counts ∷ site) e h d a = absurd cc
threes n front [] (places ∷ array) site e h d a = absurd h
threes n front (w ∷ widths) [] site e h d a = absurd h
threes n front (w ∷ widths) (places ∷ array) [] e h d a = absurd cc
threes n front (w ∷ widths) (places ∷ array) (counts ∷ site) e h d a =
    let width : length counts ≡ w = head_is _ _ _ _ e in
    let below : AllByRecursion (λ p. p < length counts) places = rw width h.0 in
    let first = three_placed n front counts (concat site) places below d.0 a.0 in
    let rest = threes n (front ++ counts) widths array site (tail_is _ _ _ _ e) h.1 d.1 a.1 in
    let size : length (front ++ counts) ≡ length front + w = omega (arith, length-append front counts) in
    let whole : (front ++ counts) ++ concat site ≡ front ++ (counts ++ concat site) = append_assoc front counts (concat site) in
    (first, rw (size, whole) at rest)
