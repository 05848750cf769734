-- Words none of which stands twice: sorted, no word equals the one before it.
use Rattle.std.proofs.Common.{◌≡◌, ℕ, ◌+◌, ◌-◌, ◌<◌, Bool, true, false, List, [], ◌∷◌, length, map, get_or, refl, sym, ap, subst, ◌∙◌, arith}
use Rattle.std.specs.Prelude.{IsTrue, ◌↔◌}
use Rattle.std.specs.Ordering.{nat_cmp, is_lt, eq_by_cmp, ordering_reverse, ordering_then}
use Rattle.std.specs.declared.cmp.Ordering.{Ordering}
use Rattle.std.specs.declared.cmp.Ordering.TheVariants.{Less, Equal, Greater}
use Rattle.std.specs.Cmp.{IsTotalOrder}
use Rattle.std.specs.Cmp.Lexicographic.{slice_cmp, texts_ties}
use Rattle.std.specs.List.{AllAdjacentBelow, All, AllByRecursion, IsDistinct, list_all}
use Rattle.std.specs.List.Sorted.{IsPermutation, IsSorted}
use Rattle.std.proofs.lemmas.Bool.{and_parts}
use Rattle.std.proofs.lemmas.Cmp.{nat_cmp_total, then_total, on_total, tied_itself, nat_list_cmp_total, nat_list_eq_equiv}
use Rattle.std.proofs.lemmas.List.{get_or-map, get_or_default, length-map}
use Rattle.std.proofs.lemmas.List.Elements.{All-from_recursion}
use Rattle.std.proofs.lemmas.List.Sorted.{IsPermutation-sym, IsPermutation-map, All-permutation, all_adjacent_more}
use Rattle.std.proofs.lemmas.Map.Keys.{sorted_from_all_adjacent, IsDistinct-from_sorted, IsDistinct-from_apart, apart_from_distinct, IsDistinct-IsPermutation}
use Rattle.cal_scan.specs.Words.{same_word, is_name}
use Rattle.cal_scan.specs.Names.{same_name}
use Rattle.cal_scan.specs.Lines.{Word}
use Rattle.cal_scan.specs.Keys.{key_of}
use Rattle.cal_scan.specs.Names.{are_names}
use Rattle.cal_scan.proofs.NameLists.{same-found, are_names-found, are_names-again}

-- ---- the loop over neighbours

abbrev pub Apart : {X : Type 0} → (X → Word) → X → X → Type 0
Apart view v w = same_word (view v) (view w) ≡ false

pub neighbours_same : {X : Type 0} (view : X → Word) (xs : List X) (i : ℕ) (d e : X) → 0 < i → i < length xs → same_word (view (get_or xs (i - 1) d)) (view (get_or xs i e)) ≡ true → AllAdjacentBelow (Apart view) xs (length xs) → ⊥
neighbours_same view xs i d e some within same all =
    let next : i - 1 + 1 ≡ i = omega arith in
    let apart : same_word (view (get_or xs (i - 1) d)) (view (get_or xs (i - 1 + 1) d)) ≡ false = all (i - 1) d (omega arith) in
    let there : get_or xs (i - 1 + 1) d ≡ get_or xs i e = ap (λ (k : ℕ). get_or xs k d) next ∙ get_or_default xs i d e within in
    let bad : same_word (view (get_or xs (i - 1) d)) (view (get_or xs i e)) ≡ false = sym (ap (λ x. same_word (view (get_or xs (i - 1) d)) (view x)) there) ∙ apart in
    absurd cc

pub neighbours_more : {X : Type 0} (view : X → Word) (xs : List X) (i : ℕ) (d e : X) → 0 < i → i < length xs → same_word (view (get_or xs (i - 1) d)) (view (get_or xs i e)) ≡ false → AllAdjacentBelow (Apart view) xs i → AllAdjacentBelow (Apart view) xs (i + 1)
neighbours_more view xs i d e some within apart all =
    all_adjacent_more xs (Apart view) i some all (λ f.
    let before : get_or xs (i - 1) f ≡ get_or xs (i - 1) d = get_or_default xs (i - 1) f d (omega arith) in
    let this : get_or xs i f ≡ get_or xs i e = get_or_default xs i f e within in
    ap (λ x. same_word (view x) (view (get_or xs i f))) before ∙ ap (λ x. same_word (view (get_or xs (i - 1) d)) (view x)) this ∙ apart)

-- ---- words in order, each behind its key

abbrev pub in_order : {X : Type 0} → (X → ℕ) → (X → Word) → X → X → Ordering
in_order key view x y = ordering_then (nat_cmp (key x) (key y)) (slice_cmp nat_cmp (view x) (view y))

total : {X : Type 0} (key : X → ℕ) (view : X → Word) → IsTotalOrder (in_order key view)
total key view = then_total (on_total key nat_cmp_total) (on_total view nat_list_cmp_total)

same_key : (n : ℕ) (o : Ordering) → ordering_then (nat_cmp n n) o ≡ o
same_key n o = let tie : nat_cmp n n ≡ Equal = nat_cmp_total_same n in rw tie refl
  where
    nat_cmp_total_same : (n : ℕ) → nat_cmp n n ≡ Equal
    nat_cmp_total_same n = tied_itself nat_cmp_total n

same_words : (x y : Word) → same_name x y ≡ true → slice_cmp nat_cmp x y ≡ Equal
same_words x y same = by_order (slice_cmp nat_cmp x y) refl (sym (texts_ties x y) ∙ same)
  where
    by_order : (r : Ordering) → slice_cmp nat_cmp x y ≡ r → eq_by_cmp (slice_cmp nat_cmp) x y ≡ true → r ≡ Equal
    by_order Less is tie = let off : eq_by_cmp (slice_cmp nat_cmp) x y ≡ false = rw is refl in absurd cc
    by_order Equal is tie = refl
    by_order Greater is tie = let off : eq_by_cmp (slice_cmp nat_cmp) x y ≡ false = rw is refl in absurd cc

equal_second : (a b : Ordering) → ordering_then a b ≡ Equal → b ≡ Equal
equal_second Less b e = absurd cc
equal_second Equal b e = e
equal_second Greater b e = absurd cc

less_from : {X : Type 0} (key : X → ℕ) (view : X → Word) (x y : X) → is_lt (in_order key view y x) ≡ false → same_name (view x) (view y) ≡ false → in_order key view x y ≡ Less
less_from {X = X} key view x y up apart = by_order (in_order key view x y) refl ((total key view).antisymm y x)
  where
    by_order : (r : Ordering) → in_order key view x y ≡ r → in_order key view y x ≡ ordering_reverse (in_order key view x y) → r ≡ Less
    by_order Less is turned = refl
    by_order Equal is turned =
        let tie : eq_by_cmp (slice_cmp nat_cmp) (view x) (view y) ≡ true = rw (equal_second (nat_cmp (key x) (key y)) (slice_cmp nat_cmp (view x) (view y)) is) refl in
        let same : same_name (view x) (view y) ≡ true = texts_ties (view x) (view y) ∙ tie in
        absurd cc
    by_order Greater is turned = let low : is_lt (in_order key view y x) ≡ true = rw (turned, is) refl in absurd cc

-- each word stands behind its own key
abbrev pub HasKey : {X : Type 0} → (X → ℕ) → (X → Word) → X → Type 0
HasKey key view x = key x ≡ key_of (view x)

rising_words : {X : Type 0} (key : X → ℕ) (view : X → Word) (ys : List X) → All (HasKey key view) ys → IsSorted (in_order key view) ys → AllAdjacentBelow (Apart view) ys (length ys) → IsDistinct same_name (map view ys)
unfolding same_word IsDistinct
rising_words key view [] keys sorted all = tt
rising_words key view (y ∷ ys) keys sorted all =
    let size : length (map view (y ∷ ys)) ≡ length (y ∷ ys) = length-map (y ∷ ys) view in
    let rises = sorted_from_all_adjacent (total key view) (y ∷ ys) y (λ k lt.
    less_from key view (get_or (y ∷ ys) k y) (get_or (y ∷ ys) (k + 1) y) (sorted k y (omega arith) lt) (all k y lt)) in
    let apart = IsDistinct-from_sorted (in_order key view) (y ∷ ys) rises in
    IsDistinct-from_apart same_name (map view (y ∷ ys)) (λ i j d lt within.
    let here = get_or-map view (y ∷ ys) i y d (omega (arith, size, within)) in
    let there = get_or-map view (y ∷ ys) j y d (omega (arith, size, within)) in
    rw (here, there) (differ key view (get_or (y ∷ ys) i y) (get_or (y ∷ ys) j y) (keys i y (omega (arith, size, within))) (keys j y (omega (arith, size, within))) (apart_from_distinct (eq_by_cmp (in_order key view)) (y ∷ ys) i j y apart lt (omega (arith, size, within)))))
  where
    differ : {X : Type 0} (key : X → ℕ) (view : X → Word) (x y : X) → HasKey key view x → HasKey key view y → eq_by_cmp (in_order key view) x y ≡ false → same_name (view x) (view y) ≡ false
    differ key view x y kx ky apart = by_test (same_name (view x) (view y)) refl
      where
        by_test : (t : Bool) → same_name (view x) (view y) ≡ t → t ≡ false
        by_test false is = refl
        by_test true is =
            let words : view x ≡ view y = same-found (view x) (view y) is in
            let keys : key x ≡ key y = kx ∙ ap key_of words ∙ sym ky in
            let tie : in_order key view x y ≡ Equal = rw (keys, same_words (view x) (view y) is) (same_key (key y) Equal) in
            let bad : eq_by_cmp (in_order key view) x y ≡ true = rw tie refl in
            absurd cc

-- words that differ stay so when they are put in order
neighbours_from_distinct : {X : Type 0} (view : X → Word) (xs ys : List X) → IsPermutation xs ys → IsDistinct same_name (map view xs) → AllAdjacentBelow (Apart view) ys (length ys)
unfolding same_word
neighbours_from_distinct view xs ys moved distinct = λ k d lt.
    let other = IsDistinct-IsPermutation same_name nat_list_eq_equiv.symm (map view xs) (map view ys) (IsPermutation-map view xs ys moved) distinct in
    let size : length (map view ys) ≡ length ys = length-map ys view in
    let apart = apart_from_distinct same_name (map view ys) k (k + 1) [] other (omega arith) (omega (arith, size, lt)) in
    let here = get_or-map view ys k d [] (omega arith) in
    let next = get_or-map view ys (k + 1) d [] lt in
    sym (ap (λ (v : Word). same_name v (get_or (map view ys) (k + 1) [])) here ∙ ap (λ (v : Word). same_name (view (get_or ys k d)) v) next) ∙ apart

abbrev behind_key : {W : Type 0} → (W → Word) → W → ℕ × W
behind_key seen w = (key_of (seen w), w)

words_kept : {W : Type 0} (seen : W → Word) (xs : List W) → map (λ p. seen p.1) (map (behind_key seen) xs) ≡ map seen xs
words_kept seen [] = refl
words_kept seen (x ∷ xs) = ap (λ (ws : List Word). seen x ∷ ws) (words_kept seen xs)

have_keys : {W : Type 0} (seen : W → Word) (xs : List W) → AllByRecursion (HasKey (λ p. p.0) (λ p. seen p.1)) (map (behind_key seen) xs)
have_keys seen [] = tt
have_keys seen (x ∷ xs) = (refl, have_keys seen xs)

pub is_distinct : {W : Type 0} (seen : W → Word) (xs : List W) (made ys zs : List (ℕ × W)) (b : Bool) → made ≡ map (behind_key seen) xs → IsPermutation made ys → zs ≡ ys → IsSorted (in_order (λ p. p.0) (λ p. seen p.1)) ys
    → (IsTrue b ↔ AllAdjacentBelow (Apart (λ p. seen p.1)) zs (length zs)) → IsTrue b ↔ IsDistinct same_name (map seen xs)
is_distinct {W = W} seen xs made ys zs b is moved same sorted answer =
    let here : IsTrue b ↔ AllAdjacentBelow (Apart (λ p. seen p.1)) ys (length ys) = subst (λ (us : List (ℕ × W)). IsTrue b ↔ AllAdjacentBelow (Apart (λ p. seen p.1)) us (length us)) same answer in
    let keyed : IsPermutation (map (behind_key seen) xs) ys = subst (λ (us : List (ℕ × W)). IsPermutation us ys) is moved in
    (λ h. forth keyed (here.0 h), λ h. here.1 (back keyed h))
  where
    forth : IsPermutation (map (behind_key seen) xs) ys → AllAdjacentBelow (Apart (λ p. seen p.1)) ys (length ys) → IsDistinct same_name (map seen xs)
    forth keyed apart =
        let all = All-from_recursion (HasKey (λ p. p.0) (λ p. seen p.1)) (map (behind_key seen) xs) (have_keys seen xs) in
        let kept = All-permutation (HasKey (λ p. p.0) (λ p. seen p.1)) (map (behind_key seen) xs) ys keyed all in
        let rise = rising_words (λ p. p.0) (λ p. seen p.1) ys kept sorted apart in
        subst (λ (ws : List Word). IsDistinct same_name ws) (words_kept seen xs)
        (IsDistinct-IsPermutation same_name nat_list_eq_equiv.symm (map (λ p. seen p.1) ys) (map (λ p. seen p.1) (map (behind_key seen) xs)) (IsPermutation-map (λ p. seen p.1) ys (map (behind_key seen) xs) (IsPermutation-sym (map (behind_key seen) xs) ys keyed)) rise)

    back : IsPermutation (map (behind_key seen) xs) ys → IsDistinct same_name (map seen xs) → AllAdjacentBelow (Apart (λ p. seen p.1)) ys (length ys)
    back keyed distinct = neighbours_from_distinct (λ p. seen p.1) (map (behind_key seen) xs) ys keyed (subst (λ (ws : List Word). IsDistinct same_name ws) (sym (words_kept seen xs)) distinct)

-- ---- names

all_names : {X : Type 0} (view : X → Word) (xs : List X) → list_all (λ x. is_name (view x)) xs ≡ true → AllByRecursion (λ w. is_name w ≡ true) (map view xs)
all_names view [] e = tt
all_names view (x ∷ xs) e = let p = and_parts (is_name (view x)) (list_all (λ x. is_name (view x)) xs) e in (p.0, all_names view xs p.1)

names_all : {X : Type 0} (view : X → Word) (xs : List X) → AllByRecursion (λ w. is_name w ≡ true) (map view xs) → list_all (λ x. is_name (view x)) xs ≡ true
names_all view [] all = refl
names_all view (x ∷ xs) all = rw (all.0, names_all view xs all.1) refl

pub no_names : {X : Type 0} (view : X → Word) (xs : List X) → list_all (λ x. is_name (view x)) xs ≡ false → false ≡ are_names (map view xs)
no_names view xs off = by_test (are_names (map view xs)) refl
  where
    by_test : (t : Bool) → are_names (map view xs) ≡ t → false ≡ t
    by_test false is = refl
    by_test true is = let all : list_all (λ x. is_name (view x)) xs ≡ true = names_all view xs (are_names-found (map view xs) is).0 in absurd cc

pub names_once : {X : Type 0} (view : X → Word) (xs : List X) (b : Bool) → list_all (λ x. is_name (view x)) xs ≡ true → IsTrue b ↔ IsDistinct same_name (map view xs) → b ≡ are_names (map view xs)
names_once view xs true on answer = sym (are_names-again (map view xs) (all_names view xs on) (answer.0 refl))
names_once view xs false on answer = by_test (are_names (map view xs)) refl
  where
    by_test : (t : Bool) → are_names (map view xs) ≡ t → false ≡ t
    by_test false is = refl
    by_test true is = let bad : false ≡ true = answer.1 (are_names-found (map view xs) is).1 in absurd cc
