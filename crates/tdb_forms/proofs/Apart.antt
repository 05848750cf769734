-- Names of which none stands twice.
use Rattle.std.proofs.Common.{◌≡◌, ℕ, ◌+◌, ◌≤◌, ◌<◌, Bool, true, false, List, [], ◌∷◌, ◌++◌, length, map, take, drop, get_or, Bor, refl, sym, ap, ◌∙◌, append_assoc, arith, subst}
use Rattle.std.specs.Prelude.{not, ◌&&◌, ◌||◌, nat_eq}
use Rattle.std.specs.List.{list_any, AllByRecursion, IsDistinct}
use Rattle.std.specs.Cmp.{IsEquivalence}
use Rattle.std.specs.Cmp.Lexicographic.{pointwise, nat_list_eq_equiv}
use Rattle.std.proofs.lemmas.Bool.{and_parts, true≢false}
use Rattle.std.proofs.lemmas.List.Folds.{list_any-append}
use Rattle.std.proofs.lemmas.List.{at_drop_more, take_all, take_more, map-append, take-append-drop}
use Rattle.indexmap.specs.IndexSet.{insert_key}
use Rattle.cal_scan.specs.Names.{same_name}
use Rattle.tdb_forms.specs.Lists.{is_distinct}

flipped : (x y : List ℕ) → same_name x y ≡ same_name y x
flipped x y = let laws : IsEquivalence (pointwise nat_eq) = nat_list_eq_equiv in laws.symm x y

or_false : (a b : Bool) → (a || b) ≡ false → (a ≡ false) × (b ≡ false)
or_false true b e = absurd (true≢false e)
or_false false b e = (refl, e)

or_from_second : (a b : Bool) → b ≡ true → (a || b) ≡ true
or_from_second true b e = refl
or_from_second false b e = e

or_from_first : (a b : Bool) → a ≡ true → (a || b) ≡ true
or_from_first true b e = refl
or_from_first false b e = absurd (true≢false (sym e))

stands_behind : (x y : List ℕ) (xs ys : List (List ℕ)) → same_name x y ≡ true → list_any (same_name x) (xs ++ y ∷ ys) ≡ true
stands_behind x y xs ys same = list_any-append (same_name x) xs (y ∷ ys) ∙ or_from_second (list_any (same_name x) xs) _ (or_from_first (same_name x y) _ same)

pub twice : (y : List ℕ) (xs ys : List (List ℕ)) → list_any (same_name y) xs ≡ true → is_distinct (xs ++ y ∷ ys) ≡ false
unfolding is_distinct
twice y [] ys among = absurd (true≢false (sym among))
twice y (x ∷ xs) ys among = by_first (same_name y x) refl among (twice y xs ys)
  where
    by_first : (b : Bool) → same_name y x ≡ b → (b || list_any (same_name y) xs) ≡ true → (list_any (same_name y) xs ≡ true → is_distinct (xs ++ y ∷ ys) ≡ false)
        → (not (list_any (same_name x) (xs ++ y ∷ ys)) && is_distinct (xs ++ y ∷ ys)) ≡ false
    by_first true is h behind = rw (stands_behind x y xs ys (flipped x y ∙ is)) refl
    by_first false is h behind = rw (behind h) (none (not (list_any (same_name x) (xs ++ y ∷ ys))))
      where
        none : (b : Bool) → (b && false) ≡ false
        none true = refl
        none false = refl

pub once : (y : List ℕ) (xs : List (List ℕ)) → is_distinct xs ≡ true → list_any (same_name y) xs ≡ false → is_distinct (xs ++ y ∷ []) ≡ true
unfolding is_distinct
once y [] apart off = refl
once y (x ∷ xs) apart off =
    let parts = and_parts (not (list_any (same_name x) xs)) (is_distinct xs) apart in
    let offs = or_false (same_name y x) (list_any (same_name y) xs) off in
    rw (list_any-append (same_name x) xs (y ∷ []), not_any (list_any (same_name x) xs) parts.0, flipped x y ∙ offs.0, once y xs parts.1 offs.1) refl
  where
    not_any : (b : Bool) → not b ≡ true → b ≡ false
    not_any true e = absurd (true≢false (sym e))
    not_any false e = refl

-- by the words of std
pub IsDistinct-from_test : (xs : List (List ℕ)) → is_distinct xs ≡ true → IsDistinct same_name xs
unfolding is_distinct IsDistinct
IsDistinct-from_test [] apart = tt
IsDistinct-from_test (x ∷ xs) apart =
    let parts = and_parts (not (list_any (same_name x) xs)) (is_distinct xs) apart in
    (all_apart xs (not_any (list_any (same_name x) xs) parts.0), IsDistinct-from_test xs parts.1)
  where
    not_any : (b : Bool) → not b ≡ true → b ≡ false
    not_any true e = absurd (true≢false (sym e))
    not_any false e = refl

    all_apart : (ys : List (List ℕ)) → list_any (same_name x) ys ≡ false → AllByRecursion (λ y. same_name x y ≡ false) ys
    all_apart [] off = tt
    all_apart (y ∷ ys) off = let offs = or_false (same_name x y) (list_any (same_name x) ys) off in (offs.0, all_apart ys offs.1)

-- ---- keys that are borrowed

pub any_borrowed : (y : List ℕ) (keys : List (Bor (List ℕ))) → list_any (λ k. pointwise nat_eq y k.now) keys ≡ list_any (same_name y) (map (λ k. k.now) keys)
any_borrowed y [] = refl
any_borrowed y (k ∷ keys) = ap (λ b. same_name y k.now || b) (any_borrowed y keys)

-- ---- a set of the names that were passed

pub nothing_seen : (keys : List (Bor (List ℕ))) → length keys ≡ 0 → map (λ k. k.now) keys ≡ []
nothing_seen [] none = refl
nothing_seen (k ∷ keys) none = absurd (omega arith)

passed : (names : List (List ℕ)) (i : ℕ) (x : List ℕ) → i < length names → x ≡ get_or names i x → names ≡ take i names ++ x ∷ drop (i + 1) names
passed names i x lt is = sym (take-append-drop i names) ∙ ap (λ (zs : List (List ℕ)). take i names ++ zs) (at_drop_more (λ (zs : List (List ℕ)). zs) names i x lt ∙ ap (λ (z : List ℕ). z ∷ drop (i + 1) names) (sym is))

among_passed : (names : List (List ℕ)) (i : ℕ) (key : Bor (List ℕ)) (keys : List (Bor (List ℕ))) (x : List ℕ) → key.now ≡ x → map (λ k. k.now) keys ≡ take i names
    → list_any (λ k. pointwise nat_eq key.now k.now) keys ≡ list_any (same_name x) (take i names)
among_passed names i key keys x key_is keys_are = any_borrowed key.now keys ∙ ap (λ (y : List ℕ). list_any (same_name y) (map (λ k. k.now) keys)) key_is ∙ ap (list_any (same_name x)) keys_are

not_false : (b : Bool) → not b ≡ false → b ≡ true
not_false true e = refl
not_false false e = absurd (true≢false e)

not_true : (b : Bool) → not b ≡ true → b ≡ false
not_true true e = absurd (true≢false (sym e))
not_true false e = refl

pub seen_twice : (names : List (List ℕ)) (i : ℕ) (key : Bor (List ℕ)) (keys : List (Bor (List ℕ))) (x : List ℕ) (added : Bool) → i < length names → x ≡ get_or names i x → key.now ≡ x
    → map (λ k. k.now) keys ≡ take i names → added ≡ not (list_any (λ k. pointwise nat_eq key.now k.now) keys) → added ≡ false → is_distinct names ≡ false
seen_twice names i key keys x added lt is key_is keys_are added_is off =
    let among : list_any (same_name x) (take i names) ≡ true = sym (among_passed names i key keys x key_is keys_are) ∙ not_false _ (sym added_is ∙ off) in
    ap is_distinct (passed names i x lt is) ∙ twice x (take i names) (drop (i + 1) names) among

pub seen_once : (names : List (List ℕ)) (i : ℕ) (key : Bor (List ℕ)) (keys next : List (Bor (List ℕ))) (x : List ℕ) (added : Bool) → i < length names → x ≡ get_or names i x → key.now ≡ x
    → map (λ k. k.now) keys ≡ take i names → is_distinct (take i names) ≡ true → added ≡ not (list_any (λ k. pointwise nat_eq key.now k.now) keys) → added ≡ true
    → next ≡ insert_key (λ a b. pointwise nat_eq a.now b.now) keys key
    → (map (λ k. k.now) next ≡ take (i + 1) names) × (is_distinct (take (i + 1) names) ≡ true)
seen_once names i key keys next x added lt is key_is keys_are apart added_is on next_is =
    let fresh : list_any (λ k. pointwise nat_eq key.now k.now) keys ≡ false = not_true _ (sym added_is ∙ on) in
    let off : list_any (same_name x) (take i names) ≡ false = sym (among_passed names i key keys x key_is keys_are) ∙ fresh in
    let more : take (i + 1) names ≡ take i names ++ x ∷ [] = take_more names i x lt ∙ ap (λ (z : List ℕ). take i names ++ z ∷ []) (sym is) in
    let pushed : next ≡ keys ++ key ∷ [] = next_is ∙ rw fresh refl in (
      ap (map (λ k. k.now)) pushed ∙ map-append (λ k. k.now) keys (key ∷ []) ∙ ap (λ (zs : List (List ℕ)). zs ++ key.now ∷ []) keys_are ∙ ap (λ (z : List ℕ). take i names ++ z ∷ []) key_is ∙ sym more,
      ap is_distinct more ∙ once x (take i names) apart off,
    )

pub seen_all : (names : List (List ℕ)) (i : ℕ) → length names ≤ i → is_distinct (take i names) ≡ true → is_distinct names ≡ true
seen_all names i le apart = ap is_distinct (sym (take_all i names le)) ∙ apart
