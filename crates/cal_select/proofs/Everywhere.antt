-- What holds of each element of a list that is filtered or mapped, or that has no cause.
use Rattle.std.proofs.Common.{◌≡◌, ◌≤◌, List, [], ◌∷◌, length, map, Bool, true, false, cond, refl, arith}
use Rattle.std.specs.Prelude.{filter, ◌&&◌, ◌||◌}
use Rattle.std.specs.List.{AllByRecursion, list_any, list_all, flat_map}
use Rattle.cal_select.proofs.Firsts.{front_none, back_none}

pub all-both : {A : Type 0} (P Q : A → Type 0) (xs : List A) → AllByRecursion P xs → AllByRecursion Q xs → AllByRecursion (λ x. P x × Q x) xs
all-both P Q [] p q = tt
all-both P Q (x ∷ xs) p q = ((p.0, q.0), all-both P Q xs p.1 q.1)

pub all-map : {A B : Type 0} (P : B → Type 0) (f : A → B) (xs : List A) → AllByRecursion (λ x. P (f x)) xs → AllByRecursion P (map f xs)
all-map P f [] all = tt
all-map P f (x ∷ xs) all = (all.0, all-map P f xs all.1)

pub all-in : {A : Type 0} (P Q : A → Type 0) → ((x : A) → P x → Q x) → (xs : List A) → AllByRecursion P xs → AllByRecursion Q xs
all-in P Q implies [] all = tt
all-in P Q implies (x ∷ xs) all = (implies x all.0, all-in P Q implies xs all.1)

pub all-passed : {A : Type 0} (p : A → Bool) (xs : List A) → AllByRecursion (λ x. p x ≡ true) (filter p xs)
all-passed p [] = tt
all-passed p (x ∷ xs) = by_test (p x) refl (all-passed p xs)
  where
    by_test : (b : Bool) → p x ≡ b → AllByRecursion (λ y. p y ≡ true) (filter p xs) → AllByRecursion (λ y. p y ≡ true) (cond b (x ∷ filter p xs) (filter p xs))
    by_test true e rest = (e, rest)
    by_test false e rest = rest

pub all-filter : {A : Type 0} (P : A → Type 0) (p : A → Bool) (xs : List A) → AllByRecursion P xs → AllByRecursion P (filter p xs)
all-filter P p [] all = tt
all-filter P p (x ∷ xs) all = by_test (p x) (all-filter P p xs all.1)
  where
    by_test : (b : Bool) → AllByRecursion P (filter p xs) → AllByRecursion P (cond b (x ∷ filter p xs) (filter p xs))
    by_test true rest = (all.0, rest)
    by_test false rest = rest

pub all-causeless : {A B : Type 0} (f : A → List B) (xs : List A) → flat_map f xs ≡ [] → AllByRecursion (λ x. f x ≡ []) xs
all-causeless f [] none = tt
all-causeless f (x ∷ xs) none = (front_none (f x) (flat_map f xs) none, all-causeless f xs (back_none (f x) (flat_map f xs) none))

pub left_true : (a b : Bool) → (a && b) ≡ true → a ≡ true
left_true true b both = refl
left_true false b both = cc

pub right_true : (a b : Bool) → (a && b) ≡ true → b ≡ true
right_true true b both = both
right_true false b both = cc

pub left_false : (a b : Bool) → (a || b) ≡ false → a ≡ false
left_false false b none = refl
left_false true b none = cc

pub right_false : (a b : Bool) → (a || b) ≡ false → b ≡ false
right_false false b none = none
right_false true b none = cc

pub all-none : {A : Type 0} (p : A → Bool) (xs : List A) → list_any p xs ≡ false → AllByRecursion (λ x. p x ≡ false) xs
all-none p [] none = tt
all-none p (x ∷ xs) none = (left_false (p x) (list_any p xs) none, all-none p xs (right_false (p x) (list_any p xs) none))

pub all-true : {A : Type 0} (p : A → Bool) (xs : List A) → list_all p xs ≡ true → AllByRecursion (λ x. p x ≡ true) xs
all-true p [] all = tt
all-true p (x ∷ xs) all = (left_true (p x) (list_all p xs) all, all-true p xs (right_true (p x) (list_all p xs) all))

pub some_kept : {A : Type 0} (p : A → Bool) (xs : List A) → list_any p xs ≡ true → 1 ≤ length (filter p xs)
some_kept p [] some = cc
some_kept p (x ∷ xs) some = by_test (p x) some (some_kept p xs)
  where
    by_test : (b : Bool) → (b || list_any p xs) ≡ true → (list_any p xs ≡ true → 1 ≤ length (filter p xs)) → 1 ≤ length (cond b (x ∷ filter p xs) (filter p xs))
    by_test true some rest = omega arith
    by_test false some rest = rest some
