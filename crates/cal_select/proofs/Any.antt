-- whether some element passes a test, element by element
use Rattle.std.proofs.Common.{◌≡◌, ℕ, zero, suc, ◌+◌, List, [], ◌∷◌, take, Some, Bool, true, false, cond, refl, add-one, slice_get}
use Rattle.std.specs.Prelude.{◌||◌, is_some}
use Rattle.std.specs.List.{list_any}
use Rattle.std.specs.Map.{lookup}

either_false : (a b : Bool) → a ≡ false → b ≡ false → (a || b) ≡ false
either_false false false h g = refl
either_false false true h g = g
either_false true b h g = h

left_false : (a b : Bool) → (a || b) ≡ false → a ≡ false
left_false false b h = refl
left_false true b h = h

right_false : (a b : Bool) → (a || b) ≡ false → b ≡ false
right_false false b h = h
right_false true b h = cc

right_true : (a b : Bool) → b ≡ true → (a || b) ≡ true
right_true false b h = h
right_true true b h = refl

on : {A : Type 0} (p : A → Bool) (xs : List A) (i : ℕ) (x : A) → slice_get xs i ≡ Some x → list_any p (take i xs) ≡ false → p x ≡ false → list_any p (take (suc i) xs) ≡ false
on p [] i x is none no_x = cc
on p (y ∷ ys) zero x is none no_x = let same : y ≡ x = cc in rw (same, no_x) refl
on p (y ∷ ys) (suc i) x is none no_x =
    either_false (p y) (list_any p (take (suc i) ys)) (left_false (p y) (list_any p (take i ys)) none)
    (on p ys i x is (right_false (p y) (list_any p (take i ys)) none) no_x)

pub any-next : {A : Type 0} (p : A → Bool) (xs : List A) (i : ℕ) (x : A) → slice_get xs i ≡ Some x → list_any p (take i xs) ≡ false → p x ≡ false → list_any p (take (i + 1) xs) ≡ false
any-next p xs i x is none no_x = rw add-one (on p xs i x is none no_x)

pub any-found : {A : Type 0} (p : A → Bool) (xs : List A) (i : ℕ) (x : A) → slice_get xs i ≡ Some x → p x ≡ true → list_any p xs ≡ true
any-found p [] i x is yes_x = cc
any-found p (y ∷ ys) zero x is yes_x = let same : y ≡ x = cc in rw (same, yes_x) refl
any-found p (y ∷ ys) (suc i) x is yes_x = right_true (p y) (list_any p ys) (any-found p ys i x is yes_x)

-- a look-up finds something where some key passes
pub lookup-any : {K X : Type 0} (p : K → Bool) (es : List (K × X)) → is_some (lookup p es) ≡ list_any (λ e. p e.0) es
lookup-any p [] = refl
lookup-any p (e ∷ es) = by_test (p e.0) (lookup-any p es)
  where
    by_test : (b : Bool) → is_some (lookup p es) ≡ list_any (λ d. p d.0) es → is_some (cond b (Some e.1) (lookup p es)) ≡ (b || list_any (λ d. p d.0) es)
    by_test true h = refl
    by_test false h = h
