-- one more element of a list that is filtered
use Rattle.std.proofs.Common.{◌≡◌, ℕ, zero, suc, ◌+◌, List, [], ◌∷◌, ◌++◌, Some, slice_get, take, map, refl, ap, ◌∙◌, add-one, sym, true, false, Bool}
use Rattle.std.specs.Prelude.{filter, cond}
use Rattle.std.specs.List.{AllByRecursion}

kept_behind : {A B : Type 0} (f : A → B) (b : Bool) (y : A) (us vs : List A) (z : B) → map f us ≡ map f vs ++ z ∷ [] → map f (cond b (y ∷ us) us) ≡ map f (cond b (y ∷ vs) vs) ++ z ∷ []
kept_behind {B = B} f true y us vs z e = ap (λ (ws : List B). f y ∷ ws) e
kept_behind f false y us vs z e = e

kept : {A B : Type 0} (f : A → B) (p : A → Bool) (xs : List A) (i : ℕ) (x : A) → slice_get xs i ≡ Some x → p x ≡ true → map f (filter p (take (suc i) xs)) ≡ map f (filter p (take i xs)) ++ f x ∷ []
kept f p [] i x e h = cc
kept f p (y ∷ ys) zero x e h = let same : y ≡ x = cc in rw (same, h) refl
kept f p (y ∷ ys) (suc i) x e h = kept_behind f (p y) y (filter p (take (suc i) ys)) (filter p (take i ys)) (f x) (kept f p ys i x e h)

left_out : {A : Type 0} (p : A → Bool) (xs : List A) (i : ℕ) (x : A) → slice_get xs i ≡ Some x → p x ≡ false → filter p (take (suc i) xs) ≡ filter p (take i xs)
left_out p [] i x e h = cc
left_out p (y ∷ ys) zero x e h = let same : y ≡ x = cc in rw (same, h) refl
left_out {A = A} p (y ∷ ys) (suc i) x e h = ap (λ (zs : List A). cond (p y) (y ∷ zs) zs) (left_out p ys i x e h)

-- the image of what is kept of one more element
pub kept-next : {A B : Type 0} (f : A → B) (p : A → Bool) (xs : List A) (i : ℕ) (x : A) (old new : List B) → slice_get xs i ≡ Some x → p x ≡ true → old ≡ map f (filter p (take i xs)) → new ≡ old ++ f x ∷ [] → new ≡ map f (filter p (take (i + 1) xs))
kept-next f p xs i x old new is yes_x o n = n ∙ rw (o, add-one) (sym (kept f p xs i x is yes_x))

pub left_out-next : {A B : Type 0} (f : A → B) (p : A → Bool) (xs : List A) (i : ℕ) (x : A) (old : List B) → slice_get xs i ≡ Some x → p x ≡ false → old ≡ map f (filter p (take i xs)) → old ≡ map f (filter p (take (i + 1) xs))
left_out-next f p xs i x old is no_x o = o ∙ rw add-one (ap (map f) (sym (left_out p xs i x is no_x)))

pub AllByRecursion-append : {A : Type 0} (P : A → Type 0) (xs : List A) (x : A) → AllByRecursion P xs → P x → AllByRecursion P (xs ++ x ∷ [])
AllByRecursion-append P [] x all p = (p, tt)
AllByRecursion-append P (y ∷ ys) x all p = (all.0, AllByRecursion-append P ys x all.1 p)
