-- sums over lists, within a limit
use Rattle.std.proofs.Common.{◌≡◌, ℕ, zero, suc, ◌+◌, ◌≤◌, ◌<◌, List, [], ◌∷◌, length, take, Option, Some, None, slice_get, refl, sym, ap, ◌∙◌, arith, add-one, Bool, cond, unsigned_abs}
use Rattle.std.proofs.lemmas.List.{take_all}
use Rattle.cef_kind.specs.declared.kind.Kind.{Kind}
use Rattle.cef_core.specs.declared.phase.ParamAt.{ParamAt}
use Rattle.cef_core.specs.Phases.{magnitudes}
use Rattle.cef_core.specs.Capped.{within}
use Rattle.cef_core.proofs.Capped.{within-yes, within-no, within-some, within-none}

-- the sum of f over a list
abbrev pub total : {A : Type 0} → (A → ℕ) → List A → ℕ
total f [] = 0
total f (x ∷ xs) = f x + total f xs

total-next : {A : Type 0} (f : A → ℕ) (xs : List A) (i : ℕ) (x : A) → slice_get xs i ≡ Some x → total f (take (suc i) xs) ≡ total f (take i xs) + f x
total-next f [] i x is = cc
total-next f (y ∷ xs) zero x is = let same : y ≡ x = cc in rw same (omega arith)
total-next f (y ∷ xs) (suc i) x is = omega (arith, total-next f xs i x is)

total-rise : {A : Type 0} (f : A → ℕ) (xs : List A) (i : ℕ) → total f (take i xs) ≤ total f xs
total-rise f [] zero = omega arith
total-rise f [] (suc i) = omega arith
total-rise f (y ∷ xs) zero = omega arith
total-rise f (y ∷ xs) (suc i) = omega (arith, total-rise f xs i)

-- one more summand within the limit
pub adding-on : {A : Type 0} (f : A → ℕ) (xs : List A) (limit i now next : ℕ) (x : A) → slice_get xs i ≡ Some x → now ≡ total f (take i xs) → Some next ≡ within limit (now + f x) → (next ≡ total f (take (i + 1) xs)) × (next ≤ limit)
adding-on f xs limit i now next x is counted next_is =
    let both = within-some limit (now + f x) next (sym next_is) in
    (both.0 ∙ rw (counted, add-one) (sym (total-next f xs i x is)), omega (arith, both.0, both.1))

-- one more that is not
pub adding-none : {A : Type 0} (f : A → ℕ) (xs : List A) (limit i now : ℕ) (x : A) → slice_get xs i ≡ Some x → now ≡ total f (take i xs) → None ≡ within limit (now + f x) → None ≡ within limit (total f xs)
adding-none f xs limit i now x is counted none_is =
    let above : limit < now + f x = within-none limit (now + f x) (sym none_is) in
    let e : now + f x ≡ total f (take (suc i) xs) = rw counted (sym (total-next f xs i x is)) in
    sym (within-no limit (total f xs) (omega (arith, e, above, total-rise f xs (suc i))))

pub adding-all : {A : Type 0} (f : A → ℕ) (xs : List A) (limit i now : ℕ) → length xs ≤ i → now ≡ total f (take i xs) → now ≤ limit → Some now ≡ within limit (total f xs)
adding-all f xs limit i now all counted small =
    let e : now ≡ total f xs = counted ∙ ap (total f) (take_all i xs all) in
    ap Some e ∙ sym (within-yes limit (total f xs) (omega (arith, e, small)))

-- the magnitude of a parameter of a kind
abbrev pub magnitude_of : (Kind → Bool) → ParamAt → ℕ
magnitude_of is_kind p = cond (is_kind p.kind) (unsigned_abs p.micro) 0

pub magnitudes-total : (is_kind : Kind → Bool) (ps : List ParamAt) → total (magnitude_of is_kind) ps ≡ magnitudes is_kind ps
magnitudes-total is_kind [] = refl
magnitudes-total is_kind (p ∷ ps) = ap (λ (n : ℕ). magnitude_of is_kind p + n) (magnitudes-total is_kind ps)

-- one more part of a sum that has a limit
pub within-more : (limit a b : ℕ) → None ≡ within limit a → None ≡ within limit (a + b)
within-more limit a b none = sym (within-no limit (a + b) (omega (arith, within-none limit a (sym none))))
