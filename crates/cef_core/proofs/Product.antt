-- the lists of several sublattices, within the limit
use Rattle.std.proofs.Common.{◌≡◌, ℕ, zero, suc, ◌+◌, ◌*◌, ◌^◌, ◌≤◌, ◌<◌, List, [], ◌∷◌, ◌++◌, length, map, take, drop, Option, Some, None, slice_get, get_or, refl, sym, ap, ◌∙◌, arith, add-one, mul_assoc, mul_comm}
use Rattle.std.specs.List.{AllByRecursion}
use Rattle.std.proofs.Math.Nat.{mul-le-mul_left}
use Rattle.std.proofs.lemmas.Nat.{mul-le}
use Rattle.std.proofs.lemmas.Option.{slice_get_read}
use Rattle.cef_core.specs.Capped.{within}
use Rattle.cef_core.specs.Points.{number_of, points_of, lists_of, counts_of, in_front}
use Rattle.cef_core.proofs.Capped.{within-yes, within-no, within-some, within-none, number_of-rises, number_of-one}
use Rattle.cef_core.proofs.Counting.{length-in_front}

pub length-lists_of : (n : ℕ) (sites : List ℕ) → length (lists_of n sites) ≡ points_of n sites
unfolding number_of
length-lists_of n [] = refl
length-lists_of n (s ∷ sites) = length-in_front (counts_of s n) (lists_of n sites) ∙ ap (λ (m : ℕ). length (counts_of s n) * m) (length-lists_of n sites)

pub number_of-some : (sites n : ℕ) → 1 ≤ sites → 1 ≤ number_of sites n
number_of-some sites n some = omega (arith, number_of-rises 1 sites n some, number_of-one n)

abbrev pub Sized : {A : Type 0} → List A → Type 0
Sized sublattice = 1 ≤ length sublattice

points-some : {A : Type 0} (n : ℕ) (sites : List (List A)) → AllByRecursion Sized sites → 1 ≤ points_of n (map length sites)
points-some n [] all = omega arith
points-some n (s ∷ sites) all =
    let here = number_of-some (length s) n all.0 in
    let there = points-some n sites all.1 in
    omega (arith, mul-le 1 1 (number_of (length s) n) (points_of n (map length sites)) here there)

pub points-next : {A : Type 0} (n : ℕ) (sites : List (List A)) (i : ℕ) (s : List A) → slice_get sites i ≡ Some s → points_of n (map length (take (suc i) sites)) ≡ points_of n (map length (take i sites)) * number_of (length s) n
points-next n [] i s is = cc
points-next n (t ∷ sites) zero s is = let same : t ≡ s = cc in rw same (omega arith)
points-next n (t ∷ sites) (suc i) s is =
    ap (λ (m : ℕ). number_of (length t) n * m) (points-next n sites i s is) ∙ sym (mul_assoc (number_of (length t) n) (points_of n (map length (take i sites))) (number_of (length s) n))

pub points-rise : {A : Type 0} (n : ℕ) (sites : List (List A)) (i : ℕ) → AllByRecursion Sized sites → points_of n (map length (take i sites)) ≤ points_of n (map length sites)
points-rise n [] zero all = omega arith
points-rise n [] (suc i) all = omega arith
points-rise n (t ∷ sites) zero all = points-some n (t ∷ sites) all
points-rise n (t ∷ sites) (suc i) all = mul-le-mul_left (number_of (length t) n) (points-rise n sites i all.1)

-- no lists of one sublattice within the limit: none with another beside them
pub more-none : (points sites n : ℕ) → 1 ≤ points → None ≡ within (2 ^ 40) (number_of sites n) → None ≡ within (2 ^ 40) (points * number_of sites n)
more-none points sites n some is =
    let above : 2 ^ 40 < number_of sites n = within-none (2 ^ 40) (number_of sites n) (sym is) in
    sym (within-no (2 ^ 40) (points * number_of sites n) (omega (arith, above, mul-le 1 (number_of sites n) points (number_of sites n) some (omega arith))))

-- one more sublattice within the limit
pub points-on : {A : Type 0} (n : ℕ) (sites : List (List A)) (i points next : ℕ) (s : List A) → i < length sites → s ≡ get_or sites i s → points ≡ points_of n (map length (take i sites)) → Some next ≡ within (2 ^ 40) (points * number_of (length s) n) → (next ≡ points_of n (map length (take (i + 1) sites))) × (next ≤ 2 ^ 40)
points-on n sites i points next s more is counted next_is =
    let both = within-some (2 ^ 40) (points * number_of (length s) n) next (sym next_is) in
    (both.0 ∙ rw (counted, add-one) (sym (points-next n sites i s (slice_get_read sites (length sites) i s refl more is))), omega (arith, both.0, both.1))

-- one more that is not
pub points-none : {A : Type 0} (n : ℕ) (sites : List (List A)) (i points : ℕ) (s : List A) → AllByRecursion Sized sites → i < length sites → s ≡ get_or sites i s → points ≡ points_of n (map length (take i sites)) → None ≡ within (2 ^ 40) (points * number_of (length s) n) → None ≡ within (2 ^ 40) (points_of n (map length sites))
points-none n sites i points s all more is counted none_is =
    let above : 2 ^ 40 < points * number_of (length s) n = within-none (2 ^ 40) (points * number_of (length s) n) (sym none_is) in
    let e : points * number_of (length s) n ≡ points_of n (map length (take (suc i) sites)) = rw counted (sym (points-next n sites i s (slice_get_read sites (length sites) i s refl more is))) in
    sym (within-no (2 ^ 40) (points_of n (map length sites)) (omega (arith, e, above, points-rise n sites (suc i) all)))

-- each element below an index
pub at_index : {A : Type 0} (sites : List (List A)) (i : ℕ) (s : List A) → AllByRecursion Sized sites → slice_get sites i ≡ Some s → Sized s
at_index [] i s all is = cc
at_index (t ∷ sites) zero s all is = let same : s ≡ t = cc in rw same all.0
at_index (t ∷ sites) (suc i) s all is = at_index sites i s all.1 is

Sized-take : {A : Type 0} (sites : List (List A)) (i : ℕ) → AllByRecursion Sized sites → AllByRecursion Sized (take i sites)
Sized-take [] zero all = tt
Sized-take [] (suc i) all = tt
Sized-take (t ∷ sites) zero all = tt
Sized-take (t ∷ sites) (suc i) all = (all.0, Sized-take sites i all.1)

pub points-at : {A : Type 0} (n : ℕ) (sites : List (List A)) (i points : ℕ) → AllByRecursion Sized sites → points ≡ points_of n (map length (take (i + 1) sites)) → 1 ≤ points
points-at n sites i points all is = omega (arith, is, points-some n (take (i + 1) sites) (Sized-take sites (i + 1) all))
