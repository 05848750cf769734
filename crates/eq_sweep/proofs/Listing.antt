-- All lists of a phase stand in its listing.
use Rattle.std.proofs.Common.{◌≡◌, ℕ, zero, suc, ◌+◌, ◌-◌, ◌*◌, ◌≤◌, ◌<◌, ◌⊎◌, inl, inr, List, [], ◌∷◌, ◌++◌, length, map, refl, ap, sym, ◌∙◌, subst, arith}
use Rattle.std.specs.Prelude.{Option, sum}
use Rattle.std.proofs.lemmas.List.Sums.{sum_by-cons}
use Rattle.cef_core.specs.declared.phase.PhaseAt.{PhaseAt}
use Rattle.cef_core.specs.Constitutions.{HasShape}
use Rattle.cef_core.specs.Points.{in_front_of, with_first, counts_of, in_front, lists_of, number_of, points_of, points_in}
use Rattle.cef_core.specs.Shapes.{shape}
use Rattle.cef_core.proofs.Counting.{length-in_front}

-- x is an element
abbrev pub Has : {A : Type 0} → List A → A → Type 0
Has [] x = ⊥
Has (y ∷ xs) x = (y ≡ x) ⊎ Has xs x

pub has_left : {A : Type 0} (xs ys : List A) (x : A) → Has xs x → Has (xs ++ ys) x
has_left [] ys x h = absurd h
has_left (y ∷ xs) ys x (inl e) = inl e
has_left (y ∷ xs) ys x (inr h) = inr (has_left xs ys x h)

pub has_right : {A : Type 0} (xs ys : List A) (x : A) → Has ys x → Has (xs ++ ys) x
has_right [] ys x h = h
has_right (y ∷ xs) ys x h = inr (has_right xs ys x h)

pub has_image : {A B : Type 0} (f : A → B) (xs : List A) (x : A) → Has xs x → Has (map f xs) (f x)
has_image f [] x h = absurd h
has_image f (y ∷ xs) x (inl e) = inl (ap f e)
has_image f (y ∷ xs) x (inr h) = inr (has_image f xs x h)

at_most : (k most : ℕ) → k ≤ suc most → (k ≤ most) ⊎ (k ≡ suc most)
at_most zero most le = inl (omega arith)
at_most (suc k) zero le = inr (omega (arith, le))
at_most (suc k) (suc most) le = elim (at_most k most (omega (arith, le))) [ inl a ↦ inl (omega (arith, a)) | inr e ↦ inr (ap suc e) ]

with_first_has : (others : ℕ → List (List ℕ)) (total most k : ℕ) (counts : List ℕ) → k ≤ most → Has (others (total - k)) counts → Has (with_first others total most) (k ∷ counts)
with_first_has others total zero zero counts le h = has_image (λ (ks : List ℕ). zero ∷ ks) (others total) counts (subst (λ (n : ℕ). Has (others n) counts) (omega arith) h)
with_first_has others total zero (suc k) counts le h = absurd (omega (arith, le))
with_first_has others total (suc most) k counts le h = elim (at_most k most le) [
  | inl a ↦ has_left (with_first others total most) (in_front_of (suc most) (others (total - suc most))) (k ∷ counts) (with_first_has others total most k counts a h)
  | inr e ↦ has_right (with_first others total most) (in_front_of (suc most) (others (total - suc most))) (k ∷ counts)
      (subst (λ (j : ℕ). Has (in_front_of (suc most) (others (total - suc most))) (j ∷ counts)) (sym e)
      (has_image (λ (ks : List ℕ). suc most ∷ ks) (others (total - suc most)) counts (subst (λ (j : ℕ). Has (others (total - j)) counts) e h)))
]

sum_cons : (k : ℕ) (counts : List ℕ) → sum (k ∷ counts) ≡ k + sum counts
sum_cons k counts = sum_by-cons (λ (x : ℕ). x) k counts

counts_of-has : (n total : ℕ) (counts : List ℕ) → length counts ≡ n → sum counts ≡ total → Has (counts_of n total) counts
counts_of-has zero zero [] size adds = inl refl
counts_of-has zero (suc total) [] size adds = absurd (omega (arith, adds))
counts_of-has zero total (k ∷ counts) size adds = absurd (omega (arith, size))
counts_of-has (suc n) total [] size adds = absurd (omega (arith, size))
counts_of-has (suc n) total (k ∷ counts) size adds =
    with_first_has (counts_of n) total total k counts (omega (arith, adds, sum_cons k counts)) (counts_of-has n (total - k) counts (omega (arith, size)) (omega (arith, adds, sum_cons k counts)))

in_front-has : (xs : List (List ℕ)) (others : List (List (List ℕ))) (counts : List ℕ) (more : List (List ℕ)) → Has xs counts → Has others more → Has (in_front xs others) (counts ∷ more)
in_front-has [] others counts more h g = absurd h
in_front-has (x ∷ xs) others counts more (inl e) g =
    has_left (map (λ (rest : List (List ℕ)). x ∷ rest) others) (in_front xs others) (counts ∷ more) (subst (λ (y : List ℕ). Has (map (λ (rest : List (List ℕ)). x ∷ rest) others) (y ∷ more)) e (has_image (λ (rest : List (List ℕ)). x ∷ rest) others more g))
in_front-has (x ∷ xs) others counts more (inr h) g =
    has_right (map (λ (rest : List (List ℕ)). x ∷ rest) others) (in_front xs others) (counts ∷ more) (in_front-has xs others counts more h g)

lists_of-has : (n : ℕ) (sites : List (List (Option ℕ))) (counts : List (List ℕ)) → HasShape n sites counts → Has (lists_of n (shape sites)) counts
lists_of-has n [] [] shaped = inl refl
lists_of-has n [] (k ∷ counts) shaped = absurd shaped
lists_of-has n (row ∷ sites) [] shaped = absurd shaped
lists_of-has n (row ∷ sites) (k ∷ counts) shaped = in_front-has (counts_of (length row) n) (lists_of n (shape sites)) k counts (counts_of-has (length row) n k shaped.0 shaped.1) (lists_of-has n sites counts shaped.2)

-- the listing of a phase
abbrev pub all_lists : PhaseAt → List (List (List ℕ))
all_lists phase = lists_of phase.lattice (shape phase.sites)

pub list_is_listed : (phase : PhaseAt) (counts : List (List ℕ)) → HasShape phase.lattice phase.sites counts → Has (all_lists phase) counts
list_is_listed phase counts shaped = lists_of-has phase.lattice phase.sites counts shaped

length-lists_of : (n : ℕ) (widths : List ℕ) → length (lists_of n widths) ≡ points_of n widths
unfolding number_of
length-lists_of n [] = refl
length-lists_of n (w ∷ widths) = length-in_front (counts_of w n) (lists_of n widths) ∙ ap (λ (k : ℕ). length (counts_of w n) * k) (length-lists_of n widths)

-- how many there are
pub length-all_lists : (phase : PhaseAt) → length (all_lists phase) ≡ points_in phase
length-all_lists phase = length-lists_of phase.lattice (shape phase.sites)
