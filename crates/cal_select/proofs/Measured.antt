-- sums, greatest numbers and shapes of phases, element by element
use Rattle.std.proofs.Common.{◌≡◌, ℕ, zero, suc, ◌+◌, ◌≤◌, max, List, [], ◌∷◌, length, map, take, Bool, true, false, cond, refl, sym, arith, Some, slice_get, add-one}
use Rattle.std.specs.Prelude.{filter, ◌&&◌, ◌||◌, sum, not, ◌==◌}
use Rattle.std.specs.List.{list_any, list_all, AllByRecursion}
use Rattle.std.proofs.lemmas.List.{length-map}
use Rattle.std.proofs.lemmas.List.Sums.{sum_by-cons}
use Rattle.cef_core.specs.Systems.{greatest}
use Rattle.std.specs.Prelude.{nat_lt}
use Rattle.std.specs.Option.{unwrap_or}
use Rattle.std.proofs.lemmas.Bool.Decides.{nat_tests}
use Rattle.cal_limits.specs.declared.TheConstants.{MOST_ENERGY}
use Rattle.cef_core.specs.declared.phase.PhaseAt.{PhaseAt}
use Rattle.cef_core.specs.Capped.{within}
use Rattle.cef_core.specs.Phases.{sigma}
use Rattle.cef_core.proofs.Capped.{within-yes}
use Rattle.cal_select.specs.declared.fault.SystemFault.TheVariants as faults
use Rattle.cal_select.specs.Causes.{cause_if, is_too_energetic, energy_causes}
use Rattle.cal_select.proofs.Firsts.{none-at, no_cause}
use Rattle.cef_core.proofs.Adding.{total}
use Rattle.tdb_read.specs.declared.phase.PhaseText.{PhaseText}
use Rattle.cal_select.specs.Chosen.{Word, is_in, is_kept, all_kept_of, sites_at, component_of, qualifies}

pub total-sum : {A : Type 0} (f : A → ℕ) (xs : List A) → total f xs ≡ sum (map f xs)
total-sum f [] = refl
total-sum f (x ∷ xs) = omega (arith, total-sum f xs, sum_by-cons (λ (n : ℕ). n) (f x) (map f xs))

greatest-on : {A : Type 0} (f : A → ℕ) (xs : List A) (i : ℕ) (x : A) → slice_get xs i ≡ Some x → greatest (map f (take (suc i) xs)) ≡ max (greatest (map f (take i xs))) (f x)
greatest-on f [] i x is = cc
greatest-on f (y ∷ xs) zero x is = let same : y ≡ x = cc in rw same (omega arith)
greatest-on f (y ∷ xs) (suc i) x is = omega (arith, greatest-on f xs i x is)

pub greatest-next : {A : Type 0} (f : A → ℕ) (xs : List A) (i most : ℕ) (x : A) → slice_get xs i ≡ Some x → most ≡ greatest (map f (take i xs)) → max most (f x) ≡ greatest (map f (take (i + 1) xs))
greatest-next f xs i most x is most_is = rw (most_is, add-one) (sym (greatest-on f xs i x is))

-- ---- the size of a phase that is within its limit

left_false : (a b : Bool) → (a || b) ≡ false → a ≡ false
left_false false b h = refl
left_false true b h = h

within_size : (n : ℕ) → nat_lt MOST_ENERGY n ≡ false → unwrap_or (within MOST_ENERGY n) 0 ≡ n
within_size n small = let le : n ≤ MOST_ENERGY = grind (arith, nat_tests) in rw (within-yes MOST_ENERGY n le) refl

pub allowed_size : (phases : List PhaseAt) (i : ℕ) (x : PhaseAt) → slice_get phases i ≡ Some x → energy_causes phases ≡ [] → unwrap_or (within MOST_ENERGY (sigma x)) 0 ≡ sigma x
allowed_size phases i x is none =
    let here = none-at (λ (phase : PhaseAt). cause_if (is_too_energetic phase) (faults.EnergyTooLarge phase.name)) phases i x is none in
    let fits = no_cause (is_too_energetic x) (faults.EnergyTooLarge x.name) here in
    within_size (sigma x) (left_false (nat_lt MOST_ENERGY (sigma x)) _ fits)

-- ---- each sublattice of a selected phase keeps a constituent

some_kept : {A : Type 0} (p : A → Bool) (xs : List A) → list_any p xs ≡ true → 1 ≤ length (filter p xs)
some_kept p [] some = cc
some_kept p (x ∷ xs) some = by_test (p x) some (some_kept p xs)
  where
    by_test : (b : Bool) → (b || list_any p xs) ≡ true → (list_any p xs ≡ true → 1 ≤ length (filter p xs)) → 1 ≤ length (cond b (x ∷ filter p xs) (filter p xs))
    by_test true some rest = omega arith
    by_test false some rest = rest some

left_true : (a b : Bool) → (a && b) ≡ true → a ≡ true
left_true true b both = refl
left_true false b both = cc

right_true : (a b : Bool) → (a && b) ≡ true → b ≡ true
right_true true b both = both
right_true false b both = cc

whole_sites : (components : List Word) (sites : List (List Word)) → list_all (list_any (is_kept components)) sites ≡ true → AllByRecursion (λ sublattice. 1 ≤ length sublattice) (sites_at components (all_kept_of components sites))
whole_sites components [] all = tt
whole_sites components (names ∷ sites) all =
    let here : list_any (is_kept components) names ≡ true = left_true (list_any (is_kept components) names) (list_all (list_any (is_kept components)) sites) all in
    let there : list_all (list_any (is_kept components)) sites ≡ true = right_true (list_any (is_kept components) names) (list_all (list_any (is_kept components)) sites) all in
    (omega (arith, length-map (filter (is_kept components) names) (component_of components), some_kept (is_kept components) names here), whole_sites components sites there)

pub selected_sites : (components : List Word) (text : PhaseText) → qualifies components text ≡ true → AllByRecursion (λ sublattice. 1 ≤ length sublattice) (sites_at components (all_kept_of components text.sites))
selected_sites components text qualified =
    let rest = right_true (not (length text.sites == 0)) (list_all (list_any (is_kept components)) text.sites && list_any (list_any (is_in components)) text.sites) qualified in
    whole_sites components text.sites (left_true (list_all (list_any (is_kept components)) text.sites) (list_any (list_any (is_in components)) text.sites) rest)
