-- A system within its limits has room for its plans.
use Rattle.std.proofs.Common.{◌≡◌, ℕ, zero, suc, ◌+◌, ◌*◌, ◌^◌, ◌<◌, ◌≤◌, List, [], ◌∷◌, Option, Some, None, Bool, true, false, length, map, get_or, max, refl, arith, ap, sym, ◌∙◌, subst, inl, inr}
use Rattle.std.specs.Prelude.{ℤ, pos, ◌≤ℤ◌, unsigned_abs, All, sum, slice_get, nat_eq, ◌==◌, ◌||◌}
use Rattle.std.specs.List.{AllByRecursion, list_any}
use Rattle.std.proofs.lemmas.Int.{ints}
use Rattle.std.proofs.lemmas.Bool.{cases_lt, eqb-true}
use Rattle.std.proofs.lemmas.List.{length-map}
use Rattle.std.proofs.lemmas.List.Sums.{sum_by-cons}
use Rattle.std.proofs.lemmas.Nat.{mul-le}
use Rattle.cal_math.specs.Sums.{sum_below}
use Rattle.cal_math.specs.Vectors.{sum_to}
use Rattle.cal_math.proofs.Vectors.{sum-same, sum-above}
use Rattle.cef_core.specs.declared.lattice.TheConstants.{LATTICES}
use Rattle.cef_core.specs.declared.phase.PhaseAt.{PhaseAt}
use Rattle.cef_core.specs.declared.system.System.{System}
use Rattle.cef_core.specs.Constitutions.{HasShape, IsConstitution, weight_of, content_of_counts, content_over, content}
use Rattle.cef_core.specs.Energies.{energy}
use Rattle.cef_core.specs.Lattices.{is_lattice}
use Rattle.cef_core.specs.Phases.{IsFine, sigma}
use Rattle.cef_core.specs.Sizes.{content_small}
use Rattle.cef_core.specs.Systems.{IsAmong, IsPhaseOf, IsSystem, greatest, dearest_of, widest_of}
use Rattle.cef_phase.specs.Sizes.{energy_size}
use Rattle.cef_report.specs.declared.entry.Entry.{Entry}
use Rattle.cef_report.specs.Assemblages.{content_of, energy_of}
use Rattle.eq_solve.specs.Points.{IsConstitutionOf, IsListOf, IsShaped, IsSized, site_count}

one_of : (n : ℕ) (ls : List ℕ) → list_any (λ l. n == l) ls ≡ true → AllByRecursion (λ l. (10 ≤ l) × (l ≤ 1000)) ls → (10 ≤ n) × (n ≤ 1000)
one_of n [] is all = absurd cc
one_of n (l ∷ ls) is all = by_test (n == l) refl is (one_of n ls)
  where
    by_test : (b : Bool) → (n == l) ≡ b → (b || list_any (λ l. n == l) ls) ≡ true → (list_any (λ l. n == l) ls ≡ true → AllByRecursion (λ l. (10 ≤ l) × (l ≤ 1000)) ls → (10 ≤ n) × (n ≤ 1000)) → (10 ≤ n) × (n ≤ 1000)
    by_test true here is behind = rw (eqb-true n l here) all.0
    by_test false here is behind = behind is all.1

pub lattice_within : (n : ℕ) → is_lattice n ≡ true → (10 ≤ n) × (n ≤ 1000)
lattice_within n is = one_of n LATTICES is within
  where
    within : AllByRecursion (λ l. (10 ≤ l) × (l ≤ 1000)) LATTICES
    within = search (arith)

-- ---- what holds of all phases, at a place

pub all_at : {X : Type 0} (P : X → Type 0) (xs : List X) (k : ℕ) (x : X) → AllByRecursion P xs → slice_get xs k ≡ Some x → P x
all_at P [] k x all is = absurd cc
all_at P (y ∷ xs) zero x all is = let e : y ≡ x = cc in subst P e all.0
all_at P (y ∷ xs) (suc k) x all is = all_at P xs k x all.1 is

greatest-le : (xs : List ℕ) (m : ℕ) → AllByRecursion (λ x. x ≤ m) xs → greatest xs ≤ m
greatest-le [] m all = omega arith
greatest-le (x ∷ xs) m all = omega (arith, all.0, greatest-le xs m all.1)

pub le-greatest : {X : Type 0} (f : X → ℕ) (xs : List X) (k : ℕ) (x : X) → slice_get xs k ≡ Some x → f x ≤ greatest (map f xs)
le-greatest f [] k x is = absurd cc
le-greatest f (y ∷ xs) zero x is = let e : y ≡ x = cc in subst (λ z. f z ≤ max (f y) (greatest (map f xs))) e (omega arith)
le-greatest f (y ∷ xs) (suc k) x is = omega (arith, le-greatest f xs k x is)

all_map : {X : Type 0} (f : X → ℕ) (P : X → Type 0) (m : ℕ) (xs : List X) → ((x : X) → P x → f x ≤ m) → AllByRecursion P xs → AllByRecursion (λ y. y ≤ m) (map f xs)
all_map f P m [] h all = tt
all_map f P m (x ∷ xs) h all = (h x all.0, all_map f P m xs h all.1)

-- ---- contents

sum_is : (n : ℕ) (f : ℕ → ℕ) → sum_to n (λ c. pos (f c)) ≡ pos (sum_below n f)
sum_is zero f = refl
sum_is (suc n) f = omega (arith, ints, sum_is n f)

weight_past : (n c ratio : ℕ) (site : Option ℕ) → n ≤ c → IsAmong n site → weight_of c ratio site ≡ 0
weight_past n c ratio None le among = refl
weight_past n c ratio (Some d) le among = by_test (nat_eq c d) refl
  where
    by_test : (b : Bool) → nat_eq c d ≡ b → weight_of c ratio (Some d) ≡ 0
    by_test true e = absurd (omega (arith, le, among, eqb-true c d e))
    by_test false e = rw e refl

row_past : (n c ratio : ℕ) (sites : List (Option ℕ)) (counts : List ℕ) → n ≤ c → AllByRecursion (IsAmong n) sites → content_of_counts c ratio sites counts ≡ 0
row_past n c ratio [] counts le among = refl
row_past n c ratio (site ∷ sites) [] le among = refl
row_past n c ratio (site ∷ sites) (k ∷ counts) le among = rw (weight_past n c ratio site le among.0) (omega (arith, row_past n c ratio sites counts le among.1))

content_past : (n c : ℕ) (ratios : List ℕ) (sites : List (List (Option ℕ))) (counts : List (List ℕ)) → n ≤ c → AllByRecursion (AllByRecursion (IsAmong n)) sites → content_over c ratios sites counts ≡ 0
content_past n c [] sites counts le among = refl
content_past n c (ratio ∷ ratios) [] counts le among = refl
content_past n c (ratio ∷ ratios) (row ∷ rest) [] le among = refl
content_past n c (ratio ∷ ratios) (row ∷ rest) (ks ∷ more) le among = omega (arith, row_past n c ratio row ks le among.0, content_past n c ratios rest more le among.1)

content_holds : (n : ℕ) (phase : PhaseAt) (counts : List (List ℕ)) → AllByRecursion (AllByRecursion (IsAmong n)) phase.sites → IsConstitution phase counts → pos 1 ≤ℤ sum_to n (content phase counts)
unfolding content
content_holds n phase counts among is =
    elim (cases_lt is.some.0 n) [
      | inl lt ↦ sum-above n is.some.0 (λ c. pos (content_over c phase.ratios phase.sites counts)) lt (λ c less. omega (arith, ints)) (omega (arith, ints, is.some.1))
      | inr le ↦ absurd (omega (arith, is.some.1, content_past n is.some.0 phase.ratios phase.sites counts le among))
    ]

content_narrow : (n : ℕ) (phase : PhaseAt) (counts : List (List ℕ)) → HasShape phase.lattice phase.sites counts → sum_to n (content phase counts) ≤ℤ pos (phase.lattice * sum phase.ratios)
unfolding content
content_narrow n phase counts shape =
    let sums : sum_to n (λ c. pos (content_over c phase.ratios phase.sites counts)) ≡ pos (sum_below n (λ c. content_over c phase.ratios phase.sites counts)) = sum_is n (λ c. content_over c phase.ratios phase.sites counts) in
    omega (arith, ints, sums, content_small n phase counts shape)

sites_counted : (sites : List (List (Option ℕ))) → site_count sites ≡ sum (map length sites)
sites_counted [] = refl
sites_counted (row ∷ sites) = omega (arith, sites_counted sites, sum_by-cons (λ (x : ℕ). x) (length row) (map length sites))

shaped : (system : System) (phase : PhaseAt) → IsPhaseOf system phase → IsShaped phase
shaped system phase is = record {
  lattice = (lattice_within phase.lattice is.fine.keeps.lattice).1;
  some = is.fine.keeps.site_each;
  few = omega (arith, is.fine.sites, sites_counted phase.sites);
}

ratios_some : (ratios : List ℕ) → 1 ≤ length ratios → AllByRecursion (λ a. 1 ≤ a) ratios → 1 ≤ sum ratios
ratios_some [] one all = absurd (omega (arith, one))
ratios_some (a ∷ ratios) one all = omega (arith, all.0, sum_by-cons (λ (x : ℕ). x) a ratios)

pub all_indexed : {X : Type 0} (P Q : X → Type 0) (xs : List X) → ((x : X) → P x → Q x) → AllByRecursion P xs → All Q xs
all_indexed P Q [] h all k d lt = absurd (omega arith)
all_indexed P Q (x ∷ xs) h all zero d lt = h x all.0
all_indexed P Q (x ∷ xs) h all (suc k) d lt = all_indexed P Q xs h all.1 k d (omega arith)

-- the first phase
pub record First (system : System) : Type 0 where
  pub phase : PhaseAt
  pub is : slice_get system.phases 0 ≡ Some phase

pub first_phase : (system : System) → IsSystem system → First system
first_phase system is = by_list system.phases refl (omega (arith, is.names.present, length-map system.phases (λ phase. phase.name)))
  where
    by_list : (phases : List PhaseAt) → system.phases ≡ phases → 0 < length phases → First system
    by_list [] e lt = absurd (omega (arith, lt))
    by_list (phase ∷ phases) e lt = record { phase = phase; is = rw e refl }

pub sized : (system : System) → IsSystem system → IsSized system
sized system is =
    let n : ℕ = length system.elements in
    let W : ℕ = system.widest in
    let first = first_phase system is in
    let one : IsPhaseOf system first.phase = all_at (IsPhaseOf system) system.phases 0 first.phase is.phases first.is in
    let lattice : (10 ≤ system.lattice) × (system.lattice ≤ 1000) = rw (← one.same_lattice) (lattice_within first.phase.lattice one.fine.keeps.lattice) in
    let ratio_sum : PhaseAt → ℕ = λ phase. sum phase.ratios in
    let top : ℕ = greatest (map ratio_sum system.phases) in
    let some_ratio : 1 ≤ top = omega (arith, le-greatest ratio_sum system.phases 0 first.phase first.is, ratios_some first.phase.ratios (omega (arith, one.fine.keeps.ratio_each, one.fine.keeps.sublattices_low)) one.fine.keeps.ratios_low) in
    let few_ratios : top ≤ 100000 = greatest-le (map ratio_sum system.phases) 100000 (all_map ratio_sum (IsPhaseOf system) 100000 system.phases (λ phase p. p.fine.keeps.ratios_high) is.phases) in
    let wide_is : W ≡ system.lattice * top = is.widest_is in
    let low : 1 * 1 ≤ system.lattice * top = mul-le 1 1 system.lattice top (omega (arith, lattice.0)) some_ratio in
    let high : system.lattice * top ≤ 1000 * 100000 = mul-le system.lattice top 1000 100000 lattice.1 few_ratios in
    record {
      some_element = is.elements.present;
      few = is.few_elements;
      lattice_low = omega (arith, lattice.0);
      lattice_high = lattice.1;
      shapes = all_indexed (IsPhaseOf system) IsShaped system.phases (shaped system) is.phases;
      wide_some = omega (arith, wide_is, low);
      wide = omega (arith, wide_is, high);
      dearest = dearest_of system.phases;
      dear = greatest-le (map sigma system.phases) (2 ^ 55) (all_map sigma (IsPhaseOf system) (2 ^ 55) system.phases (λ phase p. p.fine.keeps.energies) is.phases);
      some = some_content;
      narrow = narrow;
      cheap = cheap;
      wide_room = is.wide;
      dear_room = is.dear;
    }
  where
    some_content : (entry : Entry) → IsConstitutionOf system entry → pos 1 ≤ℤ sum_to (length system.elements) (content_of system entry)
    some_content entry c =
        let p : IsPhaseOf system c.phase = all_at (IsPhaseOf system) system.phases entry.phase c.phase is.phases c.is_phase in
        simp c.is_phase (content_holds (length system.elements) c.phase entry.site p.components c.constitution)

    narrow : (entry : Entry) → IsListOf system entry → sum_to (length system.elements) (content_of system entry) ≤ℤ pos system.widest
    narrow entry l =
        let p : IsPhaseOf system l.phase = all_at (IsPhaseOf system) system.phases entry.phase l.phase is.phases l.is_phase in
        let here : sum_to (length system.elements) (content l.phase entry.site) ≤ℤ pos (l.phase.lattice * sum l.phase.ratios) = content_narrow (length system.elements) l.phase entry.site l.shape in
        let most : l.phase.lattice * sum l.phase.ratios ≤ system.lattice * greatest (map (λ phase. sum phase.ratios) system.phases) =
        rw p.same_lattice (mul-le system.lattice (sum l.phase.ratios) system.lattice (greatest (map (λ phase. sum phase.ratios) system.phases)) (omega arith) (le-greatest (λ (phase : PhaseAt). sum phase.ratios) system.phases entry.phase l.phase l.is_phase)) in
        let wide : system.widest ≡ system.lattice * greatest (map (λ phase. sum phase.ratios) system.phases) = is.widest_is in
        simp l.is_phase (omega (arith, ints, here, most, wide))

    cheap : (entry : Entry) → IsConstitutionOf system entry → unsigned_abs (energy_of system entry) ≤ dearest_of system.phases
    cheap entry c =
        let p : IsPhaseOf system c.phase = all_at (IsPhaseOf system) system.phases entry.phase c.phase is.phases c.is_phase in
        let small : unsigned_abs (energy c.phase entry.site) ≤ sigma c.phase = energy_size c.phase entry.site p.fine c.constitution.shape in
        simp c.is_phase (omega (arith, small, le-greatest sigma system.phases entry.phase c.phase c.is_phase))
