-- How large contents and energies are, and that the widest content of a system is not 0.
use Rattle.std.proofs.Common.{◌≡◌, ℕ, zero, suc, ◌*◌, ◌^◌, ◌≤◌, ◌<◌, List, [], ◌∷◌, length, map, sum, refl, arith, sym, Some, None, Option, slice_get, subst}
use Rattle.std.specs.Prelude.{ℤ, unsigned_abs, max}
use Rattle.std.specs.List.{AllByRecursion}
use Rattle.std.proofs.lemmas.Int.{ints}
use Rattle.std.proofs.lemmas.List.{length-map}
use Rattle.std.proofs.lemmas.List.Sums.{sum_by-cons}
use Rattle.std.proofs.lemmas.Nat.{mul-le}
use Rattle.std.proofs.Math.Nat.{mul-le-mul_left}
use Rattle.cal_math.specs.Sums.{sum_below}
use Rattle.cef_core.specs.declared.phase.PhaseAt.{PhaseAt}
use Rattle.cef_core.specs.declared.system.System.{System}
use Rattle.cef_core.specs.Constitutions.{IsConstitution, content, content_over}
use Rattle.cef_core.specs.Phases.{IsFine, sigma}
use Rattle.cef_core.specs.Sizes.{content_small}
use Rattle.cef_core.specs.Systems.{IsPhaseOf, IsSystem, IsAmong, greatest}
use Rattle.cef_box.proofs.Wholes.{lattice_small}
use Rattle.cef_phase.specs.Bounds.{IsOneOf, IsPlane}
use Rattle.eq_cert.specs.Rules.{AreSmall}
use Rattle.eq_cert.proofs.Scaled.{lattice_some}

last_below : (n : ℕ) (f : ℕ → ℕ) → f n ≤ sum_below (suc n) f
last_below n f = omega arith

pub content_sized : (phase : PhaseAt) (counts : List (List ℕ)) (c : ℕ) (x : ℤ) → IsFine phase → IsConstitution phase counts → x ≡ content phase counts c → unsigned_abs x ≤ 2 ^ 55
unfolding content
content_sized phase counts c x fine is e =
    let all = content_small (suc c) phase counts is.shape in
    let one = last_below c (λ c. content_over c phase.ratios phase.sites counts) in
    let room : phase.lattice * sum phase.ratios ≤ 1000 * 100000 = mul-le phase.lattice (sum phase.ratios) 1000 100000 (lattice_small phase fine) fine.keeps.ratios_high in
    rw e (omega (arith, ints, all, one, room))

pub energy_sized : (phase : PhaseAt) (n : ℕ) → IsFine phase → n ≤ sigma phase → n ≤ 2 ^ 55
energy_sized phase n fine le = omega (arith, le, fine.keeps.energies)

pub ruleset sized = (content_sized, energy_sized)

-- ---- the widest content of a system

le-greatest : (f : PhaseAt → ℕ) (xs : List PhaseAt) (k : ℕ) (x : PhaseAt) → slice_get xs k ≡ Some x → f x ≤ greatest (map f xs)
le-greatest f [] k x is = absurd cc
le-greatest f (y ∷ xs) zero x is = let e : y ≡ x = cc in subst (λ z. f z ≤ max (f y) (greatest (map f xs))) e (omega arith)
le-greatest f (y ∷ xs) (suc k) x is = omega (arith, le-greatest f xs k x is)

pub all_fine : (s : System) (phases : List PhaseAt) → AllByRecursion (IsPhaseOf s) phases → AllByRecursion IsFine phases
all_fine s [] all = tt
all_fine s (phase ∷ phases) all = (all.0.fine, all_fine s phases all.1)

ratios_some : (ratios : List ℕ) → 1 ≤ length ratios → AllByRecursion (λ a. 1 ≤ a) ratios → 1 ≤ sum ratios
ratios_some [] one all = absurd (omega (arith, one))
ratios_some (a ∷ ratios) one all = omega (arith, all.0, sum_by-cons (λ (x : ℕ). x) a ratios)

-- N times the sum of ratios is at most W
pub narrow : (s : System) (k : ℕ) (phase : PhaseAt) → IsSystem s → IsPhaseOf s phase → slice_get s.phases k ≡ Some phase → phase.lattice * sum phase.ratios ≤ s.widest
narrow s k phase is one at =
    let most : sum phase.ratios ≤ greatest (map (λ (p : PhaseAt). sum p.ratios) s.phases) = le-greatest (λ (p : PhaseAt). sum p.ratios) s.phases k phase at in
    let product : s.lattice * sum phase.ratios ≤ s.widest = rw is.widest_is (mul-le-mul_left s.lattice most) in
    rw one.same_lattice product

widest_one : (s : System) (phases : List PhaseAt) → phases ≡ s.phases → 0 < length phases → AllByRecursion (IsPhaseOf s) phases → IsSystem s → 1 ≤ s.widest
widest_one s [] e lt all is = absurd (omega (arith, lt))
widest_one s (phase ∷ phases) e lt all is =
    let first : slice_get s.phases 0 ≡ Some phase = rw (← e) refl in
    let ratios : 1 ≤ sum phase.ratios = ratios_some phase.ratios (omega (arith, all.0.fine.keeps.ratio_each, all.0.fine.keeps.sublattices_low)) all.0.fine.keeps.ratios_low in
    let lattice : 1 ≤ phase.lattice = lattice_some phase.lattice all.0.fine.keeps.lattice in
    omega (arith, mul-le 1 1 phase.lattice (sum phase.ratios) lattice ratios, narrow s 0 phase is all.0 first)

pub widest_some : (s : System) → IsSystem s → 1 ≤ s.widest
widest_some s is = widest_one s s.phases refl (omega (arith, is.names.present, length-map s.phases (λ phase. phase.name))) is.phases is

-- ---- potentials for each phase

row_among : (n m : ℕ) (row : List (Option ℕ)) → n ≡ m → AllByRecursion (IsAmong n) row → AllByRecursion (IsOneOf m) row
row_among n m [] e all = tt
row_among n m (None ∷ row) e all = (tt, row_among n m row e all.1)
row_among n m (Some c ∷ row) e all = (omega (arith, all.0, e), row_among n m row e all.1)

among : (n m : ℕ) (rows : List (List (Option ℕ))) → n ≡ m → AllByRecursion (AllByRecursion (IsAmong n)) rows → AllByRecursion (AllByRecursion (IsOneOf m)) rows
among n m [] e all = tt
among n m (row ∷ rows) e all = (row_among n m row e all.0, among n m rows e all.1)

smaller : (wide less : ℕ) (potentials : List ℤ) → less ≤ wide → AreSmall wide potentials → AllByRecursion (λ m. unsigned_abs m * less ≤ 2 ^ 117) potentials
smaller wide less [] le all = tt
smaller wide less (m ∷ potentials) le all = (omega (arith, all.0, mul-le-mul_left (unsigned_abs m) le), smaller wide less potentials le all.1)

pub plane : (s : System) (potentials : List ℤ) (k : ℕ) (phase : PhaseAt) → IsSystem s → length potentials ≡ length s.elements → AreSmall s.widest potentials → IsPhaseOf s phase → slice_get s.phases k ≡ Some phase → IsPlane (2 ^ 117) phase potentials
plane s potentials k phase is each small one at = record {
  components = among (length s.elements) (length potentials) phase.sites (sym each) one.components;
  small = smaller s.widest (phase.lattice * sum phase.ratios) potentials (narrow s k phase is one at) small;
}
