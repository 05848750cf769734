-- The phases are fine.
use Rattle.std.proofs.Common.{◌≡◌, ℕ, ◌+◌, ◌^◌, ◌≤◌, ◌<◌, List, [], ◌∷◌, Bool, true, false, refl, arith, length, ap, sym}
use Rattle.std.specs.Prelude.{ℤ, pos, negsuc}
use Rattle.std.proofs.Math.Nat.{pow-le-pow_right}
use Rattle.cal_limits.specs.declared.TheConstants.{MOST_POWER}
use Rattle.cef_core.specs.declared.phase.PhaseAt.{PhaseAt}
use Rattle.cef_core.specs.Phases.{IsFine, IsParameter, degree}
use Rattle.cef_core.specs.Shapes.{shape}
use Rattle.minor_tests.specs.Samples.{energy_parameter, solution}

pair_is : (micro : ℤ) (order : ℕ) → order ≤ 9 → IsParameter (3 ∷ []) (energy_parameter micro (0 ∷ 1 ∷ []) order false)
pair_is micro order h = record { kind = refl; places = ((omega arith, (omega arith, tt)), tt); distinct = (((λ e. omega arith, tt), (tt, tt)), tt); order = omega (arith, h) }

plain_is : (micro : ℤ) → IsParameter (3 ∷ []) (energy_parameter micro (0 ∷ 1 ∷ 2 ∷ []) 0 false)
plain_is micro = record { kind = refl; places = ((omega arith, (omega arith, (omega arith, tt))), tt); distinct = (((λ e. omega arith, (λ e. omega arith, tt)), ((λ e. omega arith, tt), (tt, tt))), tt); order = refl }

weighted_is : (micro : ℤ) (order : ℕ) → order ≤ 2 → IsParameter (3 ∷ []) (energy_parameter micro (0 ∷ 1 ∷ 2 ∷ []) order true)
weighted_is micro order h = record { kind = refl; places = ((omega arith, (omega arith, (omega arith, tt))), tt); distinct = (((λ e. omega arith, (λ e. omega arith, tt)), ((λ e. omega arith, tt), (tt, tt))), tt); order = omega (arith, h) }

fine : (places : List ℕ) (order : ℕ) (weighted : Bool) → ((micro : ℤ) → IsParameter (3 ∷ []) (energy_parameter micro places order weighted)) → ((micro : ℤ) → 10 ^ degree (energy_parameter micro places order weighted) ≤ MOST_POWER) → IsFine (solution places order weighted)
unfolding solution
fine places order weighted is high = record {
  keeps = record {
    coldest = omega arith;
    hottest = omega arith;
    lattice = refl;
    scale = (0, omega arith, refl);
    sublattices_low = omega arith;
    sublattices_high = omega arith;
    ratio_each = refl;
    ratios_low = (omega arith, tt);
    ratios_high = omega arith;
    site_each = (omega arith, tt);
    components = ((omega arith, (omega arith, (omega arith, tt))), tt);
    parameters = (is (pos 1000000000), (is (negsuc 999999999), tt));
    magnetic = tt;
    energies = omega arith;
    curie = omega arith;
    moments = omega arith;
  };
  sites = omega arith;
  degrees = (high (pos 1000000000), (high (negsuc 999999999), tt));
}

power_high : (k : ℕ) → k ≤ 20 → 10 ^ k ≤ MOST_POWER
power_high k h = omega (arith, pow-le-pow_right {n = 10} (omega arith) {i = k} {j = 20} h)

pub pair_fine : (order : ℕ) (phase : PhaseAt) → order ≤ 9 → phase ≡ solution (0 ∷ 1 ∷ []) order false → IsFine phase
pair_fine order phase h e = rw e (fine (0 ∷ 1 ∷ []) order false (λ micro. pair_is micro order h) (λ micro. power_high (2 + order) (omega (arith, h))))

pub plain_fine : (phase : PhaseAt) → phase ≡ solution (0 ∷ 1 ∷ 2 ∷ []) 0 false → IsFine phase
plain_fine phase e = rw e (fine (0 ∷ 1 ∷ 2 ∷ []) 0 false plain_is (λ micro. power_high 3 (omega arith)))

pub weighted_fine : (order : ℕ) (phase : PhaseAt) → order ≤ 2 → phase ≡ solution (0 ∷ 1 ∷ 2 ∷ []) order true → IsFine phase
weighted_fine order phase h e = rw e (fine (0 ∷ 1 ∷ 2 ∷ []) order true (λ micro. weighted_is micro order h) (λ micro. power_high 4 (omega arith)))

pub solution_lattice : (places : List ℕ) (order : ℕ) (weighted : Bool) (phase : PhaseAt) → phase ≡ solution places order weighted → phase.lattice ≡ 10
unfolding solution
solution_lattice places order weighted phase e = ap (λ (p : PhaseAt). p.lattice) e

pub solution_sites : (places : List ℕ) (order : ℕ) (weighted : Bool) (phase : PhaseAt) → phase ≡ solution places order weighted → shape phase.sites ≡ 3 ∷ []
unfolding solution
solution_sites places order weighted phase e = ap (λ (p : PhaseAt). shape p.sites) e

pub ruleset samples = (pair_fine, plain_fine, weighted_fine, solution_lattice, solution_sites)
