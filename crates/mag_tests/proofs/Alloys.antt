-- The alloy of the tests is fine, and its terms are summands.
use Rattle.std.proofs.Common.{◌≡◌, ℕ, zero, suc, ◌+◌, ◌<◌, ◌≤◌, List, [], ◌∷◌, Some, refl, arith, lit≤, length, slice_get, ap, subst, sym}
use Rattle.std.specs.Prelude.{unsigned_abs, IsSome}
use Rattle.cal_limits.specs.declared.TheConstants.{MOST_CURIE, MOST_MOMENT}
use Rattle.cef_core.specs.declared.phase.ParamAt.{ParamAt}
use Rattle.cef_core.specs.declared.phase.PhaseAt.{PhaseAt}
use Rattle.cef_core.specs.Phases.{IsFine, IsParameter}
use Rattle.cef_core.specs.Shapes.{shape}
use Rattle.cef_box.specs.Flat.{ranges}
use Rattle.cef_box.specs.Terms.{Shape, FitsSite, FitsBox, shape_of_phase}
use Rattle.cef_term.specs.declared.param_term.ParamTerm.{ParamTerm}
use Rattle.cef_mag.specs.Sums.{AreSummands}
use Rattle.mag_tests.specs.Fixtures.{curie_parameter, curie_interaction, moment_parameter, moment_interaction, alloy, magnitude_at, AreSummandsOf}

curie_of_element : IsParameter (2 ∷ []) curie_parameter
curie_of_element = record { kind = refl; places = ((omega arith, tt), tt); distinct = ((tt, tt), tt); order = refl }

curie_of_both : IsParameter (2 ∷ []) curie_interaction
curie_of_both = record { kind = refl; places = ((omega arith, (omega arith, tt)), tt); distinct = (((λ e. omega arith, tt), (tt, tt)), tt); order = omega arith }

moment_of_element : IsParameter (2 ∷ []) moment_parameter
moment_of_element = record { kind = refl; places = ((omega arith, tt), tt); distinct = ((tt, tt), tt); order = refl }

moment_of_both : IsParameter (2 ∷ []) moment_interaction
moment_of_both = record { kind = refl; places = ((omega arith, (omega arith, tt)), tt); distinct = (((λ e. omega arith, tt), (tt, tt)), tt); order = omega arith }

fine : IsFine alloy
unfolding alloy
fine = record {
  keeps = record {
    coldest = omega arith;
    hottest = omega arith;
    lattice = refl;
    scale = (0, omega arith, refl);
    sublattices_low = omega arith;
    sublattices_high = omega arith;
    ratio_each = refl;
    ratios_low = (omega arith, tt);
    ratios_high = omega arith;
    site_each = (omega arith, tt);
    components = ((omega arith, (omega arith, tt)), tt);
    parameters = (curie_of_element, (curie_of_both, (moment_of_element, (moment_of_both, tt))));
    magnetic = (omega arith, omega arith, omega arith, omega arith);
    energies = omega arith;
    curie = omega arith;
    moments = omega arith;
  };
  sites = omega arith;
  degrees = (omega arith, (omega arith, (omega arith, (omega arith, tt))));
}

pub alloy_fine : (phase : PhaseAt) → phase ≡ alloy → IsFine phase
alloy_fine phase e = subst IsFine (sym e) fine

pub alloy_magnetic : (phase : PhaseAt) → phase ≡ alloy → IsSome phase.magnetic
unfolding alloy
alloy_magnetic phase e = rw e refl

pub alloy_parameters : (phase : PhaseAt) → phase ≡ alloy → phase.parameters ≡ curie_parameter ∷ curie_interaction ∷ moment_parameter ∷ moment_interaction ∷ []
unfolding alloy
alloy_parameters phase e = rw e refl

pub alloy_shape : (phase : PhaseAt) → phase ≡ alloy → shape_of_phase phase ≡ record { lattice = 10; widths = 2 ∷ [] }
unfolding alloy
alloy_shape phase e = rw e refl

alloy_width : (phase : PhaseAt) → phase ≡ alloy → length phase.parameters ≡ 4
alloy_width phase e = ap length (alloy_parameters phase e)

pub alloy_index : (phase : PhaseAt) (k : ℕ) → phase ≡ alloy → k < 4 → k < length phase.parameters
alloy_index phase k e h = omega (arith, alloy_width phase e)

-- two terms are summands
two_summands : {A : Type 0} (shape : A → Shape) (most : A → ℕ) (s : Shape) (limit : ℕ) (t u : A) → shape t ≡ s → shape u ≡ s → most t + most u ≤ limit → AreSummands shape most s limit (t ∷ u ∷ [])
two_summands {A} shape most s limit t u et eu small = record { shapes = shapes; small = omega arith }
  where
    shapes : (k : ℕ) (x : A) → slice_get (t ∷ u ∷ []) k ≡ Some x → shape x ≡ s
    shapes zero x e = let same : t ≡ x = cc in rw (← same) et
    shapes (suc zero) x e = let same : u ≡ x = cc in rw (← same) eu
    shapes (suc (suc k)) x e = absurd cc

magnitude_is : (ps : List ParamAt) (k : ℕ) (p : ParamAt) → slice_get ps k ≡ Some p → unsigned_abs p.micro ≡ magnitude_at ps k
magnitude_is [] k p e = absurd cc
magnitude_is (q ∷ ps) zero p e = let same : q ≡ p = cc in ap (λ (r : ParamAt). unsigned_abs r.micro) (sym same)
magnitude_is (q ∷ ps) (suc k) p e = magnitude_is ps k p e

sum_most : (a b c d : ℕ) → a ≡ c → b ≡ d → a + b ≤ c + d
sum_most a b c d e h = omega arith

pub two_of_phase : (phase : PhaseAt) (i j : ℕ) (t u : ParamTerm) (terms : List ParamTerm) → t.phase.now ≡ phase → u.phase.now ≡ phase → slice_get phase.parameters i ≡ Some t.parameter.now → slice_get phase.parameters j ≡ Some u.parameter.now → terms ≡ t ∷ u ∷ [] →
    AreSummandsOf phase (magnitude_at phase.parameters i + magnitude_at phase.parameters j) terms
two_of_phase phase i j t u terms et eu at_t at_u is =
    rw is (two_summands {A = ParamTerm} (λ t. shape_of_phase t.phase.now) (λ t. unsigned_abs t.parameter.now.micro) (shape_of_phase phase) (magnitude_at phase.parameters i + magnitude_at phase.parameters j) t u (ap shape_of_phase et) (ap shape_of_phase eu)
    (sum_most _ _ _ _ (magnitude_is phase.parameters i t.parameter.now at_t) (magnitude_is phase.parameters j u.parameter.now at_u)))

wider : {A : Type 0} (shape : A → Shape) (most : A → ℕ) (s : Shape) (less more : ℕ) (terms : List A) → AreSummands shape most s less terms → less ≤ more → AreSummands shape most s more terms
wider shape most s less more terms h le = record { shapes = h.shapes; small = omega (arith, h.small) }

pub curies : (phase : PhaseAt) (terms : List ParamTerm) → phase ≡ alloy → AreSummandsOf phase (magnitude_at phase.parameters 0 + magnitude_at phase.parameters 1) terms → AreSummandsOf phase MOST_CURIE terms
unfolding alloy
curies phase terms e h = wider {A = ParamTerm} _ _ _ _ MOST_CURIE terms h (rw e (lit≤ tt))

pub moments : (phase : PhaseAt) (terms : List ParamTerm) → phase ≡ alloy → AreSummandsOf phase (magnitude_at phase.parameters 2 + magnitude_at phase.parameters 3) terms → AreSummandsOf phase MOST_MOMENT terms
unfolding alloy
moments phase terms e h = wider {A = ParamTerm} _ _ _ _ MOST_MOMENT terms h (rw e (lit≤ tt))

pub ruleset alloy_rules = (alloy_magnetic, alloy_shape)

pub two_fit : (s : Shape) (first second : ℕ) → s ≡ record { lattice = 10; widths = 2 ∷ [] } → first ≤ 10 → second ≤ 10 → FitsSite s ((first ∷ second ∷ []) ∷ [])
two_fit s first second e h k = rw e (record { widths = refl; counts = ((h, (k, tt)), tt) })

pub box_fits : (s : Shape) (low high : ℕ) → s ≡ record { lattice = 10; widths = 2 ∷ [] } → low ≤ high → high ≤ 10 → FitsBox s (ranges (low ∷ low ∷ []) (high ∷ high ∷ []) ∷ [])
box_fits s low high e h k = rw e (record { widths = refl; ranges = (((h, k), ((h, k), tt)), tt) })

pub ruleset counts_rules = (two_fit, box_fits)
