-- How large the slopes of the sites of a phase are, with and without those of the planes below its parameters.
use Rattle.std.proofs.Common.{◌≡◌, ◌≢◌, ℕ, zero, suc, ◌+◌, ◌*◌, ◌^◌, ◌<◌, ◌≤◌, List, [], ◌∷◌, Option, Some, None, Bool, true, false, length, filter, arith, refl, ap, ◌∙◌}
use Rattle.std.specs.Prelude.{ℤ, pos, ◌-ℤ◌, ◌*ℤ◌, ◌&&◌, unsigned_abs}
use Rattle.std.specs.List.{AllByRecursion}
use Rattle.std.proofs.lemmas.Bool.{ne_eqb, eq-eqb}
use Rattle.std.proofs.lemmas.Int.{ints, unsigned_abs-mul}
use Rattle.std.proofs.lemmas.Nat.{mul-le}
use Rattle.cal_math.specs.Sums.{sum_of}
use Rattle.cal_math.specs.Vectors.{at}
use Rattle.cal_math.proofs.Vectors.{dot_one, dot-zero}
use Rattle.cal_limits.specs.declared.TheConstants.{MOST_POWER}
use Rattle.cef_core.specs.declared.phase.ParamAt.{ParamAt}
use Rattle.cef_core.specs.declared.phase.PhaseAt.{PhaseAt}
use Rattle.cef_core.specs.Constitutions.{weight_of}
use Rattle.cef_core.specs.Energies.{is_energy}
use Rattle.cef_core.specs.Phases.{IsFine, IsParameter, degree, magnitudes}
use Rattle.cef_core.specs.Shapes.{shape}
use Rattle.cef_box.specs.declared.range.Range.{Range}
use Rattle.cef_box.specs.Terms.{FitsBox, shape_of_phase}
use Rattle.cef_minor.specs.Forms.{is_affine, slope_at}
use Rattle.cef_minor.specs.Laws.{HasMinorant}
use Rattle.cef_minor.proofs.Laws.{slopes_are_small}
use Rattle.cef_phase.specs.Affine.{rise_at, lowered}
use Rattle.cef_phase.specs.Bounds.{slope_of, slopes_of, IsOneOf}

-- slopes of which n counts are within a limit
abbrev pub AreWithin : ℕ → ℕ → List ℤ → Type 0
AreWithin limit n slopes = AllByRecursion (λ m. unsigned_abs m * n ≤ limit) slopes

-- ---- without planes

number_at : (P : ℤ → Type 0) (numbers : List ℤ) (d : ℕ) → AllByRecursion P numbers → d < length numbers → P (at numbers d)
number_at P [] d all lt = absurd (omega arith)
number_at P (x ∷ numbers) zero all lt = all.0
number_at P (x ∷ numbers) (suc d) all lt = number_at P numbers d all.1 (omega arith)

weight_other : (ratio c d : ℕ) → c ≢ d → pos (weight_of c ratio (Some d)) ≡ pos 0
weight_other ratio c d ne = rw (ne_eqb c d ne) refl

weight_own : (ratio d : ℕ) → weight_of d ratio (Some d) ≡ ratio
weight_own ratio d = rw (eq-eqb d d refl) refl

-- a vacancy is worth nothing, and the site of a component its potential times the ratio
slope_none : (potentials : List ℤ) (ratio : ℕ) → slope_of potentials ratio None ≡ pos 0
slope_none potentials ratio = dot-zero (length potentials) (at potentials)

slope_some : (potentials : List ℤ) (ratio d : ℕ) → d < length potentials → slope_of potentials ratio (Some d) ≡ at potentials d *ℤ pos ratio
slope_some potentials ratio d lt =
    dot_one (length potentials) d (at potentials) (λ c. pos (weight_of c ratio (Some d))) lt (λ c less ne. weight_other ratio c d ne)
    ∙ ap (λ (w : ℕ). at potentials d *ℤ pos w) (weight_own ratio d)

slope_small : (limit n total ratio : ℕ) (potentials : List ℤ) (site : Option ℕ) → ratio ≤ total → AreWithin limit (n * total) potentials → IsOneOf (length potentials) site → unsigned_abs (slope_of potentials ratio site) * n ≤ limit
slope_small limit n total ratio potentials None le small one = rw (slope_none potentials ratio) (omega arith)
slope_small limit n total ratio potentials (Some d) le small one =
    let m : ℕ = unsigned_abs (at potentials d) in
    let here : m * (n * total) ≤ limit = number_at (λ x. unsigned_abs x * (n * total) ≤ limit) potentials d small one in
    let size : unsigned_abs (at potentials d *ℤ pos ratio) ≡ m * ratio = unsigned_abs-mul (at potentials d) (pos ratio) in
    let turned : m * ratio * n ≡ m * n * ratio = omega arith in
    let more : m * n * ratio ≤ m * n * total = mul-le (m * n) ratio (m * n) total (omega arith) le in
    let whole : m * n * total ≡ m * (n * total) = omega arith in
    rw (slope_some potentials ratio d one, size) (omega (arith, here, turned, more, whole))

pub slopes_small : (limit n total ratio : ℕ) (potentials : List ℤ) (sites : List (Option ℕ)) → ratio ≤ total → AreWithin limit (n * total) potentials → AllByRecursion (IsOneOf (length potentials)) sites → AreWithin limit n (slopes_of potentials ratio sites)
slopes_small limit n total ratio potentials [] le small one = tt
slopes_small limit n total ratio potentials (site ∷ sites) le small one =
    (slope_small limit n total ratio potentials site le small one.0, slopes_small limit n total ratio potentials sites le small one.1)

-- ---- the slopes of the planes

affine_energy : (p : ParamAt) → is_affine p ≡ true → is_energy p.kind ≡ true
unfolding is_affine
affine_energy p e = first (is_energy p.kind) _ e
  where
    first : (a b : Bool) → (a && b) ≡ true → a ≡ true
    first true b h = refl
    first false b h = absurd cc

abbrev rise_of : PhaseAt → List (List Range) → ℕ → List ParamAt → ℤ
rise_of phase box site parameters = sum_of (λ p. slope_at phase p box site) (filter is_affine parameters)

rises_small : (phase : PhaseAt) (box : List (List Range)) (site : ℕ) (parameters : List ParamAt) → IsFine phase → FitsBox (shape_of_phase phase) box →
    AllByRecursion (IsParameter (shape phase.sites)) parameters → AllByRecursion (λ p. phase.lattice ^ degree p ≤ MOST_POWER) parameters →
    unsigned_abs (rise_of phase box site parameters) ≤ magnitudes is_energy parameters * 2 ^ 20
rises_small phase box site [] fine fits are degrees = omega arith
rises_small phase box site (p ∷ parameters) fine fits are degrees = by (is_affine p) refl (rises_small phase box site parameters fine fits are.1 degrees.1)
  where
    by : (b : Bool) → is_affine p ≡ b → unsigned_abs (rise_of phase box site parameters) ≤ magnitudes is_energy parameters * 2 ^ 20 →
        unsigned_abs (rise_of phase box site (p ∷ parameters)) ≤ magnitudes is_energy (p ∷ parameters) * 2 ^ 20
    by true e rest =
        let has : HasMinorant phase p box = record { fine = fine; parameter = are.0; degree = degrees.0; affine = e; fits = fits } in
        rw (e, affine_energy p e) (omega (arith, ints, slopes_are_small phase p box site has, rest))
    by false e rest = rw e (omega (arith, rest))

pub rise_small : (phase : PhaseAt) (box : List (List Range)) (site : ℕ) → IsFine phase → FitsBox (shape_of_phase phase) box → unsigned_abs (rise_at phase box site) ≤ 2 ^ 75
rise_small phase box site fine fits = omega (arith, rises_small phase box site phase.parameters fine fits fine.keeps.parameters fine.degrees, fine.keeps.energies)

-- the slopes of sites less them
pub lowered_small : (limit n : ℕ) (rise : ℕ → ℤ) (site : ℕ) (slopes : List ℤ) → n ≤ 1000 → ((i : ℕ) → unsigned_abs (rise i) ≤ 2 ^ 75) → AreWithin limit n slopes → AreWithin (limit + 2 ^ 85) n (lowered rise site slopes)
lowered_small limit n rise site [] few rises small = tt
lowered_small limit n rise site (m ∷ slopes) few rises small =
    (one (unsigned_abs (m -ℤ rise site)) (unsigned_abs m) (omega (arith, ints, rises site)) small.0, lowered_small limit n rise (suc site) slopes few rises small.1)
  where
    one : (x m : ℕ) → x ≤ m + 2 ^ 75 → m * n ≤ limit → x * n ≤ limit + 2 ^ 85
    one x m h k = omega (arith, mul-le x n (m + 2 ^ 75) n h (omega arith), k, few)
