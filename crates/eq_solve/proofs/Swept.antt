-- What the sweep of a system's phases tells of the system.
use Rattle.std.proofs.Common.{◌≡◌, ℕ, zero, suc, ◌+◌, ◌-◌, ◌*◌, ◌^◌, ◌<◌, ◌≤◌, List, [], ◌∷◌, Option, Some, None, length, map, sum, refl, arith, ap, sym, ◌∙◌, subst}
use Rattle.std.specs.Prelude.{ℤ, pos, unsigned_abs, slice_get, All, cond, ltb, Bool, true, false}
use Rattle.std.specs.List.{AllByRecursion}
use Rattle.std.proofs.Math.Nat.{mul-le-mul_left}
use Rattle.std.proofs.lemmas.Nat.{mul-le}
use Rattle.std.proofs.lemmas.List.{length-map}
use Rattle.cef_core.specs.declared.phase.PhaseAt.{PhaseAt}
use Rattle.cef_core.specs.declared.system.System.{System}
use Rattle.cef_tree.specs.declared.tree.Tree.{Tree}
use Rattle.cef_core.specs.Phases.{IsFine}
use Rattle.cef_core.specs.Systems.{IsAmong, IsPhaseOf, IsSystem, greatest, widest_of, all_points}
use Rattle.cef_phase.specs.Bounds.{IsOneOf, IsPlane}
use Rattle.cef_report.specs.Spelled.{IsNumber, IsSpelledTree, Spans}
use Rattle.cef_report.specs.Spelled.{leaf as spans_leaf, affine as spans_affine, none as spans_none, cut as spans_cut}
use Rattle.cef_tree.specs.declared.tree.Node.{Node}
use Rattle.cef_core.specs.Shapes.{places}
use Rattle.cef_box.specs.declared.range.Range.{Range}
use Rattle.cef_box.specs.Boxes.{IsRange}
use Rattle.cef_box.specs.Cuts.{range_at}
use Rattle.cef_box.specs.Tight.{full_box}
use Rattle.cef_phase.specs.Bounds.{AreMultipliers}
use Rattle.eq_sweep.specs.Findings.{IsReady}
use Rattle.eq_sweep.specs.Visits.{Visits, void, leaf, affine, split}
use Rattle.eq_sweep.proofs.Chosen.{chosen_are_sized, chosen_affine_are_sized}
use Rattle.eq_sweep.proofs.Middles.{widest_is_within}
use Rattle.eq_sweep.proofs.Ready.{full_ready, ready_left, ready_right}
use Rattle.eq_sweep.specs.declared.swept.Swept.{Swept}
use Rattle.eq_sweep.specs.declared.swept.Swept.TheVariants.{Closed, Below, Out}
use Rattle.eq_sweep.specs.Answers.{IfClosed, IfBelow, IfOut, IsPointBelow, IsShort}
use Rattle.eq_sweep.specs.Sweeps.{IsSweep, Closes}
use Rattle.eq_sweep.specs.Trees.{AreAbove}
use Rattle.eq_solve.specs.declared.found.Found.{Found}
use Rattle.cef_report.specs.declared.report.Report.{Report}
use Rattle.eq_solve.specs.Reporting.{Reports}
use Rattle.eq_solve.specs.Sweeps.{CanSweep, Sweeps}
use Rattle.eq_solve.proofs.Sizing.{all_at, lattice_within, le-greatest}

-- ---- what a sweep asks

pub all_fine : (system : System) (phases : List PhaseAt) → AllByRecursion (IsPhaseOf system) phases → AllByRecursion IsFine phases
all_fine system [] all = tt
all_fine system (phase ∷ phases) all = (all.0.fine, all_fine system phases all.1)

row_among : (n m : ℕ) (row : List (Option ℕ)) → n ≡ m → AllByRecursion (IsAmong n) row → AllByRecursion (IsOneOf m) row
row_among n m [] e all = tt
row_among n m (None ∷ row) e all = (tt, row_among n m row e all.1)
row_among n m (Some c ∷ row) e all = (omega (arith, all.0, e), row_among n m row e all.1)

among : (n m : ℕ) (rows : List (List (Option ℕ))) → n ≡ m → AllByRecursion (AllByRecursion (IsAmong n)) rows → AllByRecursion (AllByRecursion (IsOneOf m)) rows
among n m [] e all = tt
among n m (row ∷ rows) e all = (row_among n m row e all.0, among n m rows e all.1)

small_each : (wide narrow limit : ℕ) (potentials : List ℤ) → narrow ≤ wide → All (λ m. unsigned_abs m * wide ≤ limit) potentials → AllByRecursion (λ m. unsigned_abs m * narrow ≤ limit) potentials
small_each wide narrow limit [] le all = tt
small_each wide narrow limit (m ∷ potentials) le all =
    (omega (arith, all 0 m (omega arith), mul-le-mul_left (unsigned_abs m) le), small_each wide narrow limit potentials le (λ k d lt. all (suc k) d (omega arith)))

-- no phase is wider than the widest
narrow : (lattice : ℕ) (phases : List PhaseAt) (place : ℕ) (phase : PhaseAt) → slice_get phases place ≡ Some phase → lattice * sum phase.ratios ≤ widest_of lattice phases
narrow lattice phases place phase is =
    mul-le-mul_left lattice (le-greatest (λ (p : PhaseAt). sum p.ratios) phases place phase is)

planes_of : (system : System) (potentials : List ℤ) (rest : List PhaseAt) → IsSystem system → CanSweep system potentials →
    AllByRecursion (IsPhaseOf system) rest → AllByRecursion (λ (phase : PhaseAt). phase.lattice * sum phase.ratios ≤ system.widest) rest →
    AllByRecursion (λ p. IsPlane (2 ^ 116) p potentials) rest
planes_of system potentials [] is can all narrows = tt
planes_of system potentials (phase ∷ rest) is can all narrows = (
  record {
    components = among (length system.elements) (length potentials) phase.sites (sym can.one_each) all.0.components;
    small = small_each system.widest (phase.lattice * sum phase.ratios) (2 ^ 116) potentials narrows.0 can.small;
  },
  planes_of system potentials rest is can all.1 narrows.1,
)

each_narrow : (system : System) (phases : List PhaseAt) → AllByRecursion (IsPhaseOf system) phases → AllByRecursion (λ (phase : PhaseAt). system.lattice * sum phase.ratios ≤ system.widest) phases →
    AllByRecursion (λ (phase : PhaseAt). phase.lattice * sum phase.ratios ≤ system.widest) phases
each_narrow system [] all le = tt
each_narrow system (phase ∷ phases) all le = (rw all.0.same_lattice le.0, each_narrow system phases all.1 le.1)

widths : (lattice wide : ℕ) (phases : List PhaseAt) → widest_of lattice phases ≤ wide → AllByRecursion (λ (phase : PhaseAt). lattice * sum phase.ratios ≤ wide) phases
widths lattice wide [] le = tt
widths lattice wide (phase ∷ phases) le =
    let here = narrow lattice (phase ∷ phases) 0 phase refl in
    let others : widest_of lattice phases ≤ widest_of lattice (phase ∷ phases) = mul-le-mul_left lattice (omega arith) in
    (omega (arith, here, le), widths lattice wide phases (omega (arith, others, le)))

pub planes : (system : System) (potentials : List ℤ) → IsSystem system → CanSweep system potentials → AllByRecursion (λ p. IsPlane (2 ^ 116) p potentials) system.phases
planes system potentials is can =
    planes_of system potentials system.phases is can is.phases
    (each_narrow system system.phases is.phases (widths system.lattice system.widest system.phases (omega (arith, is.widest_is))))

-- ---- what a sweep tells

closes_each : (potentials : List ℤ) (budget : ℕ) (phases : List PhaseAt) (splits : ℕ) (trees : List Tree) (after : ℕ) → Closes potentials budget phases splits trees after → length trees ≡ length phases
closes_each potentials budget [] splits [] after is = refl
closes_each potentials budget [] splits (tree ∷ trees) after is = absurd is
closes_each potentials budget (phase ∷ phases) splits [] after is = absurd is
closes_each potentials budget (phase ∷ phases) splits (tree ∷ trees) after is = ap suc (closes_each potentials budget phases is.0 trees after is.2)

pub trees_each : (system : System) (potentials : List ℤ) (budget : ℕ) (trees : List Tree) → IsSweep system.phases potentials budget (Closed trees) → length trees ≡ length system.phases
trees_each system potentials budget trees is = closes_each potentials budget system.phases 0 trees is.0 is.1

pub swept_sound : (system : System) (potentials : List ℤ) (budget : ℕ) (swept : Swept) → IsSystem system → IsSweep system.phases potentials budget swept →
    IfClosed swept (λ trees. AreAbove potentials system.phases) → IfBelow swept (IsPointBelow potentials system.phases) → IfOut swept (IsShort budget system.phases) → Sweeps system potentials budget swept
swept_sound system potentials budget (Closed trees) is sweep above below out = (trees_each system potentials budget trees sweep, above)
swept_sound system potentials budget (Below place site) is sweep above below out = record {
  is_constitution = record { phase = below.phase; is_phase = below.phase_is; constitution = below.constitution };
  below = simp below.phase_is below.below;
}
swept_sound system potentials budget (Out place) is sweep above below out = (out.within, omega (arith, out.short, is.lists_are))

-- ---- its trees have a text

range_within : (n : ℕ) (box : List (List Range)) (place : ℕ) (range : Range) → AllByRecursion (AllByRecursion (IsRange n)) box → range_at box place ≡ Some range → IsRange n range
range_within n [] place range all is = absurd cc
range_within n (row ∷ rows) place range all is = by_test (ltb place (length row)) is (range_within n rows (place - length row) range all.1)
  where
    by_test : (b : Bool) → cond b (slice_get row place) (range_at rows (place - length row)) ≡ Some range → (range_at rows (place - length row) ≡ Some range → IsRange n range) → IsRange n range
    by_test true here behind = all_at (IsRange n) row place range all.0 here
    by_test false here behind = behind here

all_numbers : (n : ℕ) (multipliers : List ℤ) → 1 ≤ n → AllByRecursion (λ l. unsigned_abs l * n ≤ 2 ^ 117) multipliers → AllByRecursion IsNumber multipliers
all_numbers n [] one all = tt
all_numbers n (l ∷ multipliers) one all = (omega (arith, all.0, mul-le-mul_left (unsigned_abs l) one), all_numbers n multipliers one all.1)

multipliers_numbers : (phase : PhaseAt) (multipliers : List ℤ) → IsFine phase → AreMultipliers phase multipliers → AllByRecursion IsNumber multipliers
multipliers_numbers phase multipliers fine sized = all_numbers phase.lattice multipliers (omega (arith, (lattice_within phase.lattice fine.keeps.lattice).0)) sized.small

multipliers_some : (phase : PhaseAt) (multipliers : List ℤ) → IsFine phase → AreMultipliers phase multipliers → 0 < length multipliers
multipliers_some phase multipliers fine sized = omega (arith, sized.each, fine.keeps.sublattices_low)

visits_spans : (phase : PhaseAt) (potentials : List ℤ) → IsFine phase → IsPlane (2 ^ 116) phase potentials → (budget : ℕ) (box : List (List Range)) (splits : ℕ) (nodes rest : List Node) (after : ℕ) →
    Visits phase potentials budget box splits nodes rest after → IsReady phase box → Spans nodes rest
visits_spans phase potentials fine plane budget _ _ _ _ _ (void box splits rest is) ready = spans_none rest
visits_spans phase potentials fine plane budget _ _ _ _ _ (leaf box splits multipliers rest is) ready =
    let sized : AreMultipliers phase multipliers = chosen_are_sized phase potentials box multipliers fine plane ready.fits is.chosen in
    spans_leaf multipliers rest (multipliers_some phase multipliers fine sized) (multipliers_numbers phase multipliers fine sized)
visits_spans phase potentials fine plane budget _ _ _ _ _ (affine box splits multipliers rest is) ready =
    let sized : AreMultipliers phase multipliers = chosen_affine_are_sized phase potentials box multipliers fine plane ready.fits is.chosen in
    spans_affine multipliers rest (multipliers_some phase multipliers fine sized) (multipliers_numbers phase multipliers fine sized)
visits_spans phase potentials fine plane budget _ _ _ _ _ (split box left right place cut splits between after nodes middle rest is less halved first second) ready =
    let inside : place < places box = widest_is_within box place halved.range halved.widest in
    let few : places box ≡ places phase.sites = ap sum ready.fits.widths in
    let range : IsRange phase.lattice halved.parts.range = range_within phase.lattice box place halved.parts.range ready.fits.ranges halved.parts.range_is in
    spans_cut place cut nodes middle rest (omega (arith, inside, few, fine.sites)) (omega (arith, halved.parts.high, range.1, (lattice_within phase.lattice fine.keeps.lattice).1))
    (visits_spans phase potentials fine plane budget left (splits + 1) nodes middle between first (ready_left phase box left right place cut ready halved.parts))
    (visits_spans phase potentials fine plane budget right between middle rest after second (ready_right phase box left right place cut ready halved.parts))

closes_spelled : (potentials : List ℤ) (budget : ℕ) (phases : List PhaseAt) (splits : ℕ) (trees : List Tree) (after : ℕ) → AllByRecursion IsFine phases → AllByRecursion (λ p. IsPlane (2 ^ 116) p potentials) phases →
    Closes potentials budget phases splits trees after → AllByRecursion IsSpelledTree trees
closes_spelled potentials budget [] splits [] after fine all is = tt
closes_spelled potentials budget [] splits (tree ∷ trees) after fine all is = absurd is
closes_spelled potentials budget (phase ∷ phases) splits [] after fine all is = absurd is
closes_spelled potentials budget (phase ∷ phases) splits (tree ∷ trees) after fine all is = (
  visits_spans phase potentials fine.0 all.0 budget (full_box phase) splits tree.nodes [] is.0 is.1 (full_ready phase fine.0),
  closes_spelled potentials budget phases is.0 trees after fine.1 all.1 is.2,
)

pub trees_spelled : (system : System) (potentials : List ℤ) (budget : ℕ) (trees : List Tree) → IsSystem system → CanSweep system potentials → IsSweep system.phases potentials budget (Closed trees) → AllByRecursion IsSpelledTree trees
trees_spelled system potentials budget trees is can sweep =
    closes_spelled potentials budget system.phases 0 trees sweep.0 (all_fine system system.phases is.phases) (planes system potentials is can) sweep.1

pub trees_reported : (system : System) (asked : List ℤ) (budget : ℕ) (found : Found) (report : Report) → Reports system asked found report → IsSweep system.phases found.potentials budget (Closed found.trees) →
    IsSweep system.phases report.potentials budget (Closed report.trees)
trees_reported system asked budget found report r is = rw (r.potentials, r.trees) is
