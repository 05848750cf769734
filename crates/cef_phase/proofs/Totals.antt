-- The bound and the affine bound of a box: constants, and the parts of the sublattices.
use Rattle.std.proofs.Common.{◌≡◌, ℕ, zero, suc, ◌+◌, ◌-◌, ◌*◌, ◌<◌, ◌≤◌, ◌^◌, List, [], ◌∷◌, length, take, arith, refl, ap, ◌∙◌}
use Rattle.std.specs.Prelude.{ℤ, pos, ◌+ℤ◌, ◌*ℤ◌, unsigned_abs, slice_index_or, replicate, FitsSigned}
use Rattle.std.specs.Int.{w128}
use Rattle.std.specs.List.{AllByRecursion}
use Rattle.std.proofs.lemmas.Int.{ints}
use Rattle.cal_limits.specs.declared.TheConstants.{MOST_ENERGY}
use Rattle.cal_math.specs.Vectors.{at, sum_to}
use Rattle.cal_math.proofs.Vectors.{sum-same}
use Rattle.cef_core.specs.declared.phase.PhaseAt.{PhaseAt}
use Rattle.cef_box.specs.declared.range.Range.{Range}
use Rattle.cef_phase.specs.Affine.{sites_to, rise_at, constants_over, affine_part_in, affine_candidates, affine_bound_of, AreChosenAffine}
use Rattle.cef_phase.specs.Bounds.{row_part, mixing_in, slopes_in, row_in, part_in, lows_over, bound_of, AreMultipliers}
use Rattle.cef_phase.specs.Choosing.{secants, candidates, IsFirstGreatest, AreChosen}
use Rattle.cef_phase.specs.Walks.{AreRises, lowered_part, lowered_candidates}
use Rattle.cef_phase.proofs.Lowering.{lowered_none, lowered_one}
use Rattle.cef_phase.proofs.Rows.{abs-+ℤ}
use Rattle.cef_phase.proofs.Walking.{chosen_there}

-- ---- slopes of 0

part_plain : (rise : ℕ → ℤ) (phase : PhaseAt) (potentials : List ℤ) (box : List (List Range)) (s : ℕ) (l : ℤ) → ((i : ℕ) → rise i ≡ pos 0) →
    lowered_part rise phase potentials box s l ≡ part_in phase potentials box s l
part_plain rise phase potentials box s l none =
    ap (λ (slopes : List ℤ). row_part phase.lattice (mixing_in phase s) slopes (row_in box s) l) (lowered_none rise (sites_to s phase.sites) (slopes_in phase potentials s) none)

candidates_plain : (rise : ℕ → ℤ) (phase : PhaseAt) (potentials : List ℤ) (box : List (List Range)) (s : ℕ) → ((i : ℕ) → rise i ≡ pos 0) →
    lowered_candidates rise phase potentials box s ≡ candidates phase potentials box s
candidates_plain rise phase potentials box s none =
    ap (λ (slopes : List ℤ). pos 0 ∷ secants (mixing_in phase s) slopes (row_in box s)) (lowered_none rise (sites_to s phase.sites) (slopes_in phase potentials s) none)

pub plain_exact : (rise : ℕ → ℤ) (phase : PhaseAt) (potentials : List ℤ) (box : List (List Range)) (multipliers : List ℤ) (count : ℕ) (lows scaled parts total : ℤ) →
    ((i : ℕ) → rise i ≡ pos 0) → lows ≡ lows_over phase box → scaled ≡ pos 65536 *ℤ lows →
    count ≡ length phase.sites → parts ≡ sum_to count (λ s. lowered_part rise phase potentials box s (at multipliers s)) → total ≡ scaled +ℤ parts → total ≡ bound_of phase potentials box multipliers
unfolding bound_of
plain_exact rise phase potentials box multipliers count lows scaled parts total none el es ec ep et =
    let same : parts ≡ sum_to count (λ s. part_in phase potentials box s (at multipliers s)) = ep ∙ sum-same count (λ s. lowered_part rise phase potentials box s (at multipliers s)) (λ s. part_in phase potentials box s (at multipliers s)) (λ s lt. part_plain rise phase potentials box s (at multipliers s) none) in
    rw (et, es, el, same, ec) refl

pub plain_chosen : (rise : ℕ → ℤ) (phase : PhaseAt) (potentials : List ℤ) (box : List (List Range)) (out : List ℤ) → ((i : ℕ) → rise i ≡ pos 0) →
    length out ≡ length phase.sites →
    ((s : ℕ) → s < length out → IsFirstGreatest (lowered_part rise phase potentials box s) (lowered_candidates rise phase potentials box s) (at out s)) → AreChosen phase potentials box out
plain_chosen rise phase potentials box out none each chosen = record {
  each = each;
  chosen = λ s lt.
      chosen_there (lowered_part rise phase potentials box s) (part_in phase potentials box s) (lowered_candidates rise phase potentials box s) (candidates phase potentials box s) (at out s)
      (λ l. part_plain rise phase potentials box s l none) (candidates_plain rise phase potentials box s none) (chosen s (omega (arith, lt, each)));
}

-- ---- the slopes of planes

part_affine : (rise : ℕ → ℤ) (phase : PhaseAt) (potentials : List ℤ) (box : List (List Range)) (s : ℕ) (l : ℤ) →
    ((i : ℕ) → rise i ≡ rise_at phase box i) → lowered_part rise phase potentials box s l ≡ affine_part_in phase potentials box s l
part_affine rise phase potentials box s l same =
    ap (λ (slopes : List ℤ). row_part phase.lattice (mixing_in phase s) slopes (row_in box s) l) (lowered_one rise (rise_at phase box) (sites_to s phase.sites) (slopes_in phase potentials s) same)

candidates_affine : (rise : ℕ → ℤ) (phase : PhaseAt) (potentials : List ℤ) (box : List (List Range)) (s : ℕ) →
    ((i : ℕ) → rise i ≡ rise_at phase box i) → lowered_candidates rise phase potentials box s ≡ affine_candidates phase potentials box s
candidates_affine rise phase potentials box s same =
    ap (λ (slopes : List ℤ). pos 0 ∷ secants (mixing_in phase s) slopes (row_in box s)) (lowered_one rise (rise_at phase box) (sites_to s phase.sites) (slopes_in phase potentials s) same)

pub affine_exact : (rise : ℕ → ℤ) (phase : PhaseAt) (potentials : List ℤ) (box : List (List Range)) (multipliers : List ℤ) (count : ℕ) (constants parts total : ℤ) →
    ((i : ℕ) → rise i ≡ rise_at phase box i) → constants ≡ constants_over phase box →
    count ≡ length phase.sites → parts ≡ sum_to count (λ s. lowered_part rise phase potentials box s (at multipliers s)) → total ≡ constants +ℤ parts → total ≡ affine_bound_of phase potentials box multipliers
unfolding affine_bound_of
affine_exact rise phase potentials box multipliers count constants parts total rises el ec ep et =
    let same : parts ≡ sum_to count (λ s. affine_part_in phase potentials box s (at multipliers s)) = ep ∙ sum-same count (λ s. lowered_part rise phase potentials box s (at multipliers s)) (λ s. affine_part_in phase potentials box s (at multipliers s)) (λ s lt. part_affine rise phase potentials box s (at multipliers s) rises) in
    rw (et, el, same, ec) refl

pub affine_chosen : (rise : ℕ → ℤ) (phase : PhaseAt) (potentials : List ℤ) (box : List (List Range)) (out : List ℤ) →
    ((i : ℕ) → rise i ≡ rise_at phase box i) → length out ≡ length phase.sites →
    ((s : ℕ) → s < length out → IsFirstGreatest (lowered_part rise phase potentials box s) (lowered_candidates rise phase potentials box s) (at out s)) → AreChosenAffine phase potentials box out
affine_chosen rise phase potentials box out rises each chosen = record {
  each = each;
  chosen = λ s lt.
      chosen_there (lowered_part rise phase potentials box s) (affine_part_in phase potentials box s) (lowered_candidates rise phase potentials box s) (affine_candidates phase potentials box s) (at out s)
      (λ l. part_affine rise phase potentials box s l rises) (candidates_affine rise phase potentials box s rises) (chosen s (omega (arith, lt, each)));
}

-- ---- room

pub plain_fits : (lows scaled parts : ℤ) → scaled ≡ pos 65536 *ℤ lows → unsigned_abs lows ≤ MOST_ENERGY → unsigned_abs parts ≤ 2 ^ 126 - 2 ^ 119 →
    FitsSigned w128 (scaled +ℤ parts)
plain_fits lows scaled parts e h g =
    let low : unsigned_abs scaled ≤ 2 ^ 71 = omega (arith, ints, e, h) in
    omega (arith, ints, low, g, abs-+ℤ scaled parts)

pub affine_fits : (constants parts : ℤ) → unsigned_abs constants ≤ 2 ^ 100 → unsigned_abs parts ≤ 2 ^ 126 - 2 ^ 119 →
    FitsSigned w128 (constants +ℤ parts)
affine_fits constants parts h g = omega (arith, ints, h, g, abs-+ℤ constants parts)

-- multipliers that are within their room
pub multipliers_are : (phase : PhaseAt) (out : List ℤ) → length out ≡ length phase.sites →
    AllByRecursion (λ l. unsigned_abs l * phase.lattice ≤ 2 ^ 117) out → AreMultipliers phase out
multipliers_are phase out each small = record { each = each; small = small }

-- slopes that are within their room one by one
pub rises_are : (rises : List ℤ) → ((i : ℕ) → unsigned_abs (slice_index_or rises i (pos 0)) ≤ 2 ^ 75) → AreRises rises
rises_are [] small = tt
rises_are (a ∷ rises) small = (small 0, rises_are rises (λ i. small (suc i)))

pub zero_rises : (k n : ℕ) → AreRises (take k (replicate n (pos 0)))
zero_rises zero n = tt
zero_rises (suc k) zero = tt
zero_rises (suc k) (suc n) = (omega arith, zero_rises k n)

pub zero_at : (k n i : ℕ) → at (take k (replicate n (pos 0))) i ≡ pos 0
zero_at zero n i = refl
zero_at (suc k) zero i = refl
zero_at (suc k) (suc n) zero = refl
zero_at (suc k) (suc n) (suc i) = zero_at k n i
