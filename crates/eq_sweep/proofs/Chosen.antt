-- How large chosen multipliers are.
use Rattle.std.proofs.Common.{◌≡◌, ℕ, zero, suc, ◌+◌, ◌*◌, ◌^◌, ◌-◌, ◌<◌, ◌≤◌, List, [], ◌∷◌, Some, Bool, true, false, cond, length, refl, arith, subst}
use Rattle.std.specs.Prelude.{ℤ, pos, ◌-ℤ◌, ◌*ℤ◌, unsigned_abs, slice_get, slice_index, slice_index_or, ltb, sum}
use Rattle.std.specs.List.{AllByRecursion}
use Rattle.std.proofs.Math.Nat.{mul-le-mul_left}
use Rattle.std.proofs.lemmas.Bool.{ltb-true}
use Rattle.std.proofs.lemmas.Int.{ints, unsigned_abs-mul}
use Rattle.std.proofs.lemmas.Nat.{mul-le}
use Rattle.std.proofs.lemmas.List.Sums.{sum_by-cons}
use Rattle.cal_math.specs.Vectors.{at}
use Rattle.cal_math.specs.Whole.{*ℤ--ℤ}
use Rattle.cef_core.specs.declared.phase.PhaseAt.{PhaseAt}
use Rattle.cef_core.specs.Mixing.{mixing_at}
use Rattle.cef_core.specs.Phases.{IsFine}
use Rattle.cef_box.specs.declared.range.Range.{Range}
use Rattle.cef_box.specs.Boxes.{IsRange}
use Rattle.cef_box.specs.Terms.{FitsBox, shape_of_phase}
use Rattle.cef_mix.specs.Mixes.{height}
use Rattle.cef_term.proofs.Values.{floor_size}
use Rattle.cef_phase.specs.Affine.{AreChosenAffine, affine_candidates, affine_part_in, affine_slopes_in, rise_at, sites_to}
use Rattle.cef_phase.specs.Bounds.{IsOneOf, IsPlane, AreMultipliers, mixing_in, part_in, slopes_in, row_in}
use Rattle.cef_phase.specs.Choosing.{AreChosen, IsFirstGreatest, candidates, secant, secants}
use Rattle.cef_phase.specs.Sizes.{lattice_size, row_size}
use Rattle.eq_sweep.proofs.Slopes.{AreWithin, slopes_small, lowered_small, rise_small}

row_at : {X : Type 0} (P : X → Type 0) (rows : List (List X)) (s : ℕ) → AllByRecursion (AllByRecursion P) rows → AllByRecursion P (slice_index_or rows s [])
row_at P [] s all = tt
row_at P (row ∷ rows) zero all = all.0
row_at P (row ∷ rows) (suc s) all = row_at P rows s all.1

index_le_sum : (xs : List ℕ) (k : ℕ) → slice_index xs k ≤ sum xs
index_le_sum [] k = omega arith
index_le_sum (x ∷ xs) zero = omega (arith, sum_by-cons (λ (y : ℕ). y) x xs)
index_le_sum (x ∷ xs) (suc k) = omega (arith, sum_by-cons (λ (y : ℕ). y) x xs, index_le_sum xs k)

-- what stands at each place
all_placed : (P : ℤ → Type 0) (xs : List ℤ) → ((s : ℕ) → s < length xs → P (at xs s)) → AllByRecursion P xs
all_placed P [] each = tt
all_placed P (x ∷ xs) each = (each 0 (omega arith), all_placed P xs (λ s lt. each (suc s) (omega arith)))

all_there : (P : ℤ → Type 0) (xs : List ℤ) (k : ℕ) (x : ℤ) → AllByRecursion P xs → slice_get xs k ≡ Some x → P x
all_there P [] k x all is = absurd cc
all_there P (y ∷ xs) zero x all is = let e : y ≡ x = cc in subst P e all.0
all_there P (y ∷ xs) (suc k) x all is = all_there P xs k x all.1 is

-- what the secants of a row rest on: the energy of mixing of its sites, and that their slopes are within a limit
pub record HasSecants (t n ratio limit : ℕ) : Type 0 where
  pub some : 1 ≤ n
  pub few : n ≤ 1000
  pub room : 600000 * t * ratio ≤ 2 ^ 55
  pub limit_high : limit ≤ 2 ^ 116 + 2 ^ 85

mixing_small : (t n ratio limit k : ℕ) → HasSecants t n ratio limit → k ≤ n → unsigned_abs (mixing_at t n ratio k) ≤ 2 ^ 55
mixing_small t n ratio limit k has le =
    let one : sum (k ∷ []) ≡ k = omega (arith, sum_by-cons (λ (y : ℕ). y) k []) in
    omega (arith, ints, has.room, row_size t n ratio (k ∷ []) has.some has.few (omega (arith, one, le)))

rise_over : (a b m : ℤ) (low high : ℕ) → low < high → unsigned_abs a ≤ 2 ^ 55 → unsigned_abs b ≤ 2 ^ 55 →
    unsigned_abs ((pos 65536 *ℤ a -ℤ m *ℤ pos high) -ℤ (pos 65536 *ℤ b -ℤ m *ℤ pos low)) ≤ (2 ^ 72 + unsigned_abs m) * (high - low)
rise_over a b m low high lt small_a small_b =
    let width : pos (high - low) ≡ pos high -ℤ pos low = omega (arith, ints) in
    let spread : m *ℤ pos (high - low) ≡ m *ℤ pos high -ℤ m *ℤ pos low = rw width (*ℤ--ℤ m (pos high) (pos low)) in
    within (m *ℤ pos high) (m *ℤ pos low) (m *ℤ pos (high - low)) (unsigned_abs m) (high - low) spread (unsigned_abs-mul m (pos (high - low))) (omega arith)
  where
    within : (x y z : ℤ) (most width : ℕ) → z ≡ x -ℤ y → unsigned_abs z ≡ most * width → 1 ≤ width → unsigned_abs ((pos 65536 *ℤ a -ℤ x) -ℤ (pos 65536 *ℤ b -ℤ y)) ≤ (2 ^ 72 + most) * width
    within x y z most width e size some = omega (arith, ints, small_a, small_b, e, size)

-- a secant over a range that is no wider than N
secant_small : (t n ratio limit : ℕ) (m : ℤ) (r : Range) → HasSecants t n ratio limit → unsigned_abs m * n ≤ limit → r.low < r.high → r.high ≤ n → unsigned_abs (secant (mixing_at t n ratio) m r) * n ≤ 2 ^ 117
secant_small t n ratio limit m r has small lt high =
    let top = mixing_small t n ratio limit r.high has high in
    let bottom = mixing_small t n ratio limit r.low has (omega (arith, lt, high)) in
    let rise = rise_over (mixing_at t n ratio r.high) (mixing_at t n ratio r.low) m r.low r.high lt top bottom in
    let size : unsigned_abs (secant (mixing_at t n ratio) m r) ≤ 2 ^ 72 + unsigned_abs m = floor_size (height (mixing_at t n ratio) m r.high -ℤ height (mixing_at t n ratio) m r.low) (2 ^ 72 + unsigned_abs m) (r.high - r.low) (omega (arith, lt)) rise in
    let times = mul-le (unsigned_abs (secant (mixing_at t n ratio) m r)) n (2 ^ 72 + unsigned_abs m) n size (omega arith) in
    omega (arith, times, small, has.few, has.limit_high)

secants_small : (t n ratio limit : ℕ) (slopes : List ℤ) (row : List Range) → HasSecants t n ratio limit → AreWithin limit n slopes → AllByRecursion (IsRange n) row → AreWithin (2 ^ 117) n (secants (mixing_at t n ratio) slopes row)
secants_small t n ratio limit [] row has small ranges = tt
secants_small t n ratio limit (m ∷ slopes) [] has small ranges = tt
secants_small t n ratio limit (m ∷ slopes) (r ∷ row) has small ranges = by_test (ltb r.low r.high) refl (secants_small t n ratio limit slopes row has small.1 ranges.1)
  where
    by_test : (b : Bool) → ltb r.low r.high ≡ b → AreWithin (2 ^ 117) n (secants (mixing_at t n ratio) slopes row) →
        AreWithin (2 ^ 117) n (cond b (secant (mixing_at t n ratio) m r ∷ secants (mixing_at t n ratio) slopes row) (secants (mixing_at t n ratio) slopes row))
    by_test true e rest = (secant_small t n ratio limit m r has small.0 (ltb-true r.low r.high e) ranges.0.1, rest)
    by_test false e rest = rest

-- ---- of a phase

has_secants : (phase : PhaseAt) (s limit : ℕ) → IsFine phase → limit ≤ 2 ^ 116 + 2 ^ 85 → HasSecants phase.t phase.lattice (slice_index phase.ratios s) limit
has_secants phase s limit fine le =
    let n = lattice_size phase.lattice fine.keeps.lattice in
    record { some = n.0; few = n.1; room = omega (arith, fine.keeps.energies, mul-le-mul_left (600000 * phase.t) (index_le_sum phase.ratios s)); limit_high = le }

site_slopes : (phase : PhaseAt) (potentials : List ℤ) (s : ℕ) → IsPlane (2 ^ 116) phase potentials → AreWithin (2 ^ 116) phase.lattice (slopes_in phase potentials s)
site_slopes phase potentials s plane =
    slopes_small (2 ^ 116) phase.lattice (sum phase.ratios) (slice_index phase.ratios s) potentials (slice_index_or phase.sites s []) (index_le_sum phase.ratios s) plane.small
    (row_at (IsOneOf (length potentials)) phase.sites s plane.components)

candidates_small : (phase : PhaseAt) (potentials : List ℤ) (box : List (List Range)) (s : ℕ) → IsFine phase → IsPlane (2 ^ 116) phase potentials → FitsBox (shape_of_phase phase) box → AreWithin (2 ^ 117) phase.lattice (candidates phase potentials box s)
candidates_small phase potentials box s fine plane fits = (
  omega arith,
  secants_small phase.t phase.lattice (slice_index phase.ratios s) (2 ^ 116) (slopes_in phase potentials s) (row_in box s) (has_secants phase s (2 ^ 116) fine (omega arith)) (site_slopes phase potentials s plane) (row_at (IsRange phase.lattice) box s fits.ranges),
)

affine_candidates_small : (phase : PhaseAt) (potentials : List ℤ) (box : List (List Range)) (s : ℕ) → IsFine phase → IsPlane (2 ^ 116) phase potentials → FitsBox (shape_of_phase phase) box → AreWithin (2 ^ 117) phase.lattice (affine_candidates phase potentials box s)
affine_candidates_small phase potentials box s fine plane fits =
    let few = (lattice_size phase.lattice fine.keeps.lattice).1 in
    let slopes = lowered_small (2 ^ 116) phase.lattice (rise_at phase box) (sites_to s phase.sites) (slopes_in phase potentials s) few (λ i. rise_small phase box i fine fits) (site_slopes phase potentials s plane) in (
      omega arith,
      secants_small phase.t phase.lattice (slice_index phase.ratios s) (2 ^ 116 + 2 ^ 85) (affine_slopes_in phase potentials box s) (row_in box s) (has_secants phase s (2 ^ 116 + 2 ^ 85) fine (omega arith)) slopes (row_at (IsRange phase.lattice) box s fits.ranges),
    )

pub chosen_are_sized : (phase : PhaseAt) (potentials : List ℤ) (box : List (List Range)) (multipliers : List ℤ) → IsFine phase → IsPlane (2 ^ 116) phase potentials → FitsBox (shape_of_phase phase) box →
    AreChosen phase potentials box multipliers → AreMultipliers phase multipliers
chosen_are_sized phase potentials box multipliers fine plane fits chosen = record {
  each = chosen.each;
  small = all_placed (λ l. unsigned_abs l * phase.lattice ≤ 2 ^ 117) multipliers (λ s lt.
      let is : IsFirstGreatest (part_in phase potentials box s) (candidates phase potentials box s) (at multipliers s) = chosen.chosen s (omega (arith, lt, chosen.each)) in
      all_there (λ l. unsigned_abs l * phase.lattice ≤ 2 ^ 117) (candidates phase potentials box s) is.place (at multipliers s) (candidates_small phase potentials box s fine plane fits) is.there);
}

pub chosen_affine_are_sized : (phase : PhaseAt) (potentials : List ℤ) (box : List (List Range)) (multipliers : List ℤ) → IsFine phase → IsPlane (2 ^ 116) phase potentials → FitsBox (shape_of_phase phase) box →
    AreChosenAffine phase potentials box multipliers → AreMultipliers phase multipliers
chosen_affine_are_sized phase potentials box multipliers fine plane fits chosen = record {
  each = chosen.each;
  small = all_placed (λ l. unsigned_abs l * phase.lattice ≤ 2 ^ 117) multipliers (λ s lt.
      let is : IsFirstGreatest (affine_part_in phase potentials box s) (affine_candidates phase potentials box s) (at multipliers s) = chosen.chosen s (omega (arith, lt, chosen.each)) in
      all_there (λ l. unsigned_abs l * phase.lattice ≤ 2 ^ 117) (affine_candidates phase potentials box s) is.place (at multipliers s) (affine_candidates_small phase potentials box s fine plane fits) is.there);
}
