-- The bound of a box of a phase under potentials and multipliers: how little 2^16 times the energy of a member may be above
-- what its content is worth.
use Rattle.std.specs.Prelude.{◌≡◌, ℕ, zero, suc, ◌+◌, ◌-◌, ◌*◌, ◌^◌, ◌<◌, ◌≤◌, List, [], ◌∷◌, Option, Some, None, Bool, cond, filter, length, map, sum, slice_index, slice_index_or, unsigned_abs, ℤ, pos, ◌+ℤ◌, ◌*ℤ◌}
use Rattle.std.specs.Int.Signed.{lt_z}
use Rattle.std.specs.List.{AllByRecursion}
use Rattle.cal_math.specs.Sums.{sum_of}
use Rattle.cal_math.specs.Vectors.{at, sum_to}
use Rattle.cef_kind.specs.declared.kind.Kind.{Kind}
use Rattle.cef_core.specs.declared.phase.MagneticAt.{MagneticAt}
use Rattle.cef_core.specs.declared.phase.PhaseAt.{PhaseAt}
use Rattle.cef_core.specs.Constitutions.{weight_of}
use Rattle.cef_core.specs.Energies.{is_energy, is_curie, is_moment}
use Rattle.cef_core.specs.Mixing.{mixing_at}
use Rattle.cef_core.specs.Worth.{worth}
use Rattle.cef_box.specs.declared.range.Range.{Range}
use Rattle.cef_mag.specs.Ranges.{magnetic_low}
use Rattle.cef_mix.specs.Mixes.{height}
use Rattle.cef_term.specs.Bounds.{parameter_low, parameter_high}

-- the sum of the lows of the parameters of one kind
abbrev pub low_of_kind : (Kind → Bool) → PhaseAt → List (List Range) → ℤ
low_of_kind is_kind phase box =
    sum_of (λ p. parameter_low phase.lattice p box) (filter (λ p. is_kind p.kind) phase.parameters)

-- and the sum of their highs
abbrev pub high_of_kind : (Kind → Bool) → PhaseAt → List (List Range) → ℤ
high_of_kind is_kind phase box =
    sum_of (λ p. parameter_high phase.lattice p box) (filter (λ p. is_kind p.kind) phase.parameters)

-- The low of magnetism: that of the magnetic energy for Curie temperatures and moments from the sums of their lows to those
-- of their highs. It is 0 for a phase without magnetism.
abbrev pub magnetic_low_over : PhaseAt → List (List Range) → Option MagneticAt → ℤ
magnetic_low_over phase box None = pos 0
magnetic_low_over phase box (Some m) =
    magnetic_low phase.t phase.scale m.factor m.p4
    (low_of_kind is_curie phase box) (high_of_kind is_curie phase box)
    (low_of_kind is_moment phase box) (high_of_kind is_moment phase box)

-- A number that no member has less of in its energy, mixing left out: the sum of the lows of the G parameters, and the low
-- of magnetism.
abbrev pub lows_over : PhaseAt → List (List Range) → ℤ
lows_over phase box = low_of_kind is_energy phase box +ℤ magnetic_low_over phase box phase.magnetic

-- the least of f at `low` and at the `more` counts behind it
abbrev pub lesser : ℤ → ℤ → ℤ
lesser a b = cond (lt_z b a) b a

abbrev pub least_over : (ℕ → ℤ) → ℕ → ℕ → ℤ
least_over f low zero = f low
least_over f low (suc more) = lesser (least_over f low more) (f (low + suc more))

-- What one count of a site is worth: the sum over the components of potential times weight. This is M_c times the ratio for
-- a site of component c, and 0 for a vacancy.
abbrev pub slope_of : List ℤ → ℕ → Option ℕ → ℤ
slope_of potentials ratio site = worth potentials (λ c. pos (weight_of c ratio site))

abbrev pub slopes_of : List ℤ → ℕ → List (Option ℕ) → List ℤ
slopes_of potentials ratio sites = map (λ site. slope_of potentials ratio site) sites

-- for each site the least of 2^16*h(k) - (m + lambda)*k over its range, m being its slope; the sum of these
abbrev pub sites_part : (ℕ → ℤ) → ℤ → List ℤ → List Range → ℤ
sites_part h multiplier (m ∷ slopes) (r ∷ row) =
    least_over (height h (m +ℤ multiplier)) r.low (r.high - r.low) +ℤ sites_part h multiplier slopes row
sites_part h multiplier [] row = pos 0
sites_part h multiplier (m ∷ slopes) [] = pos 0

-- a sublattice's part: lambda*N and that sum
abbrev pub row_part : ℕ → (ℕ → ℤ) → List ℤ → List Range → ℤ → ℤ
row_part n h slopes row multiplier = multiplier *ℤ pos n +ℤ sites_part h multiplier slopes row

-- the energy of mixing of a site of sublattice s, the slopes of its sites, and their ranges
abbrev pub mixing_in : PhaseAt → ℕ → ℕ → ℤ
mixing_in phase s = mixing_at phase.t phase.lattice (slice_index phase.ratios s)

abbrev pub slopes_in : PhaseAt → List ℤ → ℕ → List ℤ
slopes_in phase potentials s = slopes_of potentials (slice_index phase.ratios s) (slice_index_or phase.sites s [])

abbrev pub row_in : List (List Range) → ℕ → List Range
row_in box s = slice_index_or box s []

-- the part of sublattice s under a multiplier
abbrev pub part_in : PhaseAt → List ℤ → List (List Range) → ℕ → ℤ → ℤ
part_in phase potentials box s multiplier =
    row_part phase.lattice (mixing_in phase s) (slopes_in phase potentials s) (row_in box s) multiplier

-- The bound: 2^16 times the sum of the lows, and the part of each sublattice under its multiplier.
unfoldable pub bound_of : PhaseAt → List ℤ → List (List Range) → List ℤ → ℤ
bound_of phase potentials box multipliers =
    pos 65536 *ℤ lows_over phase box +ℤ sum_to (length phase.sites) (λ s. part_in phase potentials box s (at multipliers s))

-- a component that is one of so many
abbrev pub IsOneOf : ℕ → Option ℕ → Type 0
IsOneOf n None = Unit {0}
IsOneOf n (Some c) = c < n

-- Potentials for a phase: one for each component, and no content of a formula unit is worth more than the limit at one of
-- them: |M_c| * N * sum of ratios.
pub record IsPlane (limit : ℕ) (phase : PhaseAt) (potentials : List ℤ) : Type 0 where
  pub components : AllByRecursion (AllByRecursion (IsOneOf (length potentials))) phase.sites
  pub small : AllByRecursion (λ m. unsigned_abs m * (phase.lattice * sum phase.ratios) ≤ limit) potentials

-- Multipliers for a phase: one for each sublattice, |lambda| * N within 2^117.
pub record AreMultipliers (phase : PhaseAt) (multipliers : List ℤ) : Type 0 where
  pub each : length multipliers ≡ length phase.sites
  pub small : AllByRecursion (λ l. unsigned_abs l * phase.lattice ≤ 2 ^ 117) multipliers
