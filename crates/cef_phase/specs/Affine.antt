-- The affine bound of a box of a phase: as the bound, with planes below the parameters of the energy in place of their lows.
-- A plane keeps the slope of its parameter, so that far larger boxes can be shown to lie above the potentials.
use Rattle.std.specs.Prelude.{◌≡◌, ℕ, zero, suc, ◌+◌, ◌<◌, List, [], ◌∷◌, Bool, filter, length, not, ◌&&◌, ℤ, pos, ◌+ℤ◌, ◌-ℤ◌, ◌*ℤ◌}
use Rattle.cal_math.specs.Sums.{sum_of}
use Rattle.cal_math.specs.Vectors.{at, sum_to}
use Rattle.cef_core.specs.declared.phase.ParamAt.{ParamAt}
use Rattle.cef_core.specs.declared.phase.PhaseAt.{PhaseAt}
use Rattle.cef_core.specs.Energies.{is_energy}
use Rattle.cef_box.specs.declared.range.Range.{Range}
use Rattle.cef_minor.specs.Forms.{is_affine, slope_at, constant_of}
use Rattle.cef_term.specs.Bounds.{parameter_low}
use Rattle.cef_phase.specs.Bounds.{magnetic_low_over, mixing_in, slopes_in, row_in, row_part}
use Rattle.cef_phase.specs.Choosing.{secants, IsFirstGreatest}

-- the parameters of the energy that have a plane below them, and those that have none
abbrev pub affine_of : PhaseAt → List ParamAt
affine_of phase = filter is_affine phase.parameters

abbrev pub has_no_plane : ParamAt → Bool
has_no_plane p = is_energy p.kind && not (is_affine p)

abbrev pub others_of : PhaseAt → List ParamAt
others_of phase = filter has_no_plane phase.parameters

-- the slope of all planes together at a site; sites count on over the sublattices
abbrev pub rise_at : PhaseAt → List (List Range) → ℕ → ℤ
rise_at phase box site = sum_of (λ p. slope_at phase p box site) (affine_of phase)

-- what no member has less of in 2^16 times its energy, mixing and these slopes left out: the constants of the planes, and 2^16
-- times the lows of the other parameters and of magnetism
abbrev pub constants_over : PhaseAt → List (List Range) → ℤ
constants_over phase box =
    sum_of (λ p. constant_of phase p box) (affine_of phase)
    +ℤ pos 65536 *ℤ (sum_of (λ p. parameter_low phase.lattice p box) (others_of phase) +ℤ magnetic_low_over phase box phase.magnetic)

-- slopes less those of the planes, the first of them at this site
abbrev pub lowered : (ℕ → ℤ) → ℕ → List ℤ → List ℤ
lowered rise site [] = []
lowered rise site (m ∷ slopes) = (m -ℤ rise site) ∷ lowered rise (suc site) slopes

-- how many sites the first sublattices have
abbrev pub sites_to : {X : Type 0} → ℕ → List (List X) → ℕ
sites_to zero rows = 0
sites_to (suc count) [] = 0
sites_to (suc count) (row ∷ rows) = length row + sites_to count rows

abbrev pub affine_slopes_in : PhaseAt → List ℤ → List (List Range) → ℕ → List ℤ
affine_slopes_in phase potentials box s = lowered (rise_at phase box) (sites_to s phase.sites) (slopes_in phase potentials s)

-- the part of sublattice s under a multiplier: lambda*N, and for each site the least of 2^16*h(k) + a*k - (m + lambda)*k over
-- its range, a being the slope of the planes
abbrev pub affine_part_in : PhaseAt → List ℤ → List (List Range) → ℕ → ℤ → ℤ
affine_part_in phase potentials box s multiplier =
    row_part phase.lattice (mixing_in phase s) (affine_slopes_in phase potentials box s) (row_in box s) multiplier

-- The affine bound: the constants, and the part of each sublattice under its multiplier.
unfoldable pub affine_bound_of : PhaseAt → List ℤ → List (List Range) → List ℤ → ℤ
affine_bound_of phase potentials box multipliers =
    constants_over phase box +ℤ sum_to (length phase.sites) (λ s. affine_part_in phase potentials box s (at multipliers s))

-- the candidates for the multiplier of sublattice s
abbrev pub affine_candidates : PhaseAt → List ℤ → List (List Range) → ℕ → List ℤ
affine_candidates phase potentials box s =
    pos 0 ∷ secants (mixing_in phase s) (affine_slopes_in phase potentials box s) (row_in box s)

-- The chosen multipliers: for each sublattice the first candidate that makes its part of the affine bound greatest.
pub record AreChosenAffine (phase : PhaseAt) (potentials : List ℤ) (box : List (List Range)) (multipliers : List ℤ) : Type 0 where
  pub each : length multipliers ≡ length phase.sites
  pub chosen : (s : ℕ) → s < length phase.sites →
      IsFirstGreatest (affine_part_in phase potentials box s) (affine_candidates phase potentials box s) (at multipliers s)
