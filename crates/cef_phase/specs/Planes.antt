-- Workings: the places of the affine parameters of a phase, the terms of the others, and what a phase keeps to form its
-- planes.
use Rattle.std.specs.Prelude.{◌≡◌, ℕ, suc, ◌+◌, ◌≤◌, List, [], ◌∷◌, Bool, cond, Option, map, ℤ, pos, ◌+ℤ◌, ◌-ℤ◌, ◌*ℤ◌, ◌≤ℤ◌}
use Rattle.std.specs.List.{AllByRecursion}
use Rattle.cal_limits.specs.declared.TheConstants.{MOST_ENERGY}
use Rattle.cal_math.specs.Sums.{sum_of}
use Rattle.cef_core.specs.declared.phase.ParamAt.{ParamAt}
use Rattle.cef_core.specs.declared.phase.PhaseAt.{PhaseAt}
use Rattle.cef_core.specs.Constitutions.{content}
use Rattle.cef_core.specs.Energies.{energy}
use Rattle.cef_core.specs.Phases.{IsFine}
use Rattle.cef_core.specs.Worth.{worth}
use Rattle.cef_box.specs.declared.range.Range.{Range}
use Rattle.cef_box.specs.Boxes.{IsMember, IsSingle}
use Rattle.cef_box.specs.Terms.{FitsBox, shape_of_phase}
use Rattle.cef_minor.specs.Forms.{is_affine}
use Rattle.cef_term.specs.declared.param_term.ParamTerm.{ParamTerm}
use Rattle.cef_term.specs.Bounds.{parameter_low}
use Rattle.cef_phase.specs.Bounds.{magnetic_low_over}
use Rattle.cef_phase.specs.Affine.{others_of, affine_bound_of}
use Rattle.cef_phase.specs.Kinds.{AllFitBox, lows_of, micros}
use Rattle.cef_phase.specs.MagneticTerms.{MagneticTerm, FitsMagnetismBox, magnetism_low, most_magnetic}

-- the places of the parameters that pass a test, the first of the list standing at this place
abbrev pub places_where : (ParamAt → Bool) → ℕ → List ParamAt → List ℕ
places_where test place [] = []
places_where test place (p ∷ parameters) =
    cond (test p) (place ∷ places_where test (suc place) parameters) (places_where test (suc place) parameters)

abbrev pub affine_places : PhaseAt → List ℕ
affine_places phase = places_where is_affine 0 phase.parameters

-- the terms of the parameters of the energy that have no plane, in their order
pub record AreOthers (phase : PhaseAt) (terms : List ParamTerm) : Type 0 where
  pub each : AllByRecursion (λ (t : ParamTerm). t.phase.now ≡ phase) terms
  pub all : map (λ (t : ParamTerm). t.parameter.now) terms ≡ others_of phase

-- a number that no member has less of in its energy, mixing and the affine parameters left out
abbrev pub lows_beside : PhaseAt → List (List Range) → ℤ
lows_beside phase box =
    sum_of (λ p. parameter_low phase.lattice p box) (others_of phase) +ℤ magnetic_low_over phase box phase.magnetic

-- the places of the affine parameters of a fine phase, and terms whose lows add to those of all else
pub record HasPlanes (phase : PhaseAt) (affine : List ℕ) (others : List ParamTerm) (magnetism : Option MagneticTerm) : Type 0 where
  pub fine : ∥ IsFine phase ∥₁
  pub places : affine ≡ affine_places phase
  pub fits : (box : List (List Range)) → FitsBox (shape_of_phase phase) box → AllFitBox others box
  pub fits_magnetism : (box : List (List Range)) → FitsBox (shape_of_phase phase) box → FitsMagnetismBox magnetism box
  pub small : micros others + most_magnetic magnetism ≤ MOST_ENERGY
  pub lows_are : (box : List (List Range)) → lows_of others box +ℤ magnetism_low magnetism box ≡ lows_beside phase box
  pub below : (potentials : List ℤ) (box : List (List Range)) (multipliers : List ℤ) (site : List (List ℕ)) →
      FitsBox (shape_of_phase phase) box → IsMember phase.lattice box site →
      affine_bound_of phase potentials box multipliers
      ≤ℤ (pos 65536 *ℤ energy phase site -ℤ worth potentials (content phase site))
  pub exactly : (potentials : List ℤ) (box : List (List Range)) (multipliers : List ℤ) (site : List (List ℕ)) →
      FitsBox (shape_of_phase phase) box → IsMember phase.lattice box site → IsSingle box →
      affine_bound_of phase potentials box multipliers
      ≡ pos 65536 *ℤ energy phase site -ℤ worth potentials (content phase site)
