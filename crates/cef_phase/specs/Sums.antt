-- Workings: what a phase as the sum of its parts keeps.
use Rattle.std.specs.Prelude.{◌≡◌, ℕ, ◌+◌, ◌*◌, ◌≤◌, List, length, drop, Option, Some, slice_get, sum, unsigned_abs, ℤ, pos, ◌+ℤ◌, ◌-ℤ◌, ◌*ℤ◌, ◌≤ℤ◌}
use Rattle.cal_limits.specs.declared.TheConstants.{MOST_ENERGY}
use Rattle.cef_core.specs.declared.phase.PhaseAt.{PhaseAt}
use Rattle.cef_core.specs.Constitutions.{HasShape, content}
use Rattle.cef_core.specs.Energies.{energy}
use Rattle.cef_core.specs.Mixing.{mixing_over}
use Rattle.cef_core.specs.Phases.{sigma}
use Rattle.cef_core.specs.Shapes.{places}
use Rattle.cef_core.specs.Worth.{worth}
use Rattle.cef_box.specs.declared.range.Range.{Range}
use Rattle.cef_box.specs.Boxes.{IsMember, IsSingle}
use Rattle.cef_box.specs.Terms.{FitsSite, FitsBox, shape_of_phase}
use Rattle.cef_mix.specs.Mixes.{Mixing}
use Rattle.cef_phase.specs.Bounds.{lows_over, bound_of}
use Rattle.cef_phase.specs.Kinds.{AllFit, AllFitBox, values_of, lows_of, micros}
use Rattle.cef_phase.specs.MagneticTerms.{MagneticTerm, FitsMagnetism, FitsMagnetismBox, magnetism_at, magnetism_low, most_magnetic}
use Rattle.cef_phase.specs.Sizes.{AddUpTo}
use Rattle.cef_term.specs.declared.param_term.ParamTerm.{ParamTerm}

-- tables of mixing whose energies have room together
pub record IsMixable (m : Mixing) : Type 0 where
  pub some : 1 ≤ m.lattice
  pub few : m.lattice ≤ 1000
  pub room : 600000 * m.t * sum m.ratios ≤ MOST_ENERGY

-- tables of the mixing of a phase of at most 90 sites
pub record IsMixed (phase : PhaseAt) (mix : Mixing) : Type 0 where
  pub mixable : IsMixable mix
  pub t : mix.t ≡ phase.t
  pub lattice : mix.lattice ≡ phase.lattice
  pub ratios : mix.ratios ≡ phase.ratios
  pub ratio_each : length phase.ratios ≡ length phase.sites
  pub sublattices : length phase.sites ≤ 10
  pub sites : places phase.sites ≤ 90

-- terms and tables whose values add to the energies of a phase, and whose lows add to those of its bounds
pub record IsSum (phase : PhaseAt) (terms : List ParamTerm) (magnetism : Option MagneticTerm) (mix : Mixing) : Type 0 where
  pub fits : (site : List (List ℕ)) → HasShape phase.lattice phase.sites site → AllFit terms site
  pub fits_magnetism : (site : List (List ℕ)) → HasShape phase.lattice phase.sites site → FitsMagnetism magnetism site
  pub mixed : IsMixed phase mix
  pub each : (site : List (List ℕ)) → HasShape phase.lattice phase.sites site → length mix.ratios ≡ length site
  pub within : (site : List (List ℕ)) → HasShape phase.lattice phase.sites site → AddUpTo mix.lattice site
  pub energy_is : (site : List (List ℕ)) → HasShape phase.lattice phase.sites site →
      values_of terms site +ℤ (mixing_over mix.t mix.lattice (drop 0 mix.ratios) (drop 0 site) +ℤ magnetism_at magnetism site) ≡ energy phase site
  pub energy_small : (site : List (List ℕ)) → HasShape phase.lattice phase.sites site → unsigned_abs (energy phase site) ≤ sigma phase
  pub fits_box : (box : List (List Range)) → FitsBox (shape_of_phase phase) box → AllFitBox terms box
  pub fits_box_magnetism : (box : List (List Range)) → FitsBox (shape_of_phase phase) box → FitsMagnetismBox magnetism box
  pub small : micros terms + most_magnetic magnetism ≤ MOST_ENERGY
  pub lows_are : (box : List (List Range)) → lows_of terms box +ℤ magnetism_low magnetism box ≡ lows_over phase box
  pub below : (potentials : List ℤ) (box : List (List Range)) (multipliers : List ℤ) (site : List (List ℕ)) → FitsBox (shape_of_phase phase) box → IsMember phase.lattice box site →
      bound_of phase potentials box multipliers ≤ℤ (pos 65536 *ℤ energy phase site -ℤ worth potentials (content phase site))
  pub exactly : (potentials : List ℤ) (box : List (List Range)) (multipliers : List ℤ) (site : List (List ℕ)) → FitsBox (shape_of_phase phase) box → IsMember phase.lattice box site → IsSingle box →
      bound_of phase potentials box multipliers ≡ pos 65536 *ℤ energy phase site -ℤ worth potentials (content phase site)
