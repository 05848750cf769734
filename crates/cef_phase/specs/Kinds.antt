-- Workings: the terms of a phase, by the kind of their parameters.
use Rattle.std.specs.Prelude.{◌≡◌, ℕ, List, Bool, Option, Some, map, filter, slice_get, unsigned_abs, ℤ}
use Rattle.std.specs.List.{AllByRecursion}
use Rattle.cal_math.specs.Sums.{sum_of}
use Rattle.cef_kind.specs.declared.kind.Kind.{Kind}
use Rattle.cef_core.specs.declared.phase.MagneticAt.{MagneticAt}
use Rattle.cef_core.specs.declared.phase.PhaseAt.{PhaseAt}
use Rattle.cef_core.specs.Energies.{is_energy, is_curie, is_moment}
use Rattle.cef_core.specs.Parameters.{parameter_value}
use Rattle.cef_core.specs.Phases.{IsPhase}
use Rattle.cef_box.specs.declared.range.Range.{Range}
use Rattle.cef_box.specs.Terms.{FitsSite, FitsBox, shape_of_phase}
use Rattle.cef_mag.specs.Sums.{most_of}
use Rattle.cef_term.specs.declared.param_term.ParamTerm.{ParamTerm}
use Rattle.cef_term.specs.Bounds.{parameter_low, parameter_high}

-- the terms of the parameters of a phase of one kind, in their order
pub record AreTerms (is_kind : Kind → Bool) (phase : PhaseAt) (terms : List ParamTerm) : Type 0 where
  pub each : AllByRecursion (λ (t : ParamTerm). t.phase.now ≡ phase) terms
  pub all : map (λ (t : ParamTerm). t.parameter.now) terms ≡ filter (λ p. is_kind p.kind) phase.parameters

-- the sum of the magnitudes of their parameters
abbrev pub micros : List ParamTerm → ℕ
micros terms = most_of (λ (t : ParamTerm). unsigned_abs t.parameter.now.micro) terms

-- the sums of their values at a list of counts, and of their lows and their highs over a box
abbrev pub values_of : List ParamTerm → List (List ℕ) → ℤ
values_of terms site = sum_of (λ t. parameter_value t.phase.now.lattice t.parameter.now site) terms

abbrev pub lows_of : List ParamTerm → List (List Range) → ℤ
lows_of terms box = sum_of (λ t. parameter_low t.phase.now.lattice t.parameter.now box) terms

abbrev pub highs_of : List ParamTerm → List (List Range) → ℤ
highs_of terms box = sum_of (λ t. parameter_high t.phase.now.lattice t.parameter.now box) terms

-- counts and boxes of the phase of each term
abbrev pub AllFit : List ParamTerm → List (List ℕ) → Type 0
AllFit terms site =
    (k : ℕ) (t : ParamTerm) → slice_get terms k ≡ Some t → FitsSite (shape_of_phase t.phase.now) site

abbrev pub AllFitBox : List ParamTerm → List (List Range) → Type 0
AllFitBox terms box =
    (k : ℕ) (t : ParamTerm) → slice_get terms k ≡ Some t → FitsBox (shape_of_phase t.phase.now) box

-- the terms of the energies of a phase, and those of its Curie temperatures and moments where it has magnetism
pub record HasTerms (phase : PhaseAt) (of_energy of_curie of_moment : List ParamTerm) : Type 0 where
  pub keeps : IsPhase phase
  pub energies : AreTerms is_energy phase of_energy
  pub curie : (m : MagneticAt) → phase.magnetic ≡ Some m → AreTerms is_curie phase of_curie
  pub moments : (m : MagneticAt) → phase.magnetic ≡ Some m → AreTerms is_moment phase of_moment
