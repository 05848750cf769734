-- Workings: the magnetism of a phase, kept as a term where it has any.
use Rattle.std.specs.Prelude.{◌≡◌, ℕ, ◌+◌, ◌*◌, List, Option, Some, None, ℤ, pos}
use Rattle.cef_core.specs.declared.phase.MagneticAt.{MagneticAt}
use Rattle.cef_core.specs.declared.phase.PhaseAt.{PhaseAt}
use Rattle.cef_core.specs.Energies.{is_curie, is_moment}
use Rattle.cef_core.specs.Magnetism.{magnetic_at}
use Rattle.cef_box.specs.declared.range.Range.{Range}
use Rattle.cef_box.specs.Terms.{FitsSite, FitsBox, shape_of_phase}
use Rattle.cef_term.specs.contracts.param_term.ParamTermTerm.TheImpl.{ghosts}
use Rattle.cef_term.specs.declared.param_term.ParamTerm.{ParamTerm}
use Rattle.cef_mag.specs.declared.mag_term.MagTerm.{MagTerm}
use Rattle.cef_mag.specs.Ranges.{magnetic_low}
use Rattle.cef_phase.specs.Kinds.{AreTerms, values_of, lows_of, highs_of}

-- a term of Curie temperatures and moments that are parameters
abbrev pub MagneticTerm : Type 0
MagneticTerm = MagTerm ParamTerm ghosts

-- the magnetic energy at a list of counts, its low over a box, and the greatest magnitude of both: 0 without magnetism
abbrev pub magnetism_at : Option MagneticTerm → List (List ℕ) → ℤ
magnetism_at None site = pos 0
magnetism_at (Some m) site =
    magnetic_at m.phase.now.t m.phase.now.scale m.magnetic.now.factor m.magnetic.now.p4
    (values_of m.curie.items site) (values_of m.moment.items site)

abbrev pub magnetism_low : Option MagneticTerm → List (List Range) → ℤ
magnetism_low None box = pos 0
magnetism_low (Some m) box =
    magnetic_low m.phase.now.t m.phase.now.scale m.magnetic.now.factor m.magnetic.now.p4
    (lows_of m.curie.items box) (highs_of m.curie.items box)
    (lows_of m.moment.items box) (highs_of m.moment.items box)

abbrev pub most_magnetic : Option MagneticTerm → ℕ
most_magnetic None = 0
most_magnetic (Some m) = 1000000 * m.phase.now.scale * (m.phase.now.t + 1000000)

-- counts and boxes of the phase of a term, where there is one
abbrev pub FitsMagnetism : Option MagneticTerm → List (List ℕ) → Type 0
FitsMagnetism magnetism site = (m : MagneticTerm) → magnetism ≡ Some m → FitsSite (shape_of_phase m.phase.now) site

abbrev pub FitsMagnetismBox : Option MagneticTerm → List (List Range) → Type 0
FitsMagnetismBox magnetism box = (m : MagneticTerm) → magnetism ≡ Some m → FitsBox (shape_of_phase m.phase.now) box

-- the term of the magnetism of a phase
pub record IsMagneticTerm (phase : PhaseAt) (magnetic : MagneticAt) (m : MagneticTerm) : Type 0 where
  pub phase_is : m.phase.now ≡ phase
  pub magnetic_is : m.magnetic.now ≡ magnetic
  pub curie : AreTerms is_curie phase m.curie.items
  pub moments : AreTerms is_moment phase m.moment.items

-- a term where the phase has magnetism, and none where it has not
abbrev pub IsMagnetism : PhaseAt → Option MagneticAt → Option MagneticTerm → Type 0
IsMagnetism phase None None = Unit {0}
IsMagnetism phase (Some magnetic) (Some m) = IsMagneticTerm phase magnetic m
IsMagnetism phase None (Some m) = ⊥
IsMagnetism phase (Some magnetic) None = ⊥
