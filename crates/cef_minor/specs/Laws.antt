-- What is known of the minorant of a parameter.
use Rattle.std.specs.Prelude.{◌≡◌, ℕ, ◌+◌, ◌*◌, ◌^◌, ◌≤◌, List, true, pos, ◌*ℤ◌, ◌≤ℤ◌, unsigned_abs}
use Rattle.cal_limits.specs.declared.TheConstants.{MOST_POWER}
use Rattle.cef_core.specs.declared.phase.ParamAt.{ParamAt}
use Rattle.cef_core.specs.declared.phase.PhaseAt.{PhaseAt}
use Rattle.cef_box.specs.declared.range.Range.{Range}
use Rattle.cef_core.specs.Parameters.{parameter_value}
use Rattle.cef_core.specs.Phases.{IsFine, IsParameter, degree}
use Rattle.cef_core.specs.Shapes.{shape}
use Rattle.cef_box.specs.Boxes.{IsMember, IsSingle}
use Rattle.cef_box.specs.Terms.{FitsBox, shape_of_phase}
use Rattle.cef_minor.specs.Forms.{is_affine, slope_at, constant_of, height_at}

-- an affine parameter of a fine phase, and a box of that phase
pub record HasMinorant (phase : PhaseAt) (p : ParamAt) (box : List (List Range)) : Type 0 where
  pub fine : IsFine phase
  pub parameter : IsParameter (shape phase.sites) p
  pub degree : phase.lattice ^ degree p ≤ MOST_POWER
  pub affine : is_affine p ≡ true
  pub fits : FitsBox (shape_of_phase phase) box

-- No member of the box has a value below: constant + sum over the sites of slope * count <= 2^16 * value.
abbrev pub MinorantIsBelow : Type 0
MinorantIsBelow = (phase : PhaseAt) (p : ParamAt) (box : List (List Range)) (site : List (List ℕ)) →
    HasMinorant phase p box → IsMember phase.lattice box site →
    height_at phase p box site ≤ℤ (pos 65536 *ℤ parameter_value phase.lattice p site)

-- Both sides are one number where the lows are the highs.
abbrev pub MinorantIsExact : Type 0
MinorantIsExact = (phase : PhaseAt) (p : ParamAt) (box : List (List Range)) (site : List (List ℕ)) →
    HasMinorant phase p box → IsMember phase.lattice box site → IsSingle box →
    height_at phase p box site ≡ pos 65536 *ℤ parameter_value phase.lattice p site

-- the magnitude of each slope
abbrev pub SlopesAreSmall : Type 0
SlopesAreSmall = (phase : PhaseAt) (p : ParamAt) (box : List (List Range)) (site : ℕ) →
    HasMinorant phase p box → unsigned_abs (slope_at phase p box site) ≤ unsigned_abs p.micro * 2 ^ 20

-- the magnitude of the constant
abbrev pub ConstantIsSmall : Type 0
ConstantIsSmall = (phase : PhaseAt) (p : ParamAt) (box : List (List Range)) →
    HasMinorant phase p box → unsigned_abs (constant_of phase p box) ≤ unsigned_abs p.micro * 2 ^ 40 + 2 ^ 16
