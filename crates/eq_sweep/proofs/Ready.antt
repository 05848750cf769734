-- Tight boxes that are not empty: their parts, their corners and the box of all lists.
use Rattle.std.proofs.Common.{◌≡◌, ℕ, ◌^◌, List, refl, ◌∙◌}
use Rattle.std.specs.Prelude.{ℤ}
use Rattle.cef_core.specs.declared.phase.PhaseAt.{PhaseAt}
use Rattle.cef_core.specs.Constitutions.{HasShape}
use Rattle.cef_core.specs.Phases.{IsFine}
use Rattle.cef_core.specs.Shapes.{shape}
use Rattle.cef_box.specs.declared.range.Range.{Range}
use Rattle.cef_box.specs.Boxes.{IsMember, IsSingle}
use Rattle.cef_box.specs.Corners.{corner_site}
use Rattle.cef_box.specs.Cuts.{IsCut, ArePartsOf, left_range, right_range}
use Rattle.cef_box.specs.Terms.{FitsBox, shape_of_phase}
use Rattle.cef_box.specs.Tight.{HasSite, IsTightBox, full_box}
use Rattle.cef_box.proofs.Cutting.{cut_parts}
use Rattle.cef_box.proofs.Kept.{part_shape, phase_fits, phase_member}
use Rattle.cef_box.proofs.Tightened.{corner_member}
use Rattle.cef_box.proofs.Wholes.{is_full}
use Rattle.eq_sweep.specs.Findings.{IsReady}

abbrev pub Box : Type 0
Box = List (List Range)

pub ready_from : (phase : PhaseAt) (box : Box) → shape box ≡ shape phase.sites → HasSite phase.lattice box → IsTightBox phase.lattice box → IsReady phase box
ready_from phase box shaped has tight = record { fits = phase_fits phase box has tight shaped; has_site = has; tight = tight }

-- the box of all lists
pub full_ready : (phase : PhaseAt) → IsFine phase → IsReady phase (full_box phase)
full_ready phase fine =
    let full = is_full phase (full_box phase) _ fine refl refl in
    record { fits = full.fits; has_site = full.has_site; tight = full.tight }

pub list_in_full : (phase : PhaseAt) (counts : List (List ℕ)) → IsFine phase → HasShape phase.lattice phase.sites counts → IsMember phase.lattice (full_box phase) counts
list_in_full phase counts fine h = (is_full phase (full_box phase) _ fine refl refl).members counts h

-- the parts
pub parts_are : (phase : PhaseAt) (box left right : Box) (place cut : ℕ) → IsReady phase box → IsCut phase.lattice box place cut left right → ArePartsOf phase.lattice box left right
parts_are phase box left right place cut ready c = (cut_parts phase.lattice box place cut left right ready.has_site ready.tight c).0

pub ready_left : (phase : PhaseAt) (box left right : Box) (place cut : ℕ) → IsReady phase box → IsCut phase.lattice box place cut left right → IsReady phase left
ready_left phase box left right place cut ready c =
    let p = cut_parts phase.lattice box place cut left right ready.has_site ready.tight c in
    ready_from phase left (part_shape phase.lattice place (left_range cut c.range) box left c.left_is ∙ ready.fits.widths) p.0.left_has p.1

pub ready_right : (phase : PhaseAt) (box left right : Box) (place cut : ℕ) → IsReady phase box → IsCut phase.lattice box place cut left right → IsReady phase right
ready_right phase box left right place cut ready c =
    let p = cut_parts phase.lattice box place cut left right ready.has_site ready.tight c in
    ready_from phase right (part_shape phase.lattice place (right_range cut c.range) box right c.right_is ∙ ready.fits.widths) p.0.right_has p.2

-- the members
pub corner_is_member : (phase : PhaseAt) (box : Box) → IsReady phase box → IsMember phase.lattice box (corner_site phase.lattice box)
corner_is_member phase box ready = corner_member phase.lattice box ready.has_site

pub member_is_list : (phase : PhaseAt) (box : Box) (counts : List (List ℕ)) → IsReady phase box → IsMember phase.lattice box counts → HasShape phase.lattice phase.sites counts
member_is_list phase box counts ready h = phase_member phase box counts ready.fits.widths h
