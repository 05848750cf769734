-- Tight boxes that are not empty: the box of all lists, and the parts of a box that is cut.
use Rattle.std.proofs.Common.{◌≡◌, ℕ, ◌<◌, ◌≤◌, List, Some, sym, refl, arith, ◌∙◌, subst}
use Rattle.cef_core.specs.declared.phase.PhaseAt.{PhaseAt}
use Rattle.cef_core.specs.Constitutions.{HasShape}
use Rattle.cef_core.specs.Phases.{IsFine}
use Rattle.cef_core.specs.Shapes.{shape, places}
use Rattle.cef_box.specs.declared.range.Range.{Range}
use Rattle.cef_box.specs.Boxes.{IsMember}
use Rattle.cef_box.specs.Cuts.{range_at, IsCut, IsCuttable, ArePartsOf, left_range, right_range}
use Rattle.cef_box.specs.Tight.{HasSite, IsTightBox, full_box}
use Rattle.cef_box.proofs.Cutting.{cut_parts}
use Rattle.cef_box.proofs.Kept.{part_shape, phase_fits}
use Rattle.cef_box.proofs.Parted.{cuttable_within}
use Rattle.cef_box.proofs.Wholes.{is_full}
use Rattle.eq_cert.specs.Trees.{Box}
use Rattle.eq_cert.specs.Nodes.{IsReady}

ready_from : (phase : PhaseAt) (box : Box) → shape box ≡ shape phase.sites → HasSite phase.lattice box → IsTightBox phase.lattice box → IsReady phase box
ready_from phase box shaped has tight = record { fits = phase_fits phase box has tight shaped; has_site = has; tight = tight }

-- the box of all lists
pub full_ready : (phase : PhaseAt) → IsFine phase → IsReady phase (full_box phase)
full_ready phase fine =
    let full = is_full phase (full_box phase) _ fine refl refl in
    record { fits = full.fits; has_site = full.has_site; tight = full.tight }

pub full_member : (phase : PhaseAt) (counts : List (List ℕ)) → IsFine phase → HasShape phase.lattice phase.sites counts → IsMember phase.lattice (full_box phase) counts
full_member phase counts fine h = (is_full phase (full_box phase) _ fine refl refl).members counts h

-- the parts
pub parts_are : (phase : PhaseAt) (box left right : Box) (place cut : ℕ) → IsReady phase box → IsCut phase.lattice box place cut left right → ArePartsOf phase.lattice box left right
parts_are phase box left right place cut ready c = (cut_parts phase.lattice box place cut left right ready.has_site ready.tight c).0

pub ready_left : (phase : PhaseAt) (box left right : Box) (place cut : ℕ) → IsReady phase box → IsCut phase.lattice box place cut left right → IsReady phase left
ready_left phase box left right place cut ready c =
    let p = cut_parts phase.lattice box place cut left right ready.has_site ready.tight c in
    ready_from phase left (part_shape phase.lattice place (left_range cut c.range) box left c.left_is ∙ ready.fits.widths) p.0.left_has p.1

pub ready_right : (phase : PhaseAt) (box left right : Box) (place cut : ℕ) → IsReady phase box → IsCut phase.lattice box place cut left right → IsReady phase right
ready_right phase box left right place cut ready c =
    let p = cut_parts phase.lattice box place cut left right ready.has_site ready.tight c in
    ready_from phase right (part_shape phase.lattice place (right_range cut c.range) box right c.right_is ∙ ready.fits.widths) p.0.right_has p.2

-- ---- where a box can be cut

same_range : (r s : Range) → Some r ≡ Some s → r ≡ s
same_range r s e = cc

pub no_place : (box : Box) (place cut count : ℕ) → count ≡ places box → count ≤ place → IsCuttable box place cut → ⊥
no_place box place cut count e le c = omega (arith, e, le, cuttable_within box place cut c)

range_of_cut : (box : Box) (place cut : ℕ) (r : Range) → range_at box place ≡ Some r → (c : IsCuttable box place cut) → c.range ≡ r
range_of_cut box place cut r e c = same_range c.range r (sym c.range_is ∙ e)

pub cut_below : (box : Box) (place cut : ℕ) (r : Range) → range_at box place ≡ Some r → cut < r.low → IsCuttable box place cut → ⊥
cut_below box place cut r e lt c =
    let low : r.low ≤ cut = subst (λ (s : Range). s.low ≤ cut) (range_of_cut box place cut r e c) c.low in
    omega (arith, low, lt)

pub cut_above : (box : Box) (place cut : ℕ) (r : Range) → range_at box place ≡ Some r → r.high ≤ cut → IsCuttable box place cut → ⊥
cut_above box place cut r e le c =
    let high : cut < r.high = subst (λ (s : Range). cut < s.high) (range_of_cut box place cut r e c) c.high in
    omega (arith, high, le)

pub can_cut : (box : Box) (place cut : ℕ) (r : Range) → range_at box place ≡ Some r → r.low ≤ cut → cut < r.high → IsCuttable box place cut
can_cut box place cut r e low high = record { range = r; range_is = e; low = low; high = high }

pub ruleset cutting = (no_place, cut_below, cut_above, can_cut)
