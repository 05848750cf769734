-- What keeps the shape of a box; which boxes have the shape of a phase.
use Rattle.std.proofs.Common.{◌≡◌, ℕ, zero, suc, ◌-◌, ◌≤◌, List, [], ◌∷◌, length, refl, arith, ap, ◌∙◌, Bool, true, false, cond, ltb, Some, slice_get}
use Rattle.std.specs.Prelude.{min, sum, Option}
use Rattle.std.specs.List.{AllByRecursion}
use Rattle.cef_core.specs.declared.phase.PhaseAt.{PhaseAt}
use Rattle.cef_core.specs.Shapes.{shape}
use Rattle.cef_core.specs.Constitutions.{HasShape}
use Rattle.cef_box.specs.declared.range.Range.{Range}
use Rattle.cef_box.specs.Boxes.{IsMember, IsRange, AllWithin}
use Rattle.cef_box.specs.Corners.{raised, corner_site}
use Rattle.cef_box.specs.Cuts.{placed, placed_in}
use Rattle.cef_box.specs.Terms.{Shape, FitsBox, shape_of_phase}
use Rattle.cef_box.specs.Tight.{lows, highs, HasList, HasSite, IsTight, IsTightBox, tightened_by, tightened_box}
use Rattle.cef_box.proofs.Rows.{sum-cons, ordered_at}
use Rattle.cef_box.proofs.Shapes.{head_is, tail_is}
use Rattle.cef_box.proofs.Tightened.{tightened_box_has, tightened_box_tight}

length-tightened_by : (n l h : ℕ) (row : List Range) → length (tightened_by n l h row) ≡ length row
length-tightened_by n l h [] = refl
length-tightened_by n l h (r ∷ row) = omega (arith, length-tightened_by n l h row)

length-placed : (p : ℕ) (s : Range) (row : List Range) → length (placed p s row) ≡ length row
length-placed p s [] = refl
length-placed zero s (r ∷ row) = omega arith
length-placed (suc p) s (r ∷ row) = omega (arith, length-placed p s row)

pub length-raised : (spare : ℕ) (row : List Range) → length (raised spare row) ≡ length row
length-raised spare [] = refl
length-raised spare (r ∷ row) = omega (arith, length-raised (spare - min (r.high - r.low) spare) row)

pub shape-tightened_box : (n : ℕ) (box : List (List Range)) → shape (tightened_box n box) ≡ shape box
shape-tightened_box n [] = refl
shape-tightened_box n (row ∷ box) = rw (length-tightened_by n (lows row) (highs row) row, shape-tightened_box n box) refl

pub shape-placed_in : (p : ℕ) (s : Range) (box : List (List Range)) → shape (placed_in p s box) ≡ shape box
shape-placed_in p s [] = refl
shape-placed_in p s (row ∷ box) = chosen (ltb p (length row)) (shape-placed_in (p - length row) s box)
  where
    chosen : (b : Bool) → shape (placed_in (p - length row) s box) ≡ shape box → shape (cond b (placed p s row ∷ box) (row ∷ placed_in (p - length row) s box)) ≡ shape (row ∷ box)
    chosen true e = rw (length-placed p s row) refl
    chosen false e = rw e refl

pub shape-corner_site : (n : ℕ) (box : List (List Range)) → shape (corner_site n box) ≡ shape box
shape-corner_site n [] = refl
shape-corner_site n (row ∷ box) = rw (length-raised (n - lows row) row, shape-corner_site n box) refl

pub tightened_shape : (n : ℕ) (box cut : List (List Range)) → cut ≡ tightened_box n box → shape cut ≡ shape box
tightened_shape n box cut e = ap shape e ∙ shape-tightened_box n box

pub part_shape : (n p : ℕ) (s : Range) (box part : List (List Range)) → part ≡ tightened_box n (placed_in p s box) → shape part ≡ shape box
part_shape n p s box part e = ap shape e ∙ (shape-tightened_box n (placed_in p s box) ∙ shape-placed_in p s box)

pub corner_shape : (n : ℕ) (box : List (List Range)) (site : List (List ℕ)) → site ≡ corner_site n box → shape site ≡ shape box
corner_shape n box site e = ap shape e ∙ shape-corner_site n box

-- ---- a tight box lies within the lattice

count_most : (counts : List ℕ) (i k : ℕ) → slice_get counts i ≡ Some k → k ≤ sum counts
count_most [] i k e = absurd cc
count_most (x ∷ counts) zero k e = omega (arith, sum-cons x counts, same_count x k e)
  where
    same_count : (x k : ℕ) → Some x ≡ Some k → x ≡ k
    same_count x k e = cc
count_most (x ∷ counts) (suc i) k e = omega (arith, sum-cons x counts, count_most counts i k e)

each_range : (n : ℕ) (row : List Range) → ((i : ℕ) (r : Range) → slice_get row i ≡ Some r → IsRange n r) → AllByRecursion (IsRange n) row
each_range n [] f = tt
each_range n (r ∷ row) f = (f zero r refl, each_range n row (λ i q e. f (suc i) q e))

row_ranges : (n : ℕ) (row : List Range) → HasList n row → IsTight n row → AllByRecursion (IsRange n) row
row_ranges n row has tight = each_range n row within
  where
    within : (i : ℕ) (r : Range) → slice_get row i ≡ Some r → IsRange n r
    within i r e =
        let up : r.low ≤ r.high = ordered_at row i r has.ordered e in
        let list = tight i r r.high e up (omega arith) in
        (up, omega (arith, count_most list.0 i r.high list.2, list.1.adds))

box_ranges : (n : ℕ) (box : List (List Range)) → HasSite n box → IsTightBox n box → AllByRecursion (AllByRecursion (IsRange n)) box
box_ranges n [] has tight = tt
box_ranges n (row ∷ box) has tight = (row_ranges n row has.0 tight.0, box_ranges n box has.1 tight.1)

pub tight_fits : (s : Shape) (box : List (List Range)) → HasSite s.lattice box → IsTightBox s.lattice box → shape box ≡ s.widths → FitsBox s box
tight_fits s box has tight e = record { widths = e; ranges = box_ranges s.lattice box has tight }

pub phase_fits : (phase : PhaseAt) (box : List (List Range)) → HasSite phase.lattice box → IsTightBox phase.lattice box → shape box ≡ shape phase.sites → FitsBox (shape_of_phase phase) box
phase_fits phase box has tight e = tight_fits (shape_of_phase phase) box has tight e

pub tightened_fits : (phase : PhaseAt) (box cut : List (List Range)) → HasSite phase.lattice box → cut ≡ tightened_box phase.lattice box → shape box ≡ shape phase.sites → FitsBox (shape_of_phase phase) cut
tightened_fits phase box cut has e shaped =
    rw e (phase_fits phase (tightened_box phase.lattice box) (tightened_box_has phase.lattice box has) (tightened_box_tight phase.lattice box has) (shape-tightened_box phase.lattice box ∙ shaped))

-- a part of the shape of a box that fits
pub part_fits : (phase : PhaseAt) (box part : List (List Range)) → HasSite phase.lattice part → IsTightBox phase.lattice part → shape part ≡ shape box → FitsBox (shape_of_phase phase) box → FitsBox (shape_of_phase phase) part
part_fits phase box part has tight e fits = phase_fits phase part has tight (e ∙ fits.widths)

-- ---- the members of a box of a phase's shape

within_length : (row : List Range) (counts : List ℕ) → AllWithin row counts → length counts ≡ length row
within_length [] [] h = refl
within_length [] (k ∷ counts) h = absurd h
within_length (r ∷ row) [] h = absurd h
within_length (r ∷ row) (k ∷ counts) h = omega (arith, within_length row counts h.2)

pub member_shape : (n : ℕ) (sites : List (List (Option ℕ))) (box : List (List Range)) (site : List (List ℕ)) → shape box ≡ shape sites → IsMember n box site → HasShape n sites site
member_shape n [] [] [] e h = tt
member_shape n [] [] (counts ∷ site) e h = absurd h
member_shape n [] (row ∷ box) site e h = absurd cc
member_shape n (sites ∷ rest) [] site e h = absurd cc
member_shape n (sites ∷ rest) (row ∷ box) [] e h = absurd h
member_shape n (sites ∷ rest) (row ∷ box) (counts ∷ site) e h =
    (within_length row counts h.0.within ∙ head_is _ _ _ _ e, h.0.adds, member_shape n rest box site (tail_is _ _ _ _ e) h.1)

pub phase_member : (phase : PhaseAt) (box : List (List Range)) (site : List (List ℕ)) → shape box ≡ shape phase.sites → IsMember phase.lattice box site → HasShape phase.lattice phase.sites site
phase_member phase box site e h = member_shape phase.lattice phase.sites box site e h

pub ruleset keeping = (tightened_shape, part_shape, corner_shape, tightened_fits, phase_fits, phase_member)
