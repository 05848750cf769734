-- Workings: what is found of one box, and how the visit of a phase ends.
use Rattle.std.specs.Prelude.{◌≡◌, ℕ, ◌+◌, ◌/◌, ◌<◌, ◌≤◌, List, [], ◌∷◌, ◌++◌, length, Option, Some, None, ℤ}
use Rattle.std.specs.List.{AllByRecursion}
use Rattle.cef_core.specs.declared.phase.PhaseAt.{PhaseAt}
use Rattle.cef_tree.specs.declared.tree.Node.{Node}
use Rattle.cef_tree.specs.declared.tree.Node.TheVariants.{Split, Leaf, Affine, Empty}
use Rattle.cef_core.specs.Shapes.{shape}
use Rattle.cef_box.specs.declared.range.Range.{Range}
use Rattle.cef_box.specs.Boxes.{IsSingle}
use Rattle.cef_box.specs.Cuts.{IsCut, IsWidest}
use Rattle.cef_box.specs.Tight.{HasSite, IsTightBox, full_box}
use Rattle.cef_box.specs.Terms.{FitsBox, shape_of_phase}
use Rattle.eq_sweep.specs.declared.cut.Cut.{Cut}
use Rattle.eq_sweep.specs.declared.examining.Finding.{Finding}
use Rattle.eq_sweep.specs.declared.examining.Finding.TheVariants.{Found, Below, Open}
use Rattle.eq_sweep.specs.declared.visiting.Visit.{Visit}
use Rattle.eq_sweep.specs.declared.visiting.Visit.TheVariants.{Closed as all_closed, Below as ends_below, Out as ends_out}
use Rattle.eq_sweep.specs.Visits.{IsVoid, IsAbove, IsAboveAffine, IsBelowAtCorner, IsOpen, Visits, Stops, below, out}

-- a tight box of the phase that is not empty
pub record IsReady (phase : PhaseAt) (box : List (List Range)) : Type 0 where
  pub fits : FitsBox (shape_of_phase phase) box
  pub has_site : HasSite phase.lattice box
  pub tight : IsTightBox phase.lattice box

-- the middle of the first range of the greatest width
pub record IsMiddle (box : List (List Range)) (place cut : ℕ) : Type 0 where
  pub range : Range
  pub widest : IsWidest box place range
  pub middle : cut ≡ (range.low + range.high) / 2
  pub low : range.low ≤ cut
  pub high : cut < range.high

-- the node of a box that is not split
abbrev pub IsNodeOf : PhaseAt → List ℤ → List (List Range) → Node → Type 0
IsNodeOf phase potentials box Empty = IsVoid phase box
IsNodeOf phase potentials box (Leaf multipliers) = IsAbove phase potentials box multipliers
IsNodeOf phase potentials box (Affine multipliers) = IsAboveAffine phase potentials box multipliers
IsNodeOf phase potentials box (Split place cut) = ⊥

-- what is found of a box
abbrev pub IsFinding : PhaseAt → List ℤ → List (List Range) → Finding → Type 0
IsFinding phase potentials box (Found node) = IsNodeOf phase potentials box node
IsFinding phase potentials box Below = IsBelowAtCorner phase potentials box
IsFinding phase potentials box (Open cut) = IsOpen phase potentials box × IsMiddle box cut.place cut.count

-- boxes or counts of one shape
abbrev pub AreShaped : {X : Type 0} → List ℕ → List (List (List X)) → Type 0
AreShaped widths boxes = AllByRecursion (λ box. shape box ≡ widths) boxes

-- the right and then the left part lie on the stack
pub record ArePushed (n : ℕ) (box : List (List Range)) (cut : Cut) (old new : List (List (List Range))) : Type 0 where
  pub left : List (List Range)
  pub right : List (List Range)
  pub parts : IsCut n box cut.place cut.count left right
  pub stack_is : new ≡ old ++ right ∷ left ∷ []

-- the end of the visit of a phase, with this number of splits made before it
abbrev pub IsVisit : PhaseAt → List ℤ → ℕ → ℕ → Visit → Type 0
IsVisit phase potentials budget splits (all_closed tree after) = Visits phase potentials budget (full_box phase) splits tree.nodes [] after
IsVisit phase potentials budget splits (ends_below counts) = Stops phase potentials budget (full_box phase) splits (below counts)
IsVisit phase potentials budget splits ends_out = Stops phase potentials budget (full_box phase) splits out
