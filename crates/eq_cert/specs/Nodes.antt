-- What is found of one node.
use Rattle.std.specs.Prelude.{◌≡◌, ℕ, List, ℤ}
use Rattle.cef_core.specs.declared.phase.PhaseAt.{PhaseAt}
use Rattle.cef_tree.specs.declared.tree.Node.{Node}
use Rattle.cef_tree.specs.declared.tree.Node.TheVariants.{Split, Leaf, Affine, Empty}
use Rattle.cef_box.specs.Cuts.{IsCut, IsCuttable}
use Rattle.cef_box.specs.Terms.{FitsBox, shape_of_phase}
use Rattle.cef_box.specs.Tight.{HasSite, IsTightBox}
use Rattle.eq_cert.specs.Trees.{Box, IsRight}
use Rattle.eq_cert.specs.declared.node.Found.{Found}
use Rattle.eq_cert.specs.declared.node.Found.TheVariants.{Wrong, Covered, Parts}

-- a tight box of the phase that is not empty
pub record IsReady (phase : PhaseAt) (box : Box) : Type 0 where
  pub fits : FitsBox (shape_of_phase phase) box
  pub has_site : HasSite phase.lattice box
  pub tight : IsTightBox phase.lattice box

-- a node with no nodes below it
abbrev pub IsEnd : Node → Type 0
IsEnd (Split place cut) = ⊥
IsEnd (Leaf multipliers) = Unit {0}
IsEnd (Affine multipliers) = Unit {0}
IsEnd Empty = Unit {0}

abbrev pub IsFound : PhaseAt → List ℤ → Box → Node → Found → Type 0
IsFound phase potentials box node Wrong = IsRight phase potentials box node → ⊥
IsFound phase potentials box node Covered = IsRight phase potentials box node × IsEnd node
IsFound phase potentials box node (Parts left right) =
    (place : ℕ)
    × (cut : ℕ)
    × (node ≡ Split place cut)
    × IsCut phase.lattice box place cut left right

-- what is found of a cut
abbrev pub IsCutFound : ℕ → Box → ℕ → ℕ → Found → Type 0
IsCutFound n box place cut Wrong = IsCuttable box place cut → ⊥
IsCutFound n box place cut Covered = ⊥
IsCutFound n box place cut (Parts left right) = IsCut n box place cut left right
