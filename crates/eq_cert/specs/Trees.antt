-- Trees of boxes: which box each node stands for, and what is right of it there.
use Rattle.std.specs.Prelude.{◌≡◌, ℕ, suc, ◌+◌, List, ◌∷◌, length, ℤ, pos, ◌≤ℤ◌}
use Rattle.cef_core.specs.declared.phase.PhaseAt.{PhaseAt}
use Rattle.cef_tree.specs.declared.tree.Node.{Node}
use Rattle.cef_tree.specs.declared.tree.Node.TheVariants.{Split, Leaf, Affine, Empty}
use Rattle.cef_core.specs.Constitutions.{HasContent}
use Rattle.cef_box.specs.declared.range.Range.{Range}
use Rattle.cef_box.specs.Boxes.{IsMember, IsSingle}
use Rattle.cef_box.specs.Cuts.{IsCut, IsCuttable}
use Rattle.cef_box.specs.Tight.{full_box}
use Rattle.cef_phase.specs.Affine.{affine_bound_of}
use Rattle.cef_phase.specs.Bounds.{bound_of, AreMultipliers}
use Rattle.cef_report.specs.Spelled.{Spans}

-- for each sublattice the range of each of its sites
abbrev pub Box : Type 0
Box = List (List Range)

-- In the nodes of a tree over the box, in preorder, the nodes from `here` on begin with the node of
-- `part`: the first node is that of the box, and behind a split come the nodes of its left part and
-- then those of its right part.
pub data Stands (n : ℕ) : Box → List Node → List Node → Box → Type 0 where
  first : (box : Box) (nodes : List Node) → Stands n box nodes nodes box
  in_left : (box left right part : Box) (place cut : ℕ) (nodes here : List Node) →
      IsCut n box place cut left right → Stands n left nodes here part →
      Stands n box (Split place cut ∷ nodes) here part
  in_right : (box left right part : Box) (place cut : ℕ) (nodes middle here : List Node) →
      IsCut n box place cut left right → Spans nodes middle → Stands n right middle here part →
      Stands n box (Split place cut ∷ nodes) here part

-- one multiplier for each sublattice, |lambda|*N <= 2^117, and under them a bound of at least 0
pub record IsAbovePlane (phase : PhaseAt) (potentials : List ℤ) (box : Box) (multipliers : List ℤ) : Type 0 where
  pub multipliers_fit : AreMultipliers phase multipliers
  pub above : pos 0 ≤ℤ bound_of phase potentials box multipliers

-- the same with an affine bound of at least 0
pub record IsAboveByPlanes (phase : PhaseAt) (potentials : List ℤ) (box : Box) (multipliers : List ℤ) : Type 0 where
  pub multipliers_fit : AreMultipliers phase multipliers
  pub above : pos 0 ≤ℤ affine_bound_of phase potentials box multipliers

-- the box is one list, and that has no content
pub record IsVoid (phase : PhaseAt) (box : Box) : Type 0 where
  pub single : IsSingle box
  pub without : (counts : List (List ℕ)) → IsMember phase.lattice box counts → HasContent phase counts → ⊥

-- what is right of a node for its box: the place of a split is a site, and its cut leaves counts on
-- both sides
abbrev pub IsRight : PhaseAt → List ℤ → Box → Node → Type 0
IsRight phase potentials box (Split place cut) = IsCuttable box place cut
IsRight phase potentials box (Leaf multipliers) = IsAbovePlane phase potentials box multipliers
IsRight phase potentials box (Affine multipliers) = IsAboveByPlanes phase potentials box multipliers
IsRight phase potentials box Empty = IsVoid phase box

-- the node at a place of the tree of the phase's full box is right for its box
abbrev pub IsRightAt : PhaseAt → List ℤ → List Node → ℕ → Type 0
IsRightAt phase potentials nodes place =
    (node : Node) (rest : List Node) (box : Box) → place + suc (length rest) ≡ length nodes →
    Stands phase.lattice (full_box phase) nodes (node ∷ rest) box →
    IsRight phase potentials box node
