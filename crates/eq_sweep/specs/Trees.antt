-- Trees of boxes that show that all constitutions of phases lie on or above the plane of the potentials.
use Rattle.std.specs.Prelude.{◌≡◌, ℕ, List, [], ◌∷◌, Some, slice_get, ℤ, pos, ◌*ℤ◌, ◌≤ℤ◌}
use Rattle.cef_core.specs.declared.phase.PhaseAt.{PhaseAt}
use Rattle.cef_tree.specs.declared.tree.Node.{Node}
use Rattle.cef_tree.specs.declared.tree.Node.TheVariants.{Split, Leaf, Affine, Empty}
use Rattle.cef_tree.specs.declared.tree.Tree.{Tree}
use Rattle.cef_core.specs.Constitutions.{IsConstitution, content}
use Rattle.cef_core.specs.Energies.{energy}
use Rattle.cef_core.specs.Worth.{worth}
use Rattle.cef_box.specs.declared.range.Range.{Range}
use Rattle.cef_box.specs.Cuts.{IsCut}
use Rattle.cef_box.specs.Tight.{full_box}
use Rattle.cef_phase.specs.Affine.{affine_bound_of}
use Rattle.cef_phase.specs.Bounds.{bound_of, AreMultipliers}
use Rattle.eq_sweep.specs.Visits.{IsVoid}

-- The nodes up to `rest` are a tree that covers the box: a leaf where the bound with its multipliers is at least 0, an affine
-- leaf where the affine bound is, `Empty` where the box is one list without content, and a split where the next two subtrees
-- cover its parts.
pub data Covers (phase : PhaseAt) (potentials : List ℤ) : List (List Range) → List Node → List Node → Type 0 where
  void_covers : (box : List (List Range)) (rest : List Node) → IsVoid phase box →
      Covers phase potentials box (Empty ∷ rest) rest
  leaf_covers : (box : List (List Range)) (multipliers : List ℤ) (rest : List Node) → AreMultipliers phase multipliers →
      pos 0 ≤ℤ bound_of phase potentials box multipliers →
      Covers phase potentials box (Leaf multipliers ∷ rest) rest
  affine_covers : (box : List (List Range)) (multipliers : List ℤ) (rest : List Node) → AreMultipliers phase multipliers →
      pos 0 ≤ℤ affine_bound_of phase potentials box multipliers →
      Covers phase potentials box (Affine multipliers ∷ rest) rest
  split_covers : (box left right : List (List Range)) (place cut : ℕ) (nodes middle rest : List Node) →
      IsCut phase.lattice box place cut left right →
      Covers phase potentials left nodes middle →
      Covers phase potentials right middle rest →
      Covers phase potentials box (Split place cut ∷ nodes) rest

-- one tree for each phase, each of which covers the box of all lists of the phase
abbrev pub AreCovered : List ℤ → List PhaseAt → List Tree → Type 0
AreCovered potentials [] [] = Unit {0}
AreCovered potentials [] (tree ∷ trees) = ⊥
AreCovered potentials (phase ∷ phases) [] = ⊥
AreCovered potentials (phase ∷ phases) (tree ∷ trees) =
    Covers phase potentials (full_box phase) tree.nodes []
    × AreCovered potentials phases trees

-- every constitution of every phase lies on or above the plane: M*b <= 2^16*G
abbrev pub AreAbove : List ℤ → List PhaseAt → Type 0
AreAbove potentials phases =
    (place : ℕ) (phase : PhaseAt) (counts : List (List ℕ)) → slice_get phases place ≡ Some phase → IsConstitution phase counts →
    worth potentials (content phase counts) ≤ℤ (pos 65536 *ℤ energy phase counts)
