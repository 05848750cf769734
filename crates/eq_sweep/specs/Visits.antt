-- What the visit of a box gives under potentials M, with the number of splits that the sweep made before it and may make in
-- all: the nodes of its tree in preorder, or what stops the sweep.
use Rattle.std.specs.Prelude.{◌≡◌, ℕ, ◌+◌, ◌/◌, ◌≤◌, ◌<◌, List, ◌∷◌, ℤ, pos, ◌*ℤ◌, ◌≤ℤ◌, ◌<ℤ◌}
use Rattle.cef_core.specs.declared.phase.PhaseAt.{PhaseAt}
use Rattle.cef_tree.specs.declared.tree.Node.{Node}
use Rattle.cef_tree.specs.declared.tree.Node.TheVariants.{Split, Leaf, Affine, Empty}
use Rattle.cef_core.specs.Constitutions.{HasContent, content}
use Rattle.cef_core.specs.Energies.{energy}
use Rattle.cef_core.specs.Worth.{worth}
use Rattle.cef_box.specs.declared.range.Range.{Range}
use Rattle.cef_box.specs.Boxes.{IsSingle}
use Rattle.cef_box.specs.Corners.{corner_site}
use Rattle.cef_box.specs.Cuts.{IsCut, IsWidest}
use Rattle.cef_phase.specs.Affine.{affine_bound_of, AreChosenAffine}
use Rattle.cef_phase.specs.Bounds.{bound_of}
use Rattle.cef_phase.specs.Choosing.{AreChosen}

-- the counts have content and lie below the plane of the potentials: 2^16*G < M*b
pub record IsBelow (phase : PhaseAt) (potentials : List ℤ) (counts : List (List ℕ)) : Type 0 where
  pub content_held : HasContent phase counts
  pub below : (pos 65536 *ℤ energy phase counts) <ℤ worth potentials (content phase counts)

-- first: the box is one list, and that has no content
pub record IsVoid (phase : PhaseAt) (box : List (List Range)) : Type 0 where
  pub single : IsSingle box
  pub without : HasContent phase (corner_site phase.lattice box) → ⊥

-- second: the bound with the chosen multipliers is at least 0
pub record IsAbove (phase : PhaseAt) (potentials : List ℤ) (box : List (List Range)) (multipliers : List ℤ) : Type 0 where
  pub not_void : IsVoid phase box → ⊥
  pub chosen : AreChosen phase potentials box multipliers
  pub bound : pos 0 ≤ℤ bound_of phase potentials box multipliers

-- else it is below 0
pub record IsLow (phase : PhaseAt) (potentials : List ℤ) (box : List (List Range)) : Type 0 where
  pub not_void : IsVoid phase box → ⊥
  pub multipliers : List ℤ
  pub chosen : AreChosen phase potentials box multipliers
  pub bound : bound_of phase potentials box multipliers <ℤ pos 0

-- third: the affine bound with its chosen multipliers is at least 0
pub record IsAboveAffine (phase : PhaseAt) (potentials : List ℤ) (box : List (List Range)) (multipliers : List ℤ) : Type 0 where
  pub low : IsLow phase potentials box
  pub chosen : AreChosenAffine phase potentials box multipliers
  pub bound : pos 0 ≤ℤ affine_bound_of phase potentials box multipliers

-- else that is below 0 too
pub record IsUnclear (phase : PhaseAt) (potentials : List ℤ) (box : List (List Range)) : Type 0 where
  pub low : IsLow phase potentials box
  pub multipliers : List ℤ
  pub chosen : AreChosenAffine phase potentials box multipliers
  pub bound : affine_bound_of phase potentials box multipliers <ℤ pos 0

-- fourth: the corner point lies below the plane
pub record IsBelowAtCorner (phase : PhaseAt) (potentials : List ℤ) (box : List (List Range)) : Type 0 where
  pub unclear : IsUnclear phase potentials box
  pub corner : IsBelow phase potentials (corner_site phase.lattice box)

-- else the box can be split, where the budget allows it
pub record IsOpen (phase : PhaseAt) (potentials : List ℤ) (box : List (List Range)) : Type 0 where
  pub unclear : IsUnclear phase potentials box
  pub not_below : IsBelow phase potentials (corner_site phase.lattice box) → ⊥

-- at the first site of the greatest width, at the middle of its range
pub record IsHalved (n : ℕ) (box : List (List Range)) (place cut : ℕ) (left right : List (List Range)) : Type 0 where
  pub range : Range
  pub widest : IsWidest box place range
  pub middle : cut ≡ (range.low + range.high) / 2
  pub parts : IsCut n box place cut left right

-- From `splits` splits made, the visit of the box gives the nodes up to `rest`, with `after` splits made behind it.
pub data Visits (phase : PhaseAt) (potentials : List ℤ) (budget : ℕ) : List (List Range) → ℕ → List Node → List Node → ℕ → Type 0 where
  void : (box : List (List Range)) (splits : ℕ) (rest : List Node) → IsVoid phase box →
      Visits phase potentials budget box splits (Empty ∷ rest) rest splits
  leaf : (box : List (List Range)) (splits : ℕ) (multipliers : List ℤ) (rest : List Node) → IsAbove phase potentials box multipliers →
      Visits phase potentials budget box splits (Leaf multipliers ∷ rest) rest splits
  affine : (box : List (List Range)) (splits : ℕ) (multipliers : List ℤ) (rest : List Node) → IsAboveAffine phase potentials box multipliers →
      Visits phase potentials budget box splits (Affine multipliers ∷ rest) rest splits
  split : (box left right : List (List Range)) (place cut splits between after : ℕ) (nodes middle rest : List Node) →
      IsOpen phase potentials box → splits < budget → IsHalved phase.lattice box place cut left right →
      Visits phase potentials budget left (splits + 1) nodes middle between →
      Visits phase potentials budget right between middle rest after →
      Visits phase potentials budget box splits (Split place cut ∷ nodes) rest after

-- what stops a sweep: counts below the plane, or that the budget is spent
pub data End : Type 0 where
  below : List (List ℕ) → End
  out : End

-- From `splits` splits made, the visit of the box stops the sweep.
pub data Stops (phase : PhaseAt) (potentials : List ℤ) (budget : ℕ) : List (List Range) → ℕ → End → Type 0 where
  at_corner : (box : List (List Range)) (splits : ℕ) → IsBelowAtCorner phase potentials box →
      Stops phase potentials budget box splits (below (corner_site phase.lattice box))
  at_budget : (box : List (List Range)) (splits : ℕ) → IsOpen phase potentials box → budget ≤ splits →
      Stops phase potentials budget box splits out
  in_left : (box left right : List (List Range)) (place cut splits : ℕ) (end : End) →
      IsOpen phase potentials box → splits < budget → IsHalved phase.lattice box place cut left right →
      Stops phase potentials budget left (splits + 1) end →
      Stops phase potentials budget box splits end
  in_right : (box left right : List (List Range)) (place cut splits between : ℕ) (nodes middle : List Node) (end : End) →
      IsOpen phase potentials box → splits < budget → IsHalved phase.lattice box place cut left right →
      Visits phase potentials budget left (splits + 1) nodes middle between →
      Stops phase potentials budget right between end →
      Stops phase potentials budget box splits end
