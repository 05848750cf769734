-- Trees of which each node is right show that every constitution lies on or above the plane of the potentials.
use Rattle.std.proofs.Common.{ℕ, suc, ◌-◌, List, [], ◌∷◌, length, arith, inl, inr}
use Rattle.std.specs.Prelude.{ℤ, pos, ◌≤ℤ◌}
use Rattle.std.proofs.lemmas.Int.{ints}
use Rattle.cef_core.specs.declared.phase.PhaseAt.{PhaseAt}
use Rattle.cef_core.specs.Constitutions.{IsConstitution}
use Rattle.cef_core.specs.Phases.{IsFine}
use Rattle.cef_box.specs.Boxes.{IsMember}
use Rattle.cef_box.specs.Terms.{FitsBox, shape_of_phase}
use Rattle.cef_box.specs.Tight.{full_box}
use Rattle.cef_phase.specs.Affine.{affine_bound_of}
use Rattle.cef_phase.specs.Bounds.{bound_of}
use Rattle.cef_tree.specs.declared.tree.Node.{Node}
use Rattle.cef_tree.specs.declared.tree.Node.TheVariants.{Split, Leaf, Affine, Empty}
use Rattle.cef_report.specs.Spelled.{Spans}
use Rattle.eq_cert.specs.Trees.{Box, IsRight, IsRightAt, Stands}
use Rattle.eq_cert.specs.Nodes.{IsEnd, IsReady}
use Rattle.eq_cert.proofs.Covering.{Covers, end_covers, split_covers, covers_from_right, stands_shorter}
use Rattle.eq_cert.proofs.Ready.{full_member, full_ready, parts_are, ready_left, ready_right}

-- a bound of a box is at most the height of each member
abbrev pub IsBelow : PhaseAt → (List (List ℕ) → ℤ) → (Box → List ℤ → ℤ) → Type 0
IsBelow phase height bound =
    (box : Box) (multipliers : List ℤ) (site : List (List ℕ)) → FitsBox (shape_of_phase phase) box → IsMember phase.lattice box site → bound box multipliers ≤ℤ height site

module _ (phase : PhaseAt) (potentials : List ℤ) (height : List (List ℕ) → ℤ)
    (law : IsBelow phase height (bound_of phase potentials)) (affine_law : IsBelow phase height (affine_bound_of phase potentials)) where
  end_above : (box : Box) (node : Node) → IsReady phase box → IsRight phase potentials box node → IsEnd node → (site : List (List ℕ)) → IsMember phase.lattice box site → IsConstitution phase site → pos 0 ≤ℤ height site
  end_above box (Split place at) ready right is_end site h is = absurd is_end
  end_above box (Leaf multipliers) ready right is_end site h is = omega (arith, ints, right.above, law box multipliers site ready.fits h)
  end_above box (Affine multipliers) ready right is_end site h is = omega (arith, ints, right.above, affine_law box multipliers site ready.fits h)
  end_above box Empty ready right is_end site h is = absurd (right.without site h is.some)

  pub covers_above : (box : Box) (nodes rest : List Node) → Covers phase potentials box nodes rest → IsReady phase box → (site : List (List ℕ)) → IsMember phase.lattice box site → IsConstitution phase site → pos 0 ≤ℤ height site
  covers_above _ _ _ (end_covers box node rest right is_end) ready site h is = end_above box node ready right is_end site h is
  covers_above _ _ _ (split_covers box left right place at nodes middle rest cut l r) ready site h is =
      elim ((parts_are phase box left right place at ready cut).covers site h) [
        | inl a ↦ covers_above left nodes middle l (ready_left phase box left right place at ready cut) site a is
        | inr b ↦ covers_above right middle rest r (ready_right phase box left right place at ready cut) site b is
      ]

  -- a tree of which each node is right
  pub above_from_right : (nodes : List Node) → IsFine phase → Spans nodes [] → ((place : ℕ) → IsRightAt phase potentials nodes place) → (site : List (List ℕ)) → IsConstitution phase site → pos 0 ≤ℤ height site
  above_from_right nodes fine spans right site is =
      covers_above (full_box phase) nodes [] (covers_from_right phase potentials (full_box phase) nodes [] spans each) (full_ready phase fine) site (full_member phase site fine is.shape) is
    where
      each : (node : Node) (more : List Node) (part : Box) → Stands phase.lattice (full_box phase) nodes (node ∷ more) part → IsRight phase potentials part node
      each node more part s = right (length nodes - suc (length more)) node more part (omega (arith, stands_shorter phase potentials (full_box phase) part nodes (node ∷ more) s)) s
