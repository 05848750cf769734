-- Boxes of one list, and its content.
use Rattle.std.proofs.Common.{◌≡◌, ℕ, List, sym, subst, ◌∙◌}
use Rattle.cef_core.specs.declared.phase.PhaseAt.{PhaseAt}
use Rattle.cef_core.specs.Constitutions.{HasContent}
use Rattle.cef_box.specs.Boxes.{IsSingle}
use Rattle.cef_box.specs.Corners.{corner_site}
use Rattle.cef_box.proofs.Singles.{single_corner}
use Rattle.cef_box.proofs.Tightened.{corner_member}
use Rattle.eq_cert.specs.Trees.{Box, IsVoid}
use Rattle.eq_cert.specs.Nodes.{IsReady}

pub not_single : (phase : PhaseAt) (box : Box) → (IsSingle box → ⊥) → IsVoid phase box → ⊥
not_single phase box several v = several v.single

pub void_from : (phase : PhaseAt) (box : Box) (corner : List (List ℕ)) → corner ≡ corner_site phase.lattice box → IsSingle box → (HasContent phase corner → ⊥) → IsVoid phase box
void_from phase box corner e single without = record {
  single = single;
  without = λ counts h held. without (subst (HasContent phase) (single_corner phase.lattice box counts single h ∙ sym e) held);
}

pub not_void : (phase : PhaseAt) (box : Box) (corner : List (List ℕ)) → corner ≡ corner_site phase.lattice box → IsReady phase box → HasContent phase corner → IsVoid phase box → ⊥
not_void phase box corner e ready held v =
    v.without (corner_site phase.lattice box) (corner_member phase.lattice box ready.has_site) (subst (HasContent phase) e held)

pub ruleset voids = (not_single, void_from, not_void)
