use Rattle.std.specs.Prelude.{Option, IfSome}
use Rattle.std.proofs.Common.{ℕ, ◌^◌, ◌≡◌, ◌<◌, length, map, refl, arith, sym, subst, ap, ◌∙◌}
use Rattle.cef_tree.specs.declared.tree.Tree.{Tree}
use Rattle.std.proofs.lemmas.Option.{slice_get_read}
use Rattle.eq_cert.specs.First.{IsVerdict}
use Rattle.cef_core.specs.Phases.{IsFine}
use Rattle.cef_phase.specs.Bounds.{IsPlane}
use Rattle.eq_cert.specs.Trees.{IsRightAt}
use Rattle.eq_cert.proofs.Entered.{phase_at}
use Rattle.eq_cert.proofs.Lines.{lines_next, lines_within, right_next, wrong_at, right_all}
use Rattle.eq_cert.proofs.Picks.{all_at}
use Rattle.eq_cert.proofs.trees.broken_tree.Goals as goal

pub broken_node-requires-clause-fine : goal.broken_node-requires-clause-fine
broken_node-requires-clause-fine g c =
    let at = phase_at g.P.PhaseModel.phase_of c.args.models.now c.trees.p c.index-models-p.result (omega arith) c.index-models-p.is in
    all_at IsFine _ _ _ c.requires.fine at

pub broken_node-requires-clause-plane : goal.broken_node-requires-clause-plane
broken_node-requires-clause-plane g c =
    let at = phase_at g.P.PhaseModel.phase_of c.args.models.now c.trees.p c.index-models-p.result (omega arith) c.index-models-p.is in
    all_at (λ phase. IsPlane (2 ^ 117) phase c.args.potentials.now) _ _ _ c.requires.planes at

pub overflow_add-result : goal.overflow_add-result
overflow_add-result g c =
    let is = slice_get_read _ _ _ _ refl c.trees-test.true c.index-trees-p.is in
    let within : c.in-Some.place < length c.as_slice-nodes.result.now = subst (λ (f : Option ℕ). IfSome f (λ place. place < length c.as_slice-nodes.result.now)) c.in-Some.is c.in_ok-found.ensures.within in
    omega (arith, lines_within c.args.trees.now c.trees.p c.index-trees-p.result is, ap length c.as_slice-nodes.ensures)

pub overflow_add-line-in-None : goal.overflow_add-line-in-None
overflow_add-line-in-None g c =
    let is = slice_get_read _ _ _ _ refl c.trees-test.true c.index-trees-p.is in
    omega (arith, lines_within c.args.trees.now c.trees.p c.index-trees-p.result is, ap length c.as_slice-nodes.ensures)

pub returns-in-Some : goal.returns-in-Some
returns-in-Some g c =
    let nodes : c.as_slice-nodes.result.now ≡ c.index-trees-p.result.nodes = c.as_slice-nodes.ensures ∙ ap (λ (t : Tree). t.nodes) (sym c.index-trees-p.is) in
    let is = slice_get_read _ _ _ _ refl c.trees-test.true c.index-trees-p.is in
    let at = phase_at g.P.PhaseModel.phase_of c.args.models.now c.trees.p c.index-models-p.result (omega arith) c.index-models-p.is in
    let within : c.in-Some.place < length c.as_slice-nodes.result.now = subst (λ (f : Option ℕ). IfSome f (λ place. place < length c.as_slice-nodes.result.now)) c.in-Some.is c.in_ok-found.ensures.within in
    let verdict = subst (IsVerdict (IsRightAt (g.P.PhaseModel.phase_of c.index-models-p.result) c.args.potentials.now c.as_slice-nodes.result.now)) c.in-Some.is c.in_ok-found.ensures.exact in
    wrong_at (map g.P.PhaseModel.phase_of c.args.models.now) c.args.potentials.now c.args.trees.now c.trees.p _ c.index-trees-p.result c.as_slice-nodes.result.now at is nodes c.trees.line c.in-Some.place c.trees.invariant.line_is within c.trees.invariant.right verdict

pub trees-preserved : goal.trees-preserved
trees-preserved g c =
    let nodes : c.as_slice-nodes.result.now ≡ c.index-trees-p.result.nodes = c.as_slice-nodes.ensures ∙ ap (λ (t : Tree). t.nodes) (sym c.index-trees-p.is) in
    let is = slice_get_read _ _ _ _ refl c.trees-test.true c.index-trees-p.is in
    let at = phase_at g.P.PhaseModel.phase_of c.args.models.now c.trees.p c.index-models-p.result (omega arith) c.index-models-p.is in
    let verdict = subst (IsVerdict (IsRightAt (g.P.PhaseModel.phase_of c.index-models-p.result) c.args.potentials.now c.as_slice-nodes.result.now)) c.in-None.is c.in_ok-found.ensures.exact in
    let next = lines_next c.args.trees.now c.trees.p c.index-trees-p.result is in
    record {
      line_is = (omega (arith, next, ap length nodes, c.trees.invariant.line_is));
      right = right_next (map g.P.PhaseModel.phase_of c.args.models.now) c.args.potentials.now c.args.trees.now c.trees.p _ c.index-trees-p.result c.as_slice-nodes.result.now at is nodes c.trees.invariant.right verdict;
    }

pub returns : goal.returns
returns g c = right_all (map g.P.PhaseModel.phase_of c.args.models.now) c.args.potentials.now c.args.trees.now c.trees.p (omega arith) c.trees.invariant.right
