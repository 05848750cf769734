use Rattle.std.proofs.Common.{ap, subst, ◌∙◌}
use Rattle.cef_box.specs.Tight.{full_box}
use Rattle.eq_cert.specs.Nodes.{IsFound}
use Rattle.eq_cert.proofs.Walks.{step_start, step_end, step_parts, step_wrong, step_none, step_done}
use Rattle.eq_cert.proofs.Ready.{full_ready}
use Rattle.eq_cert.proofs.tree.broken_node.Goals as goal
use Rattle.eq_cert.proofs.tree.broken_node.Goals.{in-Covered, in-Parts+in_ok-push-in-Parts+in_ok-push-in-Parts-2}

pub returns-in-None-clause-exact : goal.returns-in-None-clause-exact
returns-in-None-clause-exact g c = step_none (g.P.PhaseModel.phase_of c.args.model.now) c.args.potentials.now c.args.nodes.now c.nodes.waiting c.nodes.place c.in-None.ensures.none c.nodes.invariant

pub returns-in-Wrong-clause-exact : goal.returns-in-Wrong-clause-exact
returns-in-Wrong-clause-exact g c =
    let found = subst (IsFound (g.P.PhaseModel.phase_of c.args.model.now) c.args.potentials.now c.in-Some.range c.index-nodes-place.result) c.in-Wrong.is c.in_ok-found-in-Some.ensures in
    step_wrong (g.P.PhaseModel.phase_of c.args.model.now) c.args.potentials.now c.args.nodes.now c.nodes.waiting c.pop.new.self c.in-Some.range c.nodes.place c.index-nodes-place.result c.in-Some.ensures.some c.nodes-test.true c.index-nodes-place.is c.nodes.invariant c.requires.spelled found

pub nodes-preserved : goal.nodes-preserved
nodes-preserved g c = elim c.match-found.branch [
  | in-Covered w ↦
      let found = subst (IsFound (g.P.PhaseModel.phase_of c.args.model.now) c.args.potentials.now c.in-Some.range c.index-nodes-place.result) w.in-Covered.is c.in_ok-found-in-Some.ensures in
      rw w.waiting-is (step_end (g.P.PhaseModel.phase_of c.args.model.now) c.args.potentials.now c.args.nodes.now c.nodes.waiting c.pop.new.self c.in-Some.range c.nodes.place c.index-nodes-place.result c.in-Some.ensures.some c.nodes-test.true c.index-nodes-place.is c.nodes.invariant found)
  | in-Parts+in_ok-push-in-Parts+in_ok-push-in-Parts-2 w ↦
      let found = subst (IsFound (g.P.PhaseModel.phase_of c.args.model.now) c.args.potentials.now c.in-Some.range c.index-nodes-place.result) w.in-Parts.is c.in_ok-found-in-Some.ensures in
      rw (w.waiting-is, w.in_ok-push-in-Parts-2.ensures.ok, w.in_ok-push-in-Parts.ensures.ok) (step_parts (g.P.PhaseModel.phase_of c.args.model.now) c.args.potentials.now c.args.nodes.now c.nodes.waiting c.pop.new.self c.in-Some.range w.in-Parts.left w.in-Parts.right c.nodes.place c.index-nodes-place.result c.in-Some.ensures.some c.nodes-test.true c.index-nodes-place.is c.nodes.invariant found)
]

pub returns-clause-exact : goal.returns-clause-exact
returns-clause-exact g c = step_done (g.P.PhaseModel.phase_of c.args.model.now) c.args.potentials.now c.args.nodes.now c.nodes.waiting c.nodes.place c.nodes-test.false c.nodes.invariant

pub nodes-init : goal.nodes-init
nodes-init g c =
    let phase = g.P.PhaseModel.phase_of c.args.model.now in
    step_start phase c.args.potentials.now c.args.nodes.now c.push.new.self c.new-waiting.result c.in_ok-full.field-0 c.requires.spelled (full_ready phase c.requires.fine) (c.in_ok-full.ensures.exact ∙ ap full_box c.phase.ensures) c.in_ok-push.ensures.ok c.new-waiting.ensures
