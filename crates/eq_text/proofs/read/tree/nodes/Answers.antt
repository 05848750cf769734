use Rattle.std.proofs.Common.{arith, ◌-◌}
use Rattle.std.proofs.lemmas.Result.{err_from_is_err_and}
use Rattle.cal_lines.specs.Places.{place}
use Rattle.cal_lines.proofs.Many.{goes_on, ends, is_done}
use Rattle.eq_text.specs.Kinds.{node_of}
use Rattle.eq_text.specs.Parsing.{node_next, nodes_at}
use Rattle.eq_text.proofs.read.tree.nodes.Goals as goal

pub returns-in_err-node : goal.returns-in_err-node
unfolding nodes_at
returns-in_err-node c =
    let p = err_from_is_err_and c.from_residual.result c.from_residual.ensures.1 in
    rw (p.1, p.2) (ends node_next node_of c.in_err-node.field-0.0 c.nodes.all c.nodes.open_trees (place c.nodes.here) _ c.nodes-test.true c.in_err-node.ensures.reads c.nodes.invariant.on)

pub nodes-preserved : goal.nodes-preserved
nodes-preserved c = record {
  few = omega (arith, c.in_ok-node.ensures.shorter, c.open_behind-open_trees.ensures.bound);
  on = rw (c.in_ok-push.ensures.ok, c.open_behind-open_trees.ensures.next) (goes_on node_next node_of c.nodes.all c.nodes.open_trees (c.nodes.open_trees - 1) (place c.nodes.here) (place c.in_ok-node.after) c.in_ok-node.node _ (omega arith) c.in_ok-node.ensures.reads c.nodes.invariant.on);
}

pub returns : goal.returns
unfolding nodes_at
returns c = is_done node_next node_of c.nodes.all c.nodes.open_trees (place c.nodes.here) _ (omega arith) c.nodes.invariant.on
