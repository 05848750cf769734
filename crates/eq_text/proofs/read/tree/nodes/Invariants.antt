use Rattle.std.proofs.Common.{◌≡◌, ◌+◌, ◌≤◌, length}
use Rattle.cal_lines.specs.Reading.{many}
use Rattle.cal_lines.specs.Places.{place}
use Rattle.cal_lines.proofs.Many.{with_before}
use Rattle.eq_text.specs.Kinds.{node_of}
use Rattle.eq_text.specs.Parsing.{node_next}
use Rattle.eq_text.proofs.read.tree.nodes.Given as goal

abbrev pub invariant-nodes : goal.invariant-nodes
invariant-nodes l = record {
  few : l.open_trees + length l.here.rest.now ≤ 1 + length l.fn.at.rest.now;
  on : with_before l.all (many node_next node_of l.open_trees (place l.here).0 (place l.here).1) ≡ many node_next node_of 1 (place l.fn.at).0 (place l.fn.at).1;
}

abbrev pub decreases-nodes : goal.decreases-nodes
decreases-nodes l = length l.here.rest.now
