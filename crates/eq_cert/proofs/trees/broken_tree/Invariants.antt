use Rattle.std.proofs.Common.{◌≡◌, ℕ, ◌<◌, map}
use Rattle.eq_cert.specs.Rules.{IsRightNode, lines_before}
use Rattle.eq_cert.proofs.trees.broken_tree.Given as goal

abbrev pub invariant-trees : goal.invariant-trees
invariant-trees g l = record {
  line_is : l.line ≡ lines_before l.trees l.p;
  right : (q k : ℕ) → q < l.p → IsRightNode (map g.P.PhaseModel.phase_of l.models) l.potentials l.trees q k;
}
