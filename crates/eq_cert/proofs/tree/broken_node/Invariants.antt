use Rattle.std.proofs.Common.{drop}
use Rattle.eq_cert.proofs.Walks.{Goes}
use Rattle.eq_cert.proofs.tree.broken_node.Given as goal

abbrev pub invariant-nodes : goal.invariant-nodes
invariant-nodes g l = Goes (g.P.PhaseModel.phase_of l.model) l.potentials l.nodes l.waiting (drop l.place l.nodes)
