use Rattle.std.proofs.Common.{length}
use Rattle.eq_solve.proofs.proposal.gain.Given as goal

abbrev pub invariant-proposals : goal.invariant-proposals
invariant-proposals g l = Unit {0}

abbrev pub decreases-proposals : goal.decreases-proposals
decreases-proposals g l = length l.others.items
