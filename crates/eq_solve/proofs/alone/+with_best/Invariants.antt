use Rattle.std.proofs.Common.{length}
use Rattle.eq_solve.proofs.alone.+with_best.Given as goal

abbrev pub decreases-with_best : goal.decreases-with_best
decreases-with_best l = length l.sublattices.now
