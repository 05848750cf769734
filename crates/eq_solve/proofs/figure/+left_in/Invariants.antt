use Rattle.std.proofs.Common.{length}
use Rattle.eq_solve.proofs.figure.+left_in.Given as goal

abbrev pub decreases-left_in : goal.decreases-left_in
decreases-left_in l = length l.amounts.now
