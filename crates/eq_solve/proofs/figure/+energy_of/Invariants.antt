use Rattle.std.proofs.Common.{length}
use Rattle.eq_solve.proofs.figure.+energy_of.Given as goal

abbrev pub decreases-energy_of : goal.decreases-energy_of
decreases-energy_of l = length l.amounts.now
