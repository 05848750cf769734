use Rattle.std.proofs.Common.{length}
use Rattle.cef_phase.proofs.mixing.+mixing_of_counts.Given as goal

abbrev pub decreases-mixing_of_counts : goal.decreases-mixing_of_counts
decreases-mixing_of_counts l = length l.counts.now
