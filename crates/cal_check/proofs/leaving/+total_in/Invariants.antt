use Rattle.std.proofs.Common.{length}
use Rattle.cal_check.proofs.leaving.+total_in.Given as goal

abbrev pub decreases-total_in : goal.decreases-total_in
decreases-total_in l = length l.entries.now
