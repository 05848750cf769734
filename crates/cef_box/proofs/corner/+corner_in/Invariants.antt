use Rattle.std.proofs.Common.{length}
use Rattle.cef_box.proofs.corner.+corner_in.Given as goal

abbrev pub decreases-corner_in : goal.decreases-corner_in
decreases-corner_in l = length l.ends.now
