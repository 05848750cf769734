use Rattle.std.proofs.Common.{length}
use Rattle.cef_box.proofs.widths.+widest_in.Given as goal

abbrev pub decreases-widest_in : goal.decreases-widest_in
decreases-widest_in l = length l.low.now
