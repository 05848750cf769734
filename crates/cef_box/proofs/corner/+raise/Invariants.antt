use Rattle.std.proofs.Common.{length}
use Rattle.cef_box.proofs.corner.+raise.Given as goal

abbrev pub decreases-raise : goal.decreases-raise
decreases-raise l = length l.low.now
