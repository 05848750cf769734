use Rattle.std.proofs.Common.{length}
use Rattle.cef_box.proofs.tight_row.+is_ordered.Given as goal

abbrev pub decreases-is_ordered : goal.decreases-is_ordered
decreases-is_ordered l = length l.low.now
