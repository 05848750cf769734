use Rattle.std.proofs.Common.{length}
use Rattle.cef_box.proofs.tight_row.+tighten_by.Given as goal

abbrev pub decreases-tighten_by : goal.decreases-tighten_by
decreases-tighten_by l = length l.low.now
