use Rattle.std.proofs.Common.{length}
use Rattle.cef_box.proofs.flat.+tighten_rows.Given as goal

abbrev pub decreases-tighten_rows : goal.decreases-tighten_rows
decreases-tighten_rows l = length l.ends.now
