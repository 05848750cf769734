use Rattle.std.proofs.Common.{length}
use Rattle.cef_box.proofs.flat.+have_lists.Given as goal

abbrev pub decreases-have_lists : goal.decreases-have_lists
decreases-have_lists l = length l.ends.now
