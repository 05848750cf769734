use Rattle.std.proofs.Common.{length}
use Rattle.cef_box.proofs.whole.+with_lists.Given as goal

abbrev pub decreases-with_lists : goal.decreases-with_lists
decreases-with_lists l = length l.sites.now
