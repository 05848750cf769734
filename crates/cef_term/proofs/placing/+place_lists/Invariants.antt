use Rattle.std.proofs.Common.{length}
use Rattle.cef_term.proofs.placing.+place_lists.Given as goal

abbrev pub decreases-place_lists : goal.decreases-place_lists
decreases-place_lists l = length l.sites.now
