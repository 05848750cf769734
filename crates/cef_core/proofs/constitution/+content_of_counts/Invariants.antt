use Rattle.std.proofs.Common.{length}
use Rattle.cef_core.proofs.constitution.+content_of_counts.Given as goal

abbrev pub decreases-content_of_counts : goal.decreases-content_of_counts
decreases-content_of_counts l = length l.sites.now
