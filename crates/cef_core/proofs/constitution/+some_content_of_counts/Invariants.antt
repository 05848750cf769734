use Rattle.std.proofs.Common.{length}
use Rattle.cef_core.proofs.constitution.+some_content_of_counts.Given as goal

abbrev pub decreases-some_content_of_counts : goal.decreases-some_content_of_counts
decreases-some_content_of_counts l = length l.sites.now
