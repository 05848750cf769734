use Rattle.std.proofs.Common.{length}
use Rattle.cef_core.proofs.constitution.+some_content_over.Given as goal

abbrev pub decreases-some_content_over : goal.decreases-some_content_over
decreases-some_content_over l = length l.ratios.now
