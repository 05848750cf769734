use Rattle.std.proofs.Common.{length}
use Rattle.cef_core.proofs.constitution.+content_over.Given as goal

abbrev pub decreases-content_over : goal.decreases-content_over
decreases-content_over l = length l.ratios.now
