use Rattle.std.proofs.Common.{length}
use Rattle.cef_core.proofs.order.+are_less.Given as goal

abbrev pub decreases-are_less : goal.decreases-are_less
decreases-are_less l = length l.first.now
