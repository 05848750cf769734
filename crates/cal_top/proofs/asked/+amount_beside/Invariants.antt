use Rattle.std.proofs.Common.{length}
use Rattle.cal_top.proofs.asked.+amount_beside.Given as goal

abbrev pub decreases-amount_beside : goal.decreases-amount_beside
decreases-amount_beside l = length l.elements.now
