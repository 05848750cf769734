use Rattle.std.proofs.Common.{length}
use Rattle.cal_select.proofs.parameters.+are_kept_from.Given as goal

abbrev pub decreases-are_kept_from : goal.decreases-are_kept_from
decreases-are_kept_from l = length l.kept.now
