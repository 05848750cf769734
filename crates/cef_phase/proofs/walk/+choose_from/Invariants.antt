use Rattle.std.proofs.Common.{length}
use Rattle.cef_phase.proofs.walk.+choose_from.Given as goal

abbrev pub decreases-choose_from : goal.decreases-choose_from
decreases-choose_from l = length l.out.now
