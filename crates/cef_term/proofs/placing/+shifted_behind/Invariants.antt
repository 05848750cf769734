use Rattle.std.proofs.Common.{length}
use Rattle.cef_term.proofs.placing.+shifted_behind.Given as goal

abbrev pub decreases-shifted_behind : goal.decreases-shifted_behind
decreases-shifted_behind l = length l.list.now
