use Rattle.std.proofs.Common.{◌+◌}
use Rattle.cef_mix.proofs.Halves.{IsHalving}
use Rattle.cef_mix.proofs.least.turn.Given as goal

abbrev pub invariant-halves : goal.invariant-halves
invariant-halves l = IsHalving l.rises l.most l.low l.high l.first (l.first + l.left)

abbrev pub decreases-halves : goal.decreases-halves
decreases-halves l = l.left
