use Rattle.std.proofs.Common.{◌≡◌, take, map, length}
use Rattle.cef_core.specs.Parameters.{interacting}
use Rattle.cal_select.proofs.limits.interactions.Given as goal

abbrev pub invariant-lists : goal.invariant-lists
invariant-lists l = l.lengths ≡ map length (interacting (take l.places-index l.array))
