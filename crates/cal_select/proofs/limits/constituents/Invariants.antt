use Rattle.std.proofs.Common.{◌≡◌, take, map, length, min}
use Rattle.std.specs.Prelude.{sum}
use Rattle.cal_select.proofs.limits.constituents.Given as goal

abbrev pub invariant-lists : goal.invariant-lists
invariant-lists l = l.count ≡ min 100 (sum (map length (take l.places-index l.array)))
