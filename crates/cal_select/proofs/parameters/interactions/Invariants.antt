use Rattle.std.proofs.Common.{◌≡◌, take, map, length}
use Rattle.std.specs.Prelude.{filter, nat_lt}
use Rattle.cal_select.proofs.parameters.interactions.Given as goal

abbrev pub invariant-lists : goal.invariant-lists
invariant-lists l = l.lengths ≡ map length (filter (λ names. nat_lt 1 (length names)) (take l.place l.array))
