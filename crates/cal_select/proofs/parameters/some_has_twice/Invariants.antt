use Rattle.std.proofs.Common.{◌≡◌, take, false}
use Rattle.std.specs.List.{list_any}
use Rattle.cal_select.specs.Parameters.{has_twice}
use Rattle.cal_select.proofs.parameters.some_has_twice.Given as goal

abbrev pub invariant-lists : goal.invariant-lists
invariant-lists l = list_any has_twice (take l.place l.array) ≡ false
