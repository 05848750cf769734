use Rattle.std.proofs.Common.{◌≡◌, take, false}
use Rattle.std.specs.List.{list_any}
use Rattle.tdb_read.specs.Database.{same_key}
use Rattle.cal_select.specs.Parameters.{of_order, parameters_of}
use Rattle.cal_select.proofs.arrays.has_order.Given as goal

abbrev pub invariant-numbers : goal.invariant-numbers
invariant-numbers l = list_any (λ e. same_key (of_order l.key l.order) e.0) (take l.number (parameters_of l.db l.group.phase.now)) ≡ false
