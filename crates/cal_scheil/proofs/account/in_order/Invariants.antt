use Rattle.std.proofs.Common.{◌≡◌, take}
use Rattle.cal_scheil.specs.Accounts as spec
use Rattle.cal_scheil.proofs.account.in_order.Given as goal

abbrev pub invariant-names : goal.invariant-names
invariant-names l = l.all ≡ spec.in_order l.names l.numbers (take l.name-index l.order)
