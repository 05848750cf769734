use Rattle.std.proofs.Common.{◌≡◌, take}
use Rattle.std.specs.Prelude.{filter}
use Rattle.eq_solve.specs.Figures.{is_some}
use Rattle.eq_solve.proofs.amount.some_of.Given as goal

abbrev pub invariant-amounts : goal.invariant-amounts
invariant-amounts l = l.some.items ≡ filter is_some (take l.amount-index l.amounts)
