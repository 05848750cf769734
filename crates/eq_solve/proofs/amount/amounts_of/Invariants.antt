use Rattle.std.proofs.Common.{◌≡◌, take, map}
use Rattle.eq_solve.specs.Prices.{floored}
use Rattle.eq_solve.proofs.amount.amounts_of.Given as goal

abbrev pub invariant-weights : goal.invariant-weights
invariant-weights l = l.amounts.items ≡ map (floored l.parts) (take l.weight-index l.weights)
