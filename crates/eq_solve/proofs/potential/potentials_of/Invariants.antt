use Rattle.std.proofs.Common.{◌≡◌, take, map}
use Rattle.eq_solve.specs.Prices.{lowered}
use Rattle.eq_solve.proofs.potential.potentials_of.Given as goal

abbrev pub invariant-numbers : goal.invariant-numbers
invariant-numbers l = l.potentials.items ≡ map (lowered l.denominator l.margin) (take l.number-index l.numbers)
