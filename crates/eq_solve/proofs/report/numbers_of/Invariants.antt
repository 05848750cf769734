use Rattle.std.proofs.Common.{◌≡◌, take}
use Rattle.eq_solve.proofs.report.numbers_of.Given as goal

abbrev pub invariant-numbers : goal.invariant-numbers
invariant-numbers l = l.copy ≡ take l.number-index l.numbers
