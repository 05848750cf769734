use Rattle.lp_basis.specs.Potentials.{IsDivisor}
use Rattle.lp_basis.proofs.potential.common_divisor.Given as goal

abbrev pub invariant-rests : goal.invariant-rests
invariant-rests l = IsDivisor l.parts l.all l.c l.divisor
