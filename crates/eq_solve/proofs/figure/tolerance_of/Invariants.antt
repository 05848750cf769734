use Rattle.std.specs.Prelude.{◌-ℤ◌}
use Rattle.cal_math.specs.Vectors.{at}
use Rattle.eq_solve.specs.Figures.{IsGreatest}
use Rattle.eq_solve.proofs.figure.tolerance_of.Given as goal

abbrev pub invariant-components : goal.invariant-components
invariant-components l = IsGreatest l.c (λ c. at l.asked c -ℤ at l.totals c) l.greatest
