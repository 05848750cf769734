use Rattle.std.proofs.Common.{◌≡◌}
use Rattle.cal_math.specs.Vectors.{at, dot}
use Rattle.lp_basis.proofs.row.product.Given as goal

abbrev pub invariant-sum : goal.invariant-sum
invariant-sum l = l.sum ≡ dot l.i (at l.row) (at l.column)
