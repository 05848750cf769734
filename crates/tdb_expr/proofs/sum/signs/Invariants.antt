use Rattle.std.proofs.Common.{◌≡◌, drop}
use Rattle.tdb_expr.specs.Reading.{signs_at}
use Rattle.tdb_expr.proofs.Loops.{carried}
use Rattle.tdb_expr.proofs.sum.signs.Given as goal

abbrev pub invariant-signs : goal.invariant-signs
invariant-signs l = carried l.negative (signs_at (drop l.i l.text)) ≡ signs_at l.text
