use Rattle.tdb_expr.proofs.Values.{are_digits}
use Rattle.tdb_expr.proofs.power.magnitude.Goals as goal

pub capped_value-value-requires : goal.capped_value-value-requires
capped_value-value-requires c = are_digits _ c.split_digits.result.0.now c.split_digits.ensures.digits
