use Rattle.tdb_expr.proofs.Values.{value_of_ok, none_of_err}
use Rattle.tdb_expr.proofs.reading.value.Goals as goal

pub returns-in-Ok : goal.returns-in-Ok
returns-in-Ok c = value_of_ok c.args.number.now c.in-Ok.value c.requires c.in-Ok.ensures.too_long c.in-Ok.ensures.value

pub returns-in-Err : goal.returns-in-Err
returns-in-Err c = none_of_err c.args.number.now c.in-Err.field-0 c.requires c.in-Err.ensures.not_a_number c.in-Err.ensures.too_long
