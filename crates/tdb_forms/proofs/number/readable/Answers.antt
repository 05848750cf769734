use Rattle.std.proofs.Common.{subst}
use Rattle.tdb_forms.proofs.Readings.{Reads, read_ok, read_err}
use Rattle.tdb_forms.proofs.number.readable.Goals as goal

pub returns-in-Ok : goal.returns-in-Ok
returns-in-Ok c = read_ok c.args.token.now c.in-Ok.number (record { not_a_number = c.in-Ok.ensures.not_a_number; too_long = c.in-Ok.ensures.too_long; value = c.in-Ok.ensures.value })

pub returns-in-Err : goal.returns-in-Err
returns-in-Err c = read_err c.args.token.now _ (record { not_a_number = c.in-Err.ensures.not_a_number; too_long = c.in-Err.ensures.too_long; value = c.in-Err.ensures.value })
