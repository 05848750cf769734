use Rattle.tdb_expr.proofs.Values.{no_number, number_unread, number_read}
use Rattle.tdb_expr.proofs.reading.number.Goals as goal

pub returns-in-None : goal.returns-in-None
returns-in-None c = no_number c.args.text.now c.in-None.ensures.none

pub returns-in-None-value : goal.returns-in-None-value
returns-in-None-value c = number_unread c.args.text.now c.in-Some.number.now c.in-Some.rest.now c.value.result c.in-Some.ensures.found c.value.ensures c.in-None-value.is

pub returns-in-Some-value : goal.returns-in-Some-value
returns-in-Some-value c = number_read c.args.text.now c.in-Some.number.now c.in-Some.rest.now c.value.result c.in-Some-value.value c.in-Some.ensures.found c.value.ensures c.in-Some-value.is
