use Rattle.tdb_forms.proofs.Readings.{unreadable, no_number}
use Rattle.tdb_forms.proofs.number.number_at.Goals as goal

pub returns-in-None-readable-clause-none : goal.returns-in-None-readable-clause-none
returns-in-None-readable-clause-none c = unreadable c.args.text.now c.in-Some.front.now c.in-Some.rest.now c.readable.result c.in-Some.ensures.found c.readable.ensures c.in-None-readable.is
