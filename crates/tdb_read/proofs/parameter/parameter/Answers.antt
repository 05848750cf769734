use Rattle.tdb_read.proofs.Found.{no_bracket, no_range}
use Rattle.tdb_read.proofs.parameter.parameter.Goals as goal

pub returns-in-None-clause-value : goal.returns-in-None-clause-value
returns-in-None-clause-value c = no_bracket c.args.line c.args.text.now c.in-None.ensures.none

pub returns-in-None-found-2-clause-value : goal.returns-in-None-found-2-clause-value
returns-in-None-found-2-clause-value c =
    no_range c.args.line c.args.text.now c.in-Some.field-0.kind.now c.in-Some.field-0.inner.now c.in-Some.field-0.behind.now c.in_ok-found-in-Some-found.found c.in-Some.ensures.found c.in_ok-found-in-Some-found.ensures.value c.in-None-found-2.is
