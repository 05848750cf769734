use Rattle.tdb_read.proofs.Found.{no_function}
use Rattle.tdb_read.proofs.function.function.Goals as goal

pub returns-in-None-clause-value : goal.returns-in-None-clause-value
returns-in-None-clause-value c = no_function c.args.line c.args.text.now c.split_token.result.1.now c.in_ok-found.found c.split_token.ensures.rest c.in_ok-found.ensures.value c.in-None.is
