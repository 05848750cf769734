use Rattle.tdb_expr.proofs.Once.{read_once}
use Rattle.tdb_expr.proofs.laws.one_reading.Goals as goal

pub returns : goal.returns
returns c = read_once
