use Rattle.lp_laws.proofs.Unique.{same_rows}
use Rattle.lp_laws.proofs.basis.rows_are_unique.Goals as goal

pub returns : goal.returns
returns c = same_rows
