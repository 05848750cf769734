use Rattle.lp_laws.proofs.Bounds.{number-le}
use Rattle.lp_laws.proofs.bound.row_numbers_are_bounded.Goals as goal

pub returns : goal.returns
returns c = number-le
