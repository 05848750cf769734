use Rattle.lp_laws.proofs.Parts.{parts-le}
use Rattle.lp_laws.proofs.bound.parts_are_bounded.Goals as goal

pub returns : goal.returns
returns c = parts-le
