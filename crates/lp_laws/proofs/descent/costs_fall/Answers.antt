use Rattle.lp_laws.proofs.Steps.{costs_fall_at}
use Rattle.lp_laws.proofs.descent.costs_fall.Goals as goal

pub returns : goal.returns
returns c = costs_fall_at
