use Rattle.lp_laws.proofs.Steps.{lists_stay}
use Rattle.lp_laws.proofs.descent.lists_stay_above.Goals as goal

pub returns : goal.returns
returns c = lists_stay
