use Rattle.lp_laws.proofs.Weights.{weights_add}
use Rattle.lp_laws.proofs.descent.weights_give_target.Goals as goal

pub returns : goal.returns
returns c = weights_add
