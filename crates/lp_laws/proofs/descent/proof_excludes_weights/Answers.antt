use Rattle.lp_laws.proofs.Weights.{no_weights}
use Rattle.lp_laws.proofs.descent.proof_excludes_weights.Goals as goal

pub returns : goal.returns
returns c = no_weights
