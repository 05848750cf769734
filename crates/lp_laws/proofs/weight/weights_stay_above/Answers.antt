use Rattle.lp_laws.proofs.Idle.{stays_least}
use Rattle.lp_laws.proofs.weight.weights_stay_above.Goals as goal

pub returns : goal.returns
returns c = λ n m i columns rows columns' rows' own own' x basis basis' step. stays_least n m i columns rows own columns' rows' own' x basis basis' step.stays
