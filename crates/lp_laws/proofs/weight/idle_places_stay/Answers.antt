use Rattle.lp_laws.proofs.Idle.{stays_idle}
use Rattle.lp_laws.proofs.weight.idle_places_stay.Goals as goal

pub returns : goal.returns
returns c = λ n m i columns rows columns' rows' own own' x basis basis' step. stays_idle n m i columns rows own columns' rows' own' x basis basis' step.stays
