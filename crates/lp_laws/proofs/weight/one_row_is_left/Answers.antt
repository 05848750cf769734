use Rattle.lp_laws.proofs.Idle.{stays_killed}
use Rattle.lp_laws.proofs.weight.one_row_is_left.Goals as goal

pub returns : goal.returns
returns c = λ n m i columns rows own u lt basis. stays_killed n m columns rows own basis u i lt
