use Rattle.lp_laws.proofs.Falling.{some_place}
use Rattle.lp_laws.proofs.descent.some_place_is_left.Goals as goal

pub returns : goal.returns
returns c = λ n m columns rows own x basis least none. some_place n m columns rows own basis least x none
