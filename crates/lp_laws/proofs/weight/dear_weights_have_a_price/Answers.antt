use Rattle.lp_laws.proofs.Idle.{price_above}
use Rattle.lp_laws.proofs.weight.dear_weights_have_a_price.Goals as goal

pub returns : goal.returns
returns c = λ n m l columns rows own costs numbers x denominator lt basis priced cost_least least. price_above n m columns rows own costs numbers x denominator basis priced cost_least least l lt
