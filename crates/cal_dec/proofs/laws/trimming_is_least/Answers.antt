use Rattle.cal_dec.specs.Trimming.{digits_over-enough, digits_over-least}
use Rattle.cal_dec.proofs.laws.trimming_is_least.Goals as goal

pub returns : goal.returns
returns c = record { enough = digits_over-enough; least = digits_over-least }
