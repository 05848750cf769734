use Rattle.cal_scheil.proofs.Losing.{loss_is_small}
use Rattle.cal_scheil.proofs.law.each_loss_is_small.Goals as goal

pub returns : goal.returns
returns c = loss_is_small
