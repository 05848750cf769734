use Rattle.cal_log.specs.Laws.{log_of-le, log_between-le}
use Rattle.cal_log.proofs.laws.logarithm_rises.Goals as goal

pub returns : goal.returns
returns c = record { at_numbers = log_of-le; between_thousandths = log_between-le }
