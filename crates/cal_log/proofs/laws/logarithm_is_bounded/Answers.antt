use Rattle.cal_log.specs.Laws.{log_of-1000, log_of-501001, log_of-600000}
use Rattle.cal_log.proofs.laws.logarithm_is_bounded.Goals as goal

pub returns : goal.returns
returns c = record { at_1000 = log_of-1000; from_1000_to_501001 = log_of-501001; at_600000 = log_of-600000 }
