use Rattle.cal_log.specs.Series.{log_step-longer}
use Rattle.cal_log.proofs.laws.series_ends.Goals as goal

pub returns : goal.returns
returns c = log_step-longer
