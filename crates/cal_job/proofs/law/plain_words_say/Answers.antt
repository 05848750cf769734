use Rattle.cal_job.proofs.Commands.{plain_says}
use Rattle.cal_job.proofs.law.plain_words_say.Goals as goal

pub returns : goal.returns
returns c = plain_says
