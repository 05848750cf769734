use Rattle.cal_args.proofs.Choosing.{plain_from}
use Rattle.cal_args.proofs.reading.read_texts.Goals as goal

pub returns-clause-plain : goal.returns-clause-plain
returns-clause-plain c = plain_from _ c.read.result c.read.ensures.holds c.read.ensures.usage
