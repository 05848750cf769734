use Rattle.cal_dec.specs.Rereading.{printed_whole_is_read}
use Rattle.cal_dec.proofs.laws.printed_is_read.Goals as goal

pub returns : goal.returns
returns c = printed_whole_is_read
