use Rattle.std.proofs.Common.{length}
use Rattle.cal_words.proofs.words.+fits.Given as goal

abbrev pub decreases-fits : goal.decreases-fits
decreases-fits l = length l.word.now
