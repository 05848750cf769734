use Rattle.cal_words.specs.Found.{texts_of}
use Rattle.cal_words.proofs.Finding.{FindsBelow}
use Rattle.cal_words.proofs.words.find_fitting.Given as goal

abbrev pub invariant-entries : goal.invariant-entries
invariant-entries l = FindsBelow (texts_of l.entries) l.word l.place l.found
