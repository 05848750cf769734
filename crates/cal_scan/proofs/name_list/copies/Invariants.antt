use Rattle.std.proofs.Common.{◌≡◌, take, map}
use Rattle.cal_scan.proofs.name_list.copies.Given as goal

abbrev pub invariant-words : goal.invariant-words
invariant-words l = l.names ≡ map (λ w. w.now) (take l.word-index l.words)
