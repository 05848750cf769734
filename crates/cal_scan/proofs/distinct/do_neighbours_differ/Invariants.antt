use Rattle.std.proofs.Common.{◌≡◌, false}
use Rattle.std.specs.List.{AllAdjacentBelow}
use Rattle.cal_scan.specs.Words.{same_word}
use Rattle.cal_scan.proofs.distinct.do_neighbours_differ.Given as goal

abbrev pub invariant-places : goal.invariant-places
invariant-places l = AllAdjacentBelow (λ v w. same_word v.1.now w.1.now ≡ false) l.words l.place
