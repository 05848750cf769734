use Rattle.tdb_read.proofs.Ratios.{Held}
use Rattle.tdb_read.proofs.phase.ratios.Given as goal

abbrev pub invariant-ratios : goal.invariant-ratios
invariant-ratios l = Held l.n l.text l.all l.rest l._i
