use Rattle.std.proofs.Common.{drop}
use Rattle.tdb_read.proofs.Folds.{Behind}
use Rattle.tdb_read.proofs.reading.fold.Given as goal

abbrev pub invariant-commands : goal.invariant-commands
invariant-commands l = Behind l.db (drop l.i l.list) l.list l.unfinished
