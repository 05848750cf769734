use Rattle.std.proofs.Common.{length}
use Rattle.tdb_forms.proofs.Ranging.{Held}
use Rattle.tdb_forms.proofs.pieces.pieces.Given as goal

abbrev pub invariant-pieces : goal.invariant-pieces
invariant-pieces l = Held l.text l.all l.rest

abbrev pub decreases-pieces : goal.decreases-pieces
decreases-pieces l = length l.rest
