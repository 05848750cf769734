use Rattle.std.proofs.Common.{length}
use Rattle.lp_core.specs.Starts.{AreStarts}
use Rattle.lp_core.proofs.start.starts_of.Given as goal

abbrev pub invariant-places : goal.invariant-places
invariant-places l = AreStarts (length l.target) l.columns l.target l.places l.j l.starts.items
