use Rattle.cef_phase.proofs.Raising.{IsRaised}
use Rattle.cef_phase.proofs.planes.raise_all.Given as goal

abbrev pub invariant-each : goal.invariant-each
invariant-each l = IsRaised l.phase l.range l.index-index l.slopes l.total
