use Rattle.cef_phase.proofs.Raising.{AreOthersUpTo}
use Rattle.cef_phase.proofs.planes.other_terms.Given as goal

abbrev pub invariant-each : goal.invariant-each
invariant-each l = AreOthersUpTo l.phase l.index l.terms.items
