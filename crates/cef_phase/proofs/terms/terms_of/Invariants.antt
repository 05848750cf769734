use Rattle.cef_core.specs.Phases.{of_kind}
use Rattle.cef_phase.proofs.Adding.{AreTermsUpTo}
use Rattle.cef_phase.proofs.terms.terms_of.Given as goal

abbrev pub invariant-each : goal.invariant-each
invariant-each l = AreTermsUpTo (of_kind l.kind) l.phase l.index l.terms.items
