use Rattle.cef_term.specs.Bounds.{parameter_low}
use Rattle.cef_phase.proofs.Adding.{IsLowUpTo}
use Rattle.cef_phase.proofs.terms.low_of_terms.Given as goal

abbrev pub invariant-each : goal.invariant-each
invariant-each l = IsLowUpTo (λ t. parameter_low t.phase.now.lattice t.parameter.now l.range) l.terms l.term-index l.total
