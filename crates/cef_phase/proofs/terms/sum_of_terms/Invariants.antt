use Rattle.cef_core.specs.Parameters.{parameter_value}
use Rattle.cef_phase.proofs.Adding.{IsSumUpTo}
use Rattle.cef_phase.proofs.terms.sum_of_terms.Given as goal

abbrev pub invariant-each : goal.invariant-each
invariant-each l = IsSumUpTo (λ t. parameter_value t.phase.now.lattice t.parameter.now l.site) l.terms l.term-index l.total
