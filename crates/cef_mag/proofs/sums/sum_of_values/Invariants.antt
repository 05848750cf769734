use Rattle.cef_mag.proofs.Adding.{IsSumUpTo}
use Rattle.cef_mag.proofs.sums.sum_of_values.Given as goal

abbrev pub invariant-each : goal.invariant-each
invariant-each g l = IsSumUpTo (λ t. g.T.Term.value_at t l.site) g.T.Term.most l.terms l.term-index l.total
