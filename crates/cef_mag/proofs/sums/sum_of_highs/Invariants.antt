use Rattle.cef_mag.proofs.Adding.{IsSumUpTo}
use Rattle.cef_mag.proofs.sums.sum_of_highs.Given as goal

abbrev pub invariant-each : goal.invariant-each
invariant-each g l = IsSumUpTo (λ t. g.T.Term.high_over t l.range) g.T.Term.most l.terms l.term-index l.total
