use Rattle.std.proofs.Common.{rules}
use Rattle.lp_basis.proofs.Pricing.{at_zeros}
use Rattle.lp_basis.proofs.potential.zeros.Goals as goal

pub zeros-preserved : goal.zeros-preserved
zeros-preserved c = record { sized = search rules; every = λ k. rw c.in_ok-push.ensures.items (at_zeros c.zeros.numbers.items k c.zeros.invariant.every) }
