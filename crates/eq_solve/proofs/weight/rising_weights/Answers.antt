use Rattle.std.proofs.Common.{sym, arith}
use Rattle.eq_solve.proofs.Weighing.{risen_read, all_risen}
use Rattle.eq_solve.proofs.weight.rising_weights.Goals as goal

pub weights-preserved : goal.weights-preserved
weights-preserved c =
    rw c.in_ok-insert.ensures.items
    (risen_read c.args.weights.now c.weights.k c.place_among-place.result _ c.weights.rising.items c.weights-test.true c.weights.invariant (rw c.deref.ensures.value at c.place_among-place.ensures))

pub returns-clause-permutation : goal.returns-clause-permutation
returns-clause-permutation c = all_risen c.args.weights.now c.weights.k c.weights.rising.items (omega (arith, c.weights-test.false)) c.weights.invariant

pub returns-clause-rising : goal.returns-clause-rising
returns-clause-rising c = c.weights.invariant.ordered
