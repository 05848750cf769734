use Rattle.eq_solve.proofs.Weighing.{among_is}
use Rattle.eq_solve.proofs.weight.place_among.Goals as goal

pub returns-then-column-weights : goal.returns-then-column-weights
returns-then-column-weights c =
    among_is c.args.weights.now c.args.column _ c.weights.place c.weights-test.true c.weights.invariant c.if-column-weights.true
