use Rattle.eq_solve.proofs.Weighing.{IsRisen}
use Rattle.eq_solve.proofs.weight.rising_weights.Given as goal

abbrev pub invariant-weights : goal.invariant-weights
invariant-weights l = IsRisen l.weights l.k l.rising.items
