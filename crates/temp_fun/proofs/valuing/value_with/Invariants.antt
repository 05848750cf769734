use Rattle.temp_fun.specs.States.{IsState, work_left}
use Rattle.temp_fun.proofs.valuing.value_with.Given as goal

abbrev pub invariant-steps : goal.invariant-steps
invariant-steps l = record { state : IsState l.functions.entries l.t l.ranged l.state.marks.items l.state.stack.items l.state.turn }

abbrev pub decreases-steps : goal.decreases-steps
decreases-steps l = work_left l.state.marks.items l.state.stack.items
