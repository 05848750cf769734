use Rattle.temp_fun.specs.States.{AreUnvisited}
use Rattle.temp_fun.proofs.valuing.unvisited.Given as goal

abbrev pub invariant-marks : goal.invariant-marks
invariant-marks l = record { unvisited : AreUnvisited l.counter l.marks.items }
