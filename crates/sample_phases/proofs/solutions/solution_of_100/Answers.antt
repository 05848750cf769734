use Rattle.sample_phases.proofs.Fine.{solution_100}
use Rattle.sample_phases.proofs.solutions.solution_of_100.Goals as goal

pub returns : goal.returns
returns c = solution_100 c.in_ok-phase.phase c.in_ok-phase.ensures
