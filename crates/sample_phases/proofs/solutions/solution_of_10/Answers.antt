use Rattle.sample_phases.proofs.Fine.{solution_10, solution_lattice, solution_sites}
use Rattle.sample_phases.proofs.solutions.solution_of_10.Goals as goal

pub returns-clause-fine : goal.returns-clause-fine
returns-clause-fine c = solution_10 c.in_ok-phase.phase c.in_ok-phase.ensures

pub returns-clause-lattice : goal.returns-clause-lattice
returns-clause-lattice c = solution_lattice c.in_ok-phase.phase c.in_ok-phase.ensures

pub returns-clause-sites : goal.returns-clause-sites
returns-clause-sites c = solution_sites c.in_ok-phase.phase c.in_ok-phase.ensures
