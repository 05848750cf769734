use Rattle.sample_phases.proofs.Fine.{magnetic_fine, magnetic_lattice, magnetic_sites, magnetic_planes}
use Rattle.sample_phases.proofs.magnetics.magnetic_pair.Goals as goal

pub returns-clause-fine : goal.returns-clause-fine
returns-clause-fine c = magnetic_fine c.in_ok-phase.phase c.in_ok-phase.ensures

pub returns-clause-lattice : goal.returns-clause-lattice
returns-clause-lattice c = magnetic_lattice c.in_ok-phase.phase c.in_ok-phase.ensures

pub returns-clause-sites : goal.returns-clause-sites
returns-clause-sites c = magnetic_sites c.in_ok-phase.phase c.in_ok-phase.ensures

pub returns-clause-planes : goal.returns-clause-planes
returns-clause-planes c = magnetic_planes c.in_ok-phase.phase c.in_ok-phase.ensures
