use Rattle.sample_phases.proofs.Fine.{pair_fine, pair_lattice, pair_sites, pair_planes}
use Rattle.sample_phases.proofs.solutions.pair.Goals as goal

pub returns-clause-fine : goal.returns-clause-fine
returns-clause-fine c = pair_fine c.in_ok-row.row c.in_ok-phase.phase c.in_ok-row.ensures c.in_ok-phase.ensures

pub returns-clause-lattice : goal.returns-clause-lattice
returns-clause-lattice c = pair_lattice c.in_ok-row.row c.in_ok-phase.phase c.in_ok-phase.ensures

pub returns-clause-sites : goal.returns-clause-sites
returns-clause-sites c = pair_sites c.in_ok-row.row c.in_ok-phase.phase c.in_ok-row.ensures c.in_ok-phase.ensures

pub returns-clause-planes : goal.returns-clause-planes
returns-clause-planes c = pair_planes c.in_ok-row.row c.in_ok-phase.phase c.in_ok-row.ensures c.in_ok-phase.ensures
