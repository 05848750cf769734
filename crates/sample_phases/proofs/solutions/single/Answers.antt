use Rattle.sample_phases.proofs.Fine.{single_fine, single_planes}
use Rattle.sample_phases.proofs.solutions.single.Goals as goal

pub returns-clause-fine : goal.returns-clause-fine
returns-clause-fine c = single_fine c.in_ok-row.row c.in_ok-phase.phase c.in_ok-row.ensures c.in_ok-phase.ensures

pub returns-clause-planes : goal.returns-clause-planes
returns-clause-planes c = single_planes c.in_ok-row.row c.in_ok-phase.phase c.in_ok-row.ensures c.in_ok-phase.ensures
