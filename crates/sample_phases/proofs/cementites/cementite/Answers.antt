use Rattle.sample_phases.proofs.Fine.{cementite_fine}
use Rattle.sample_phases.proofs.cementites.cementite.Goals as goal

pub returns : goal.returns
returns c = cementite_fine c.in_ok-phase.phase c.in_ok-phase.ensures
