use Rattle.std.proofs.Common.{map}
use Rattle.eq_sweep.proofs.Phases.{Comes}
use Rattle.eq_sweep.proofs.sweeping.sweep.Given as goal

abbrev pub invariant-phases : goal.invariant-phases
invariant-phases g l = Comes l.potentials l.budget (map g.P.PhaseModel.phase_of l.phases) l.place l.trees l.splits
