use Rattle.std.proofs.Common.{◌≡◌, take, map}
use Rattle.eq_solve.proofs.report.phase_names.Given as goal

abbrev pub invariant-phases : goal.invariant-phases
invariant-phases l = l.names ≡ map (λ phase. phase.name) (take l.phase-index l.phases)
