use Rattle.std.proofs.Common.{◌≡◌, map, take}
use Rattle.sweep_tests.proofs.sweeps.models_of.Given as goal

abbrev pub invariant-phases : goal.invariant-phases
invariant-phases l = map (λ model. model.phase.now) l.models.items ≡ take l.i l.phases
