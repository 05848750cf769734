use Rattle.std.proofs.Common.{◌≡◌, take, map}
use Rattle.cef_phase.proofs.models.models_of.Given as goal

abbrev pub invariant-phases : goal.invariant-phases
invariant-phases l = map (λ model. model.phase.now) l.models.items ≡ take l.i l.phases
