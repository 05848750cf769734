-- The phases of a system are within their limits, so each has a model.
use Rattle.std.proofs.Common.{List, [], ◌∷◌, All, arith}
use Rattle.std.specs.List.{AllByRecursion}
use Rattle.std.proofs.lemmas.List.Elements.{All-cons}
use Rattle.cef_core.specs.declared.phase.PhaseAt.{PhaseAt}
use Rattle.cef_core.specs.declared.system.System.{System}
use Rattle.cef_core.specs.Phases.{IsFine}
use Rattle.cef_core.specs.Systems.{IsPhaseOf}

pub are_fine : (system : System) (phases : List PhaseAt) → AllByRecursion (IsPhaseOf system) phases → All IsFine phases
are_fine system [] all = λ k d lt. absurd (omega (arith, lt))
are_fine system (phase ∷ phases) all = All-cons IsFine phase phases all.0.fine (are_fine system phases all.1)
