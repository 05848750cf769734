-- Phases that can be swept under the same potential of two elements.
use Rattle.std.specs.Prelude.{List}
use Rattle.std.specs.List.{AllByRecursion}
use Rattle.cef_core.specs.declared.phase.PhaseAt.{PhaseAt}
use Rattle.cef_core.specs.Phases.{IsFine}
use Rattle.sample_phases.specs.Samples.{HasPlanes}

pub record AreSweepable (phases : List PhaseAt) : Type 0 where
  pub fine : AllByRecursion IsFine phases
  pub planes : AllByRecursion HasPlanes phases
