-- Systems whose phases are modelled.
use Rattle.std.specs.Prelude.{◌≡◌, List}
use Rattle.cef_core.specs.declared.phase.PhaseAt.{PhaseAt}
use Rattle.cef_core.specs.declared.system.System.{System}
use Rattle.cef_core.specs.Systems.{IsSystem}

-- a system within its limits, and the models of its phases
pub record IsReady (system : System) (phases : List PhaseAt) : Type 0 where
  pub system_is : IsSystem system
  pub models : phases ≡ system.phases
