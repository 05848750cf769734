use Rattle.std.proofs.Common.{◌≡◌, ◌≤◌, take}
use Rattle.cef_core.specs.Phases.{of_kind}
use Rattle.cef_core.proofs.Adding.{total, magnitude_of}
use Rattle.cef_core.proofs.sizes.magnitudes_within.Given as goal

abbrev pub invariant-parameters : goal.invariant-parameters
invariant-parameters l = record { counted : l.sum ≡ total (magnitude_of (of_kind l.kind)) (take l.parameter-index l.parameters); small : l.sum ≤ l.limit }
