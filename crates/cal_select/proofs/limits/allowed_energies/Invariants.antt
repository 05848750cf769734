use Rattle.std.proofs.Common.{◌≡◌, take, []}
use Rattle.cal_select.specs.Causes.{energy_causes}
use Rattle.cal_select.proofs.limits.allowed_energies.Given as goal

abbrev pub invariant-phases : goal.invariant-phases
invariant-phases l = energy_causes (take l.phase-index l.phases) ≡ []
