use Rattle.std.proofs.Common.{◌≡◌, take}
use Rattle.cef_core.specs.Systems.{dearest_of}
use Rattle.cal_select.proofs.limits.dearest.Given as goal

abbrev pub invariant-phases : goal.invariant-phases
invariant-phases l = l.most ≡ dearest_of (take l.phase-index l.phases)
