use Rattle.std.proofs.Common.{◌≡◌, take, false}
use Rattle.std.specs.List.{list_any}
use Rattle.cal_select.specs.Causes.{has_too_high}
use Rattle.cal_select.proofs.limits.some_too_high.Given as goal

abbrev pub invariant-phases : goal.invariant-phases
invariant-phases l = list_any (has_too_high l.lattice) (take l.phase-index l.phases) ≡ false
