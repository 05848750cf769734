use Rattle.std.proofs.Common.{◌≡◌, take, false}
use Rattle.std.specs.List.{list_any}
use Rattle.cal_select.specs.Causes.{is_too_high}
use Rattle.cal_select.proofs.limits.has_too_high.Given as goal

abbrev pub invariant-parameters : goal.invariant-parameters
invariant-parameters l = list_any (λ p. is_too_high p l.lattice) (take l.parameter-index l.phase.parameters) ≡ false
