use Rattle.std.proofs.Common.{◌≡◌, take, []}
use Rattle.cal_select.specs.Types.{applying}
use Rattle.cal_select.specs.Causes.{type_causes}
use Rattle.cal_select.proofs.types.allowed_types.Given as goal

abbrev pub invariant-texts : goal.invariant-texts
invariant-texts l = type_causes (applying (take l.text-index l.texts) (l.name, l.phase)) ≡ []
