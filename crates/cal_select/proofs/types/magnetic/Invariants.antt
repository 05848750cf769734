use Rattle.std.proofs.Common.{◌≡◌, take}
use Rattle.cef_core.specs.Phases.{IsMagnetic}
use Rattle.cal_select.specs.Types.{magnetic_of}
use Rattle.cal_select.proofs.types.magnetic.Given as goal

abbrev pub invariant-texts : goal.invariant-texts
invariant-texts l = record { value : l.last ≡ magnetic_of (take l.text-index l.texts) (l.name, l.phase); sound : IsMagnetic l.last }
