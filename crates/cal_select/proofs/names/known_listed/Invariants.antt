use Rattle.std.proofs.Common.{◌≡◌, take, [], Some}
use Rattle.cal_select.specs.Causes.{unknown_phases}
use Rattle.cal_select.proofs.names.known_listed.Given as goal

abbrev pub invariant-listed : goal.invariant-listed
invariant-listed l = unknown_phases l.db (Some (take l.name-index l.listed)) ≡ []
