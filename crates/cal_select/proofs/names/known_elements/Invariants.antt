use Rattle.std.proofs.Common.{◌≡◌, take, []}
use Rattle.cal_select.specs.Causes.{unknown_elements}
use Rattle.cal_select.proofs.names.known_elements.Given as goal

abbrev pub invariant-asked : goal.invariant-asked
invariant-asked l = unknown_elements l.db (take l.name-index l.asked) ≡ []
