use Rattle.std.proofs.Common.{◌≡◌, take, map}
use Rattle.cal_select.specs.Chosen.{component_of}
use Rattle.cal_select.proofs.kept.components_in.Given as goal

abbrev pub invariant-names : goal.invariant-names
invariant-names l = l.sites ≡ map (component_of l.components) (take l.name-index l.names)
