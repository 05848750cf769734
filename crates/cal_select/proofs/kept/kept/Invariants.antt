use Rattle.std.proofs.Common.{◌≡◌, take}
use Rattle.cal_select.specs.Chosen.{kept_of}
use Rattle.cal_select.proofs.kept.kept.Given as goal

abbrev pub invariant-constituents : goal.invariant-constituents
invariant-constituents l = l.names ≡ kept_of l.components (take l.name-index l.sublattice)
