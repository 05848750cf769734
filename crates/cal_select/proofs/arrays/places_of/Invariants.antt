use Rattle.std.proofs.Common.{◌≡◌, take}
use Rattle.cal_select.specs.Parameters.{places_of}
use Rattle.cal_select.proofs.arrays.places_of.Given as goal

abbrev pub invariant-constituents : goal.invariant-constituents
invariant-constituents l = l.places ≡ places_of l.names (take l.name-index l.list)
