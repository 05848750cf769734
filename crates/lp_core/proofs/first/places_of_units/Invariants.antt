use Rattle.std.proofs.Common.{◌≡◌, None, replicate}
use Rattle.lp_core.proofs.first.places_of_units.Given as goal

abbrev pub invariant-places : goal.invariant-places
invariant-places l = l.places.items ≡ replicate l._j None
