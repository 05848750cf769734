use Rattle.std.proofs.Common.{◌≡◌, take}
use Rattle.cef_minor.specs.Forms.{is_affine}
use Rattle.cef_phase.specs.Planes.{places_where}
use Rattle.cef_phase.proofs.planes.affine_places.Given as goal

abbrev pub invariant-each : goal.invariant-each
invariant-each l = l.places.items ≡ places_where is_affine 0 (take l.index l.phase.parameters)
