use Rattle.std.proofs.Common.{◌≡◌, ◌^◌, ◌≤◌, length, map, take}
use Rattle.cef_core.specs.Points.{points_of}
use Rattle.cef_core.proofs.points.points_within.Given as goal

abbrev pub invariant-sublattices : goal.invariant-sublattices
invariant-sublattices l = record { counted : l.points ≡ points_of l.lattice (map length (take l.sublattice-index l.sites)); some : 1 ≤ l.points; small : l.points ≤ 2 ^ 40 }
