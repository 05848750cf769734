use Rattle.std.proofs.Common.{◌≡◌, ◌^◌, ◌≤◌}
use Rattle.cef_core.specs.Points.{number_of}
use Rattle.cef_core.proofs.points.lists_within.Given as goal

abbrev pub invariant-sites : goal.invariant-sites
invariant-sites l = record { counted : l.lists ≡ number_of l.more l.total; within : l.lists ≤ 2 ^ 40 }
