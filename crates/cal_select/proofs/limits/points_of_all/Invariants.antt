use Rattle.std.proofs.Common.{◌≡◌, ◌≤◌, take}
use Rattle.cal_limits.specs.declared.TheConstants.{MOST_LISTS}
use Rattle.cef_core.specs.Points.{points_in}
use Rattle.cef_core.proofs.Adding.{total}
use Rattle.cal_select.proofs.limits.points_of_all.Given as goal

abbrev pub invariant-phases : goal.invariant-phases
invariant-phases l = record { counted : l.points ≡ total points_in (take l.phase-index l.phases); small : l.points ≤ MOST_LISTS }
