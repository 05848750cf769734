use Rattle.std.proofs.Common.{◌≡◌, take, []}
use Rattle.std.specs.Prelude.{filter}
use Rattle.cal_select.specs.Chosen.{is_selected}
use Rattle.cal_select.specs.Causes.{ionic}
use Rattle.cal_select.proofs.phases.none_ionic.Given as goal

abbrev pub invariant-places : goal.invariant-places
invariant-places l = ionic (filter (is_selected l.components l.listed) (take l.place l.db.phases)) ≡ []
