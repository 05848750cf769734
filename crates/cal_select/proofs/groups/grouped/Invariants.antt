use Rattle.cal_select.proofs.By_phase.{AreGroupedTo}
use Rattle.cal_select.proofs.groups.grouped.Given as goal

abbrev pub invariant-places : goal.invariant-places
invariant-places l = AreGroupedTo l.db.parameters l.place l.groups.entries
