use Rattle.std.proofs.Common.{◌≡◌, take}
use Rattle.cal_check.proofs.reporting.copies.Given as goal

abbrev pub invariant-names : goal.invariant-names
invariant-names l = l.copies ≡ take l.name-index l.names
