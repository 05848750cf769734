use Rattle.std.proofs.Common.{◌≡◌, take}
use Rattle.cal_top.specs.Equilibria as spec
use Rattle.cal_top.proofs.asked.totals_asked.Given as goal

abbrev pub invariant-elements : goal.invariant-elements
invariant-elements l = l.totals.items ≡ spec.totals_asked l.request (take l.name-index l.elements)
