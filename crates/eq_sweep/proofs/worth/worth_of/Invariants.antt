use Rattle.std.proofs.Common.{◌≡◌}
use Rattle.eq_sweep.proofs.Worths.{worth_to}
use Rattle.eq_sweep.proofs.worth.worth_of.Given as goal

abbrev pub invariant-components : goal.invariant-components
invariant-components l = l.sum ≡ worth_to l.phase l.potentials l.site l.component
