use Rattle.solving_tests.proofs.Fine.{unequal_is}
use Rattle.solving_tests.proofs.systems.unequal_ratios.Goals as goal

pub returns-clause-system : goal.returns-clause-system
returns-clause-system c = unequal_is _ _ _ c.in_ok-first.ensures c.in_ok-second.ensures c.in_ok-system.ensures
