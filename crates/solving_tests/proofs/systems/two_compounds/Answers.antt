use Rattle.solving_tests.proofs.Fine.{two_is}
use Rattle.solving_tests.proofs.systems.two_compounds.Goals as goal

pub returns-clause-system : goal.returns-clause-system
returns-clause-system c = two_is _ _ _ c.in_ok-first.ensures c.in_ok-second.ensures c.in_ok-system.ensures
