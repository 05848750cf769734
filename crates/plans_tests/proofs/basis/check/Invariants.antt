use Rattle.lp_basis.specs.Held.{AreRows}
use Rattle.plans_tests.proofs.basis.check.Given as goal

abbrev pub invariant-enter : goal.invariant-enter
invariant-enter g l = AreRows l.width l.rows.items
