use Rattle.eq_solve.specs.Points.{unknown, all_entries}
use Rattle.eq_solve.specs.Knowing.{IsKnowing}
use Rattle.eq_solve.proofs.rounds.equilibrium_by_rounds.Given as goal

abbrev pub invariant-rounds : goal.invariant-rounds
invariant-rounds g l = IsKnowing l.system l.known

abbrev pub decreases-rounds : goal.decreases-rounds
decreases-rounds g l = unknown (all_entries l.system) l.known.entries.items
