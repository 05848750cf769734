use Rattle.eq_solve.specs.Knowing.{IsKnowing, LeavesNoMore}
use Rattle.eq_solve.proofs.rounds.with_entries.Given as goal

abbrev pub invariant-entries : goal.invariant-entries
invariant-entries g l = IsKnowing l.system l.more × LeavesNoMore l.system l.fn.known l.more
