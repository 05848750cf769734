use Rattle.eq_solve.proofs.Best.{IsBestBelow}
use Rattle.eq_solve.proofs.alone.best_of.Given as goal

abbrev pub invariant-sites : goal.invariant-sites
invariant-sites l = IsBestBelow l.v l.sites l.best l.place
