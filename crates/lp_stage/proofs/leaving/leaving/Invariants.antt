use Rattle.lp_stage.specs.Leaving.{IsBestOf}
use Rattle.lp_stage.proofs.leaving.leaving.Given as goal

abbrev pub invariant-rows : goal.invariant-rows
invariant-rows l = IsBestOf l.rows l.column l.starts l.j l.best
