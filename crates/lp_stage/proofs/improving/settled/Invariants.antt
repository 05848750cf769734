use Rattle.std.proofs.Common.{ℕ}
use Rattle.lp_stage.specs.Running.{IsRunning, KeepsKnown}
use Rattle.lp_stage.proofs.Ending.{left}
use Rattle.lp_stage.proofs.improving.settled.Given as goal

abbrev pub invariant-descend : goal.invariant-descend
invariant-descend l = (b w s v : ℕ) → IsRunning b w s v l.phase l.columns l.starts l.fn.stage → IsRunning b w s v l.phase l.columns l.starts l.stage × KeepsKnown l.fn.stage l.stage

abbrev pub decreases-descend : goal.decreases-descend
decreases-descend l = left l.starts l.stage
