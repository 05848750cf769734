use Rattle.std.proofs.Common.{ℕ, List}
use Rattle.std.specs.Prelude.{ℤ}
use Rattle.lp_core.specs.SecondPhase.{CanFollow, IsReady}
use Rattle.lp_core.proofs.second.second_start.Given as goal

abbrev pub invariant-places : goal.invariant-places
invariant-places l = (b : ℕ) (target : List ℤ) → CanFollow b l.columns target l.fn.end → IsReady b l.columns target l.j l.stage
