use Rattle.std.proofs.Common.{◌≡◌, ℕ, ◌<◌}
use Rattle.std.specs.Prelude.{pos}
use Rattle.lp_core.specs.SecondPhase.{column_product}
use Rattle.lp_core.proofs.second.meeting.Given as goal

abbrev pub invariant-columns : goal.invariant-columns
invariant-columns l = (i : ℕ) → i < l.k → column_product l.columns l.row i ≡ pos 0
