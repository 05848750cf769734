use Rattle.std.proofs.Common.{◌+◌, ◌<◌, ℕ}
use Rattle.std.specs.Prelude.{◌≤ℤ◌}
use Rattle.cef_mix.specs.Tables.{entry}
use Rattle.cef_mix.proofs.table.are_ordered.Given as goal

abbrev pub invariant-each : goal.invariant-each
invariant-each l = (j : ℕ) → j + 1 < l.k → entry l.rises j ≤ℤ entry l.rises (j + 1)
