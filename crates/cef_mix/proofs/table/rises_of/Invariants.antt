use Rattle.std.proofs.Common.{◌≡◌, ◌+◌, ◌*◌, ◌<◌, ◌≤◌, ℕ, length}
use Rattle.std.specs.Prelude.{◌-ℤ◌, unsigned_abs}
use Rattle.cal_limits.specs.declared.TheConstants.{MOST_ENERGY}
use Rattle.cef_mix.specs.Tables.{entry}
use Rattle.cef_mix.proofs.table.rises_of.Given as goal

abbrev pub invariant-each : goal.invariant-each
invariant-each l = record {
  count : length l.rises.items + 1 ≡ l.k;
  entries : (j : ℕ) → j + 1 < l.k → entry l.rises.items j ≡ entry l.energies (j + 1) -ℤ entry l.energies j;
  small : (j : ℕ) → unsigned_abs (entry l.rises.items j) ≤ 2 * MOST_ENERGY;
}
