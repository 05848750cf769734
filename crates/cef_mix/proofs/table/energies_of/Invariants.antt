use Rattle.std.proofs.Common.{◌≡◌, ◌+◌, ◌*◌, ◌<◌, ◌≤◌, ℕ, length}
use Rattle.std.specs.Prelude.{unsigned_abs}
use Rattle.cef_core.specs.Mixing.{mixing_at}
use Rattle.cef_mix.specs.Tables.{entry}
use Rattle.cef_mix.proofs.table.energies_of.Given as goal

abbrev pub invariant-each : goal.invariant-each
invariant-each l = record {
  count : length l.energies.items ≡ l.k;
  entries : (j : ℕ) → j < l.k → entry l.energies.items j ≡ mixing_at l.t l.lattice l.ratio j;
  small : (j : ℕ) → unsigned_abs (entry l.energies.items j) ≤ 600000 * l.t * l.ratio;
}
