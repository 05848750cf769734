use Rattle.std.proofs.Common.{◌≡◌, ◌+◌, ◌≤◌}
use Rattle.std.specs.Prelude.{ℕ}
use Rattle.cef_mix.specs.Mixes.{IsLeastOn}
use Rattle.cef_mix.specs.Tables.{entry}
use Rattle.cef_mix.proofs.least.least_of_all.Given as goal

abbrev pub invariant-each : goal.invariant-each
invariant-each l = (top : ℕ) × (top + 1 ≡ l.k) × (l.low ≤ top) × IsLeastOn (entry l.energies) l.slope l.low top l.place l.least
