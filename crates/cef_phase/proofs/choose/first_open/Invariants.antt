use Rattle.std.proofs.Common.{◌≡◌, drop}
use Rattle.cef_phase.specs.Choosing.{secants}
use Rattle.cef_phase.specs.Walks.{mixing_of, ranges_at, all_secants}
use Rattle.cef_phase.proofs.choose.first_open.Given as goal

abbrev pub invariant-each : goal.invariant-each
invariant-each l = secants (mixing_of l.row) (drop l.site l.row.slopes.now) (drop l.site (ranges_at l.row)) ≡ all_secants l.row
