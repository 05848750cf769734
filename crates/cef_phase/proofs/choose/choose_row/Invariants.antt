use Rattle.std.proofs.Common.{◌≡◌, ◌+◌, drop}
use Rattle.cef_phase.specs.Choosing.{secants}
use Rattle.cef_phase.specs.Firsts.{first_greatest}
use Rattle.cef_phase.specs.Walks.{mixing_of, ranges_at, part_at, secant_of, IsBestOf}
use Rattle.cef_phase.proofs.choose.choose_row.Given as goal

abbrev pub invariant-each : goal.invariant-each
invariant-each l = record {
  exact : first_greatest (part_at l.row) l.best.multiplier (secants (mixing_of l.row) (drop l.site l.row.slopes.now) (drop l.site (ranges_at l.row))) ≡ first_greatest (part_at l.row) (secant_of l.row l.start) (secants (mixing_of l.row) (drop (l.start + 1) l.row.slopes.now) (drop (l.start + 1) (ranges_at l.row)));
  best : IsBestOf l.row l.best;
}
