use Rattle.std.proofs.Common.{◌≡◌, ◌≤◌, ◌+◌, ◌-◌, ◌*◌}
use Rattle.cal_log.specs.Series.{left_of, terms}
use Rattle.cal_log.proofs.series.log_ratio.Given as goal

abbrev pub invariant-series : goal.invariant-series
invariant-series l = record {
  few : l.terms ≤ 16;
  left : l.power ≡ left_of l.odd (2 * l.terms + 1);
  so_far : l.sum ≡ terms l.odd l.terms;
}

abbrev pub decreases-series : goal.decreases-series
decreases-series l = 16 - l.terms
