use Rattle.std.proofs.Common.{◌≡◌, ◌+◌, ◌/◌, ◌^◌, ◌≤◌}
use Rattle.cal_dec.specs.Decimals.{digits_over}
use Rattle.cal_dec.proofs.trimming.leading.Given as goal

abbrev pub invariant-digits : goal.invariant-digits
invariant-digits l = record {
  so_far : l.dropped + digits_over l.magnitude ≡ digits_over l.number;
  left : l.magnitude ≡ l.number / 10 ^ l.dropped;
  few : digits_over l.number ≤ 21;
}

abbrev pub decreases-digits : goal.decreases-digits
decreases-digits l = digits_over l.magnitude
