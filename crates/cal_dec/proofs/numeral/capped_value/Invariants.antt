use Rattle.std.proofs.Common.{◌≡◌, ◌≤◌, take}
use Rattle.std.specs.Prelude.{min}
use Rattle.std.specs.Str.Parse.{digits_value}
use Rattle.cal_dec.proofs.numeral.capped_value.Given as goal

abbrev pub invariant-digits : goal.invariant-digits
invariant-digits l = record {
  so_far : l.value ≡ min (digits_value 10 (take l.b-index l.digits)) 10000;
  cap : l.value ≤ 10000;
}
