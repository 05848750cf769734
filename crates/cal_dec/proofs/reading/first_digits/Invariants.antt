use Rattle.std.proofs.Common.{◌+◌, ◌^◌, ◌<◌, ◌≤◌, List, ℕ, ◌++◌, length, take}
use Rattle.std.specs.Str.Parse.{AllDigits, digits_value}
use Rattle.cal_dec.specs.Trimming.{IsFirst}
use Rattle.cal_dec.proofs.reading.first_digits.Given as goal

abbrev pub invariant-digits : goal.invariant-digits
invariant-digits l = record {
  first : (front : List ℕ) → AllDigits 10 front → length front + length l.digits ≤ 64 → IsFirst (digits_value 10 front) l.fn.before.magnitude l.fn.before.dropped
      → IsFirst (digits_value 10 (front ++ take l.b-index l.digits)) l.magnitude l.dropped;
  small : l.magnitude < 10 ^ 18;
  few : l.dropped ≤ l.fn.before.dropped + l.b-index;
}
