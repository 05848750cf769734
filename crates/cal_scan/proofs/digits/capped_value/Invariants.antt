use Rattle.std.proofs.Common.{drop}
use Rattle.cal_scan.specs.Numbers.{digits_value}
use Rattle.cal_scan.proofs.Values.{Grows}
use Rattle.cal_scan.proofs.digits.capped_value.Given as goal

abbrev pub invariant-digits : goal.invariant-digits
invariant-digits l = Grows l.cap l.value (drop l.digit-index l.digits) (digits_value l.digits)
