use Rattle.std.proofs.Common.{◌≡◌, ◌*◌, ◌^◌, min}
use Rattle.cal_select.proofs.wholes.raised.Given as goal

abbrev pub invariant-times : goal.invariant-times
invariant-times l = l.value ≡ min l.cap (l.m * 10 ^ l.counter)
