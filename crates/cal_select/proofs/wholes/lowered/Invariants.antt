use Rattle.std.proofs.Common.{◌≡◌, ◌*◌, ◌^◌}
use Rattle.cal_select.proofs.wholes.lowered.Given as goal

abbrev pub invariant-times : goal.invariant-times
invariant-times l = l.m ≡ l.value * 10 ^ l.counter
