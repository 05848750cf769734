use Rattle.std.proofs.Common.{◌≡◌, ◌+◌, ◌-◌, length}
use Rattle.cal_math.specs.Logarithm.{log_of}
use Rattle.cal_log.specs.Table.{IsTable}
use Rattle.cal_log.proofs.logs.Logs.build.Given as goal

abbrev pub invariant-loop-i : goal.invariant-loop-i
invariant-loop-i l = record {
  count : length l.entries.items + 1 ≡ l.i;
  last : l.sum ≡ log_of (l.i - 1);
  table : IsTable l.entries.items;
}
