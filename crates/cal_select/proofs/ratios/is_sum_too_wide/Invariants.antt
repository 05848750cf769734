use Rattle.std.proofs.Common.{◌≡◌, ◌≤◌, take}
use Rattle.std.specs.List.{sum}
use Rattle.cal_limits.specs.declared.TheConstants.{MOST_RATIOS}
use Rattle.cal_select.proofs.ratios.is_sum_too_wide.Given as goal

abbrev pub invariant-numbers : goal.invariant-numbers
invariant-numbers l = record { adds : l.sum ≡ sum (take l.number-index l.numbers); small : l.sum ≤ MOST_RATIOS }
