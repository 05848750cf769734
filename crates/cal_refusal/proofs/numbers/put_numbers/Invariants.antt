use Rattle.std.proofs.Common.{◌≡◌, ◌++◌, take}
use Rattle.cal_refusal.specs.Refusals.{spaced_all}
use Rattle.cal_refusal.proofs.numbers.put_numbers.Given as goal

abbrev pub invariant-numbers : goal.invariant-numbers
invariant-numbers l = l.text.items ≡ l.fn.text.items ++ spaced_all (take l.number-index l.numbers)
