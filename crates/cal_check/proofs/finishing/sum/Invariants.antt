use Rattle.std.proofs.Common.{◌≡◌, ◌*◌, ◌^◌, ◌≤◌, take}
use Rattle.std.specs.Prelude.{pos}
use Rattle.cal_math.specs.Sums.{sum_of}
use Rattle.cal_check.proofs.finishing.sum.Given as goal

abbrev pub invariant-numbers : goal.invariant-numbers
invariant-numbers l = record {
  is : pos l.all ≡ sum_of (λ n. n) (take l.number-index l.numbers);
  high : l.all ≤ 2 ^ 61 * l.number-index;
}
