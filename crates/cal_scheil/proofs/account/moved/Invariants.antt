use Rattle.std.proofs.Common.{◌≡◌, ℕ, ◌<◌, length}
use Rattle.std.specs.Prelude.{◌+ℤ◌, ◌-ℤ◌}
use Rattle.cal_math.specs.Vectors.{at}
use Rattle.cal_scheil.proofs.account.moved.Given as goal

abbrev pub invariant-places : goal.invariant-places
invariant-places l = record {
  same : length l.all ≡ l.place;
  is : (c : ℕ) → c < l.place → at l.all c ≡ at l.sums c +ℤ (at l.more c -ℤ at l.less c);
}
