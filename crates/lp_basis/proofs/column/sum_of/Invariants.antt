use Rattle.std.proofs.Common.{◌≡◌, ℕ, ◌<◌, ◌≤◌, ◌^◌}
use Rattle.std.specs.Prelude.{pos, ◌≤ℤ◌}
use Rattle.cal_math.specs.Vectors.{at, sum_to}
use Rattle.lp_basis.proofs.column.sum_of.Given as goal

abbrev pub invariant-sum : goal.invariant-sum
invariant-sum l = record {
  least : (c : ℕ) → c < l.c → pos 0 ≤ℤ at l.amounts c;
  exact : sum_to l.c (at l.amounts) ≡ pos l.sum;
  most : l.sum ≤ 2 ^ 62;
}
