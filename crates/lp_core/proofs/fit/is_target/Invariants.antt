use Rattle.std.proofs.Common.{ℕ, ◌<◌, ◌^◌}
use Rattle.std.specs.Prelude.{pos, ◌≤ℤ◌}
use Rattle.std.specs.Bool.{OnTrue, OnFalse}
use Rattle.cal_math.specs.Vectors.{at}
use Rattle.lp_core.proofs.fit.is_target.Given as goal

abbrev pub invariant-amounts : goal.invariant-amounts
invariant-amounts l = record {
  least : (c : ℕ) → c < l.c → pos 0 ≤ℤ at l.target c;
  most : (c : ℕ) → c < l.c → at l.target c ≤ℤ pos (2 ^ 50);
  yes : OnTrue l.positive ((c : ℕ) × (c < l.c) × (pos 1 ≤ℤ at l.target c));
  no : OnFalse l.positive ((c : ℕ) → c < l.c → at l.target c ≤ℤ pos 0);
}
