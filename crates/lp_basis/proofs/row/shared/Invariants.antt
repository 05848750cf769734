use Rattle.std.proofs.Common.{ℕ, ◌<◌}
use Rattle.std.specs.Prelude.{unsigned_abs}
use Rattle.std.specs.Int.{◌∣◌}
use Rattle.cal_math.specs.Vectors.{at}
use Rattle.lp_basis.proofs.row.shared.Given as goal

abbrev pub invariant-share : goal.invariant-share
invariant-share l = record {
  divides : (c : ℕ) → c < l.i → l.all ∣ unsigned_abs (at l.row c);
  greatest : (d : ℕ) → ((c : ℕ) → c < l.i → d ∣ unsigned_abs (at l.row c)) → d ∣ l.all;
}
