use Rattle.std.proofs.Common.{◌≡◌, ℕ, ◌<◌, length, ◌*ℤ◌, ◌-ℤ◌}
use Rattle.cal_math.specs.Vectors.{at}
use Rattle.lp_basis.proofs.row.mixed.Given as goal

abbrev pub invariant-mix : goal.invariant-mix
invariant-mix l = record {
  sized : length l.numbers.items ≡ l.i;
  exact : (c : ℕ) → c < l.i → at l.numbers.items c ≡ l.p *ℤ at l.row c -ℤ l.q *ℤ at l.other c;
}
