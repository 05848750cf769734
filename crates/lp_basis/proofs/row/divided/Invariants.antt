use Rattle.std.proofs.Common.{◌≡◌, ℕ, ◌<◌, length, ◌*ℤ◌}
use Rattle.cal_math.specs.Vectors.{at}
use Rattle.lp_basis.proofs.row.divided.Given as goal

abbrev pub invariant-divide : goal.invariant-divide
invariant-divide l = record {
  sized : length l.numbers.items ≡ l.i;
  exact : (c : ℕ) → c < l.i → l.d *ℤ at l.numbers.items c ≡ at l.row c;
}
