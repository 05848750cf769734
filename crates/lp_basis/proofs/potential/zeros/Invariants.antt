use Rattle.std.proofs.Common.{◌≡◌, ℕ, length}
use Rattle.std.specs.Prelude.{pos}
use Rattle.cal_math.specs.Vectors.{at}
use Rattle.lp_basis.proofs.potential.zeros.Given as goal

abbrev pub invariant-zeros : goal.invariant-zeros
invariant-zeros l = record {
  sized : length l.numbers.items ≡ l._c;
  every : (c : ℕ) → at l.numbers.items c ≡ pos 0;
}
