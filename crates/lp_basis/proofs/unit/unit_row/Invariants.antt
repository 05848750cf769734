use Rattle.std.proofs.Common.{◌≡◌, ℕ, ◌<◌, length}
use Rattle.std.specs.Prelude.{◌≢◌, pos}
use Rattle.cal_math.specs.Vectors.{at}
use Rattle.lp_basis.proofs.unit.unit_row.Given as goal

abbrev pub invariant-fill : goal.invariant-fill
invariant-fill l = record {
  sized : length l.numbers.items ≡ l.c;
  exact : (c : ℕ) → c < l.c → (c ≡ l.component → at l.numbers.items c ≡ pos 1) × (c ≢ l.component → at l.numbers.items c ≡ pos 0);
}
