use Rattle.std.proofs.Common.{◌≡◌, ℕ, ◌<◌, length, get_or}
use Rattle.cal_math.specs.Vectors.{at}
use Rattle.lp_basis.specs.Potentials.{number_at}
use Rattle.lp_basis.specs.declared.potential.Part.{Part}
use Rattle.lp_basis.proofs.potential.numbers_of.Given as goal

abbrev pub invariant-numbers : goal.invariant-numbers
invariant-numbers l = record {
  sized : length l.numbers.items ≡ l.c;
  every : (c : ℕ) (d : Part) → c < l.c → at l.numbers.items c ≡ number_at (get_or l.parts c d) l.denominator l.divisor;
}
