use Rattle.std.proofs.Common.{◌≡◌, ℕ, ◌<◌, length, get_or}
use Rattle.std.specs.Prelude.{unsigned_abs}
use Rattle.lp_basis.specs.Held.{own_at}
use Rattle.lp_core.specs.Ends.{target_product}
use Rattle.lp_core.specs.Weights.{IsLowest}
use Rattle.lp_core.specs.declared.weight.Fraction.{Fraction}
use Rattle.lp_core.proofs.weight.fractions_of.Given as goal

abbrev pub invariant-rows : goal.invariant-rows
invariant-rows l = record {
  sized : length l.fractions.items ≡ l.j;
  every : (j : ℕ) (d : Fraction) → j < l.j → IsLowest (unsigned_abs (target_product l.rows l.target j)) (unsigned_abs (own_at l.rows j)) (get_or l.fractions.items j d);
}
