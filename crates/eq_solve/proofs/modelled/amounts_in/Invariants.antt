use Rattle.std.proofs.Common.{◌≡◌, ℕ, ◌<◌, length}
use Rattle.cal_math.specs.Vectors.{at}
use Rattle.cef_core.specs.Constitutions.{content}
use Rattle.eq_solve.proofs.modelled.amounts_in.Given as goal

abbrev pub invariant-components : goal.invariant-components
invariant-components l = record {
  same : length l.amounts.items ≡ l.component;
  are : (c : ℕ) → c < l.component → at l.amounts.items c ≡ content l.phase l.site c;
}
