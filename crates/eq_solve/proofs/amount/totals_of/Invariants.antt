use Rattle.std.proofs.Common.{◌≡◌, ℕ, ◌<◌, length}
use Rattle.cal_math.specs.Vectors.{at}
use Rattle.lp_core.specs.Plans.{given_amount}
use Rattle.eq_solve.proofs.amount.totals_of.Given as goal

abbrev pub invariant-components : goal.invariant-components
invariant-components l = record {
  same : length l.totals.items ≡ l.component;
  are : (c : ℕ) → c < l.component → at l.totals.items c ≡ given_amount l.columns l.amounts c;
}
