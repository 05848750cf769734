use Rattle.std.proofs.Common.{◌≡◌, ℕ, ◌<◌, length}
use Rattle.cal_math.specs.Vectors.{at}
use Rattle.cef_path.specs.Ledgers.{liquid_total}
use Rattle.cal_scheil.proofs.left.left_of.Given as goal

abbrev pub invariant-components : goal.invariant-components
invariant-components l = record {
  same : length l.left ≡ l.component;
  are : (c : ℕ) → c < l.component → at l.left c ≡ liquid_total l.system l.liquid l.report c;
}
