use Rattle.std.proofs.Common.{◌≡◌, ℕ, ◌<◌}
use Rattle.cal_math.specs.Vectors.{at}
use Rattle.cef_path.specs.Ledgers.{liquid_total}
use Rattle.cal_check.proofs.leaving.is_left.Given as goal

abbrev pub invariant-components : goal.invariant-components
invariant-components l = (c : ℕ) → c < l.component → at l.left c ≡ liquid_total l.system l.liquid l.report c
