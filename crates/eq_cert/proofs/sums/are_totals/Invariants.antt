use Rattle.std.proofs.Common.{◌≡◌, ℕ, ◌<◌}
use Rattle.cal_math.specs.Vectors.{at}
use Rattle.cef_report.specs.Assemblages.{total}
use Rattle.eq_cert.specs.Entries.{InSystemOf}
use Rattle.eq_cert.proofs.sums.are_totals.Given as goal

abbrev pub invariant-components : goal.invariant-components
invariant-components l = InSystemOf l.phases (λ s. (c : ℕ) → c < l.c → at l.totals c ≡ total s l.entries c)
