use Rattle.std.proofs.Common.{◌≡◌, take, map}
use Rattle.std.specs.Prelude.{sum}
use Rattle.cef_core.specs.Systems.{greatest}
use Rattle.cal_select.proofs.limits.greatest_ratios.Given as goal

abbrev pub invariant-phases : goal.invariant-phases
invariant-phases l = l.most ≡ greatest (map (λ phase. sum phase.ratios) (take l.phase-index l.phases))
