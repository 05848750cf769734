use Rattle.std.proofs.Common.{◌≡◌, ◌∙◌, max, arith, refl, length}
use Rattle.std.specs.Prelude.{sum}
use Rattle.std.proofs.lemmas.Option.{slice_get_read}
use Rattle.cef_core.specs.declared.phase.PhaseAt.{PhaseAt}
use Rattle.cal_select.proofs.Measured.{greatest-next}
use Rattle.cal_select.proofs.limits.greatest_ratios.Goals as goal

pub phases-preserved : goal.phases-preserved
phases-preserved c =
    let e : c.max-most.result ≡ max c.phases.most (sum c.phase-item.result.ratios) = cc in
    e ∙ greatest-next (λ (phase : PhaseAt). sum phase.ratios) c.args.phases.now c.phases.phase-index c.phases.most c.phase-item.result
    (slice_get_read c.args.phases.now (length c.args.phases.now) c.phases.phase-index c.phase-item.result refl (omega arith) c.phase-item.is) c.phases.invariant
