use Rattle.std.proofs.Common.{◌≡◌, ◌∙◌, max, arith, refl, length}
use Rattle.std.proofs.lemmas.Option.{slice_get_read}
use Rattle.cef_core.specs.Phases.{sigma}
use Rattle.cal_select.proofs.Measured.{greatest-next, allowed_size}
use Rattle.cal_select.proofs.limits.dearest.Goals as goal

pub phases-preserved : goal.phases-preserved
phases-preserved c =
    let x = c.phase-item.result in
    let at = slice_get_read c.args.phases.now (length c.args.phases.now) c.phases.phase-index x refl (omega arith) c.phase-item.is in
    let size = allowed_size c.args.phases.now c.phases.phase-index x at c.requires.energies in
    let e : c.max-most.result ≡ max c.phases.most (sigma x) = cc in
    e ∙ greatest-next sigma c.args.phases.now c.phases.phase-index c.phases.most x at c.phases.invariant
