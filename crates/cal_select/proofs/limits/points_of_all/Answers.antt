use Rattle.std.proofs.Common.{◌∙◌, arith, refl, length, ap}
use Rattle.std.proofs.lemmas.Option.{slice_get_read}
use Rattle.cal_limits.specs.declared.TheConstants.{MOST_LISTS}
use Rattle.cef_core.specs.Capped.{within}
use Rattle.cef_core.specs.Points.{points_in}
use Rattle.cef_core.proofs.Adding.{adding-on, adding-none, adding-all}
use Rattle.cal_select.proofs.Measured.{total-sum}
use Rattle.cal_select.proofs.limits.points_of_all.Goals as goal

pub phases-preserved : goal.phases-preserved
phases-preserved c =
    let xs = c.args.phases.now in
    let x = c.phase-item.result in
    let on = adding-on points_in xs MOST_LISTS c.phases.phase-index c.phases.points c.in_ok-points.points x
    (slice_get_read xs (length xs) c.phases.phase-index x refl (omega arith) c.phase-item.is) c.phases.invariant.counted c.in_ok-points.ensures in
    record { counted = on.0; small = on.1 }

pub returns-in_err-points : goal.returns-in_err-points
returns-in_err-points c =
    let xs = c.args.phases.now in
    let x = c.phase-item.result in
    c.from_residual.ensures ∙ adding-none points_in xs MOST_LISTS c.phases.phase-index c.phases.points x
    (slice_get_read xs (length xs) c.phases.phase-index x refl (omega arith) c.phase-item.is) c.phases.invariant.counted c.in_err-points.ensures
    ∙ ap (within MOST_LISTS) (total-sum points_in xs)

pub returns : goal.returns
returns c =
    let xs = c.args.phases.now in
    adding-all points_in xs MOST_LISTS c.phases.phase-index c.phases.points (omega arith) c.phases.invariant.counted c.phases.invariant.small
    ∙ ap (within MOST_LISTS) (total-sum points_in xs)
