use Rattle.std.proofs.Common.{◌≤◌, arith, length}
use Rattle.cal_select.proofs.By_phase.{grouped-next, grouped-all}
use Rattle.cal_select.proofs.groups.grouped.Goals as goal

pub places-preserved : goal.places-preserved
places-preserved c =
    grouped-next c.args.db.now.parameters c.places.place (c.parameter_at.result.0.now, c.parameter_at.result.1.now) c.places.groups.entries _
    c.parameter_at.ensures.entry c.in_ok-groups.ensures c.places.invariant

pub returns : goal.returns
returns c =
    let passed : length c.args.db.now.parameters ≤ c.places.place = omega (arith, c.places-test.false, c.parameter_count-place-end.ensures) in
    grouped-all c.args.db.now.parameters c.places.place c.places.groups.entries passed c.places.invariant
