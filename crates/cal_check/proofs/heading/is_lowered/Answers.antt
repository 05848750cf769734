use Rattle.std.proofs.Common.{◌≡◌, ◌<◌, ◌+◌, ◌-◌, slice_get, Some, length, arith}
use Rattle.cal_check.proofs.Near.{read, lowered_yes, lowered_no}
use Rattle.cal_check.proofs.heading.is_lowered.Goals as goal

pub returns-clause-yes : goal.returns-clause-yes
returns-clause-yes c =
    let steps = c.args.path.now.steps in
    let view = c.as_slice-steps.result.now in
    let here = read view steps c.args.i c.index-steps-i.result c.as_slice-steps.ensures c.requires.within c.index-steps-i.is in
    let before = read view steps (c.args.i - 1) c.index-steps-i-2.result c.as_slice-steps.ensures (omega (arith, c.requires.within)) c.index-steps-i-2.is in
    lowered_yes c.args.path.now c.args.i c.index-steps-i.result c.index-steps-i-2.result here before

pub returns-clause-no : goal.returns-clause-no
returns-clause-no c =
    let steps = c.args.path.now.steps in
    let view = c.as_slice-steps.result.now in
    let some : 0 < c.args.i = omega (arith, c.if-i-eq0.false) in
    let here = read view steps c.args.i c.index-steps-i.result c.as_slice-steps.ensures c.requires.within c.index-steps-i.is in
    let before = read view steps (c.args.i - 1) c.index-steps-i-2.result c.as_slice-steps.ensures (omega (arith, c.requires.within)) c.index-steps-i-2.is in
    lowered_no c.args.path.now c.args.i c.index-steps-i.result c.index-steps-i-2.result some here before
