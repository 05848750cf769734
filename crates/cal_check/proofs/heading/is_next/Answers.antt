use Rattle.std.proofs.Common.{◌≡◌, ◌<◌, ◌+◌, ◌-◌, suc, slice_get, Some, length, rules, arith, subst, sym, ◌∙◌, ap, List}
use Rattle.std.specs.Prelude.{ℤ}
use Rattle.cef_path.specs.declared.step.StepText.{StepText}
use Rattle.cal_check.specs.Workings.{AreModest, IsModest}
use Rattle.cal_check.proofs.Near.{read, first_modest, next_yes, next_no}
use Rattle.cal_check.proofs.heading.is_next.Goals as goal

pub finish_of-requires-clause-asked : goal.finish_of-requires-clause-asked
finish_of-requires-clause-asked c =
    let first = read c.as_slice-steps.result.now c.args.path.now.steps 0 c.index-steps-0.result c.as_slice-steps.ensures (omega (arith, c.requires.within)) c.index-steps-0.is in
    rw (c.as_slice-asked.ensures, ← c.index-steps-0.is) (first_modest c.args.path.now c.index-steps-0.result c.requires.spelled first)

pub finish_of-requires-clause-left : goal.finish_of-requires-clause-left
finish_of-requires-clause-left c =
    let before = read c.as_slice-steps.result.now c.args.path.now.steps (c.args.i - 1) c.index-steps-i-2.result c.as_slice-steps.ensures (omega (arith, c.requires.within)) c.index-steps-i-2.is in
    let modest : IsModest c.index-steps-i-2.result = c.requires.modest c.index-steps-i-2.result (c.args.i - 1) (omega (arith, c.if-i-eq0.false)) before in
    rw c.as_slice.ensures modest.left

pub returns-clause-yes : goal.returns-clause-yes
returns-clause-yes c =
    let here = read c.as_slice-steps.result.now c.args.path.now.steps c.args.i c.index-steps-i.result c.as_slice-steps.ensures c.requires.within c.index-steps-i.is in
    let before = read c.as_slice-steps.result.now c.args.path.now.steps (c.args.i - 1) c.index-steps-i-2.result c.as_slice-steps.ensures (omega (arith, c.requires.within)) c.index-steps-i-2.is in
    next_yes c.args.path.now c.args.i c.index-steps-i.result c.index-steps-i-2.result c.finish_of.result c.is_none.result (search (rules, c.if-step-i.false)) here before (rw c.as_slice.ensures at c.finish_of.ensures) c.is_none.ensures

pub returns-clause-no : goal.returns-clause-no
returns-clause-no c =
    let here = read c.as_slice-steps.result.now c.args.path.now.steps c.args.i c.index-steps-i.result c.as_slice-steps.ensures c.requires.within c.index-steps-i.is in
    let before = read c.as_slice-steps.result.now c.args.path.now.steps (c.args.i - 1) c.index-steps-i-2.result c.as_slice-steps.ensures (omega (arith, c.requires.within)) c.index-steps-i-2.is in
    next_no c.args.path.now c.args.i c.index-steps-i.result c.index-steps-i-2.result c.finish_of.result c.is_none.result (omega (arith, c.if-i-eq0.false)) here before (rw c.as_slice.ensures at c.finish_of.ensures) c.is_none.ensures
