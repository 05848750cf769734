use Rattle.std.proofs.Common.{arith, subst, List}
use Rattle.std.specs.Prelude.{ℤ}
use Rattle.cef_path.specs.Ledgers.{IsLeft}
use Rattle.cef_path.specs.Spelled.{IsSpelledStep}
use Rattle.eq_cert.specs.declared.rule.CheckRule.TheVariants.{Path as by_path}
use Rattle.eq_cert.proofs.Picks.{all_at}
use Rattle.cal_check.specs.declared.fault.DocumentFault.TheVariants.{Broken}
use Rattle.cal_check.specs.Paths.{IsNext}
use Rattle.cal_check.specs.Workings.{IsRightStep, IsStepFault}
use Rattle.cal_check.proofs.Placing.{at_yes}
use Rattle.cal_check.proofs.Modest.{modest, total_high}
use Rattle.cal_check.proofs.Stepwise.{is_there, next_first, headed_fault, left_first, right_step}
use Rattle.cal_check.proofs.stepping.judge_step.Goals as goal

pub is_next-requires-clause-modest : goal.is_next-requires-clause-modest
is_next-requires-clause-modest c = λ before j e at.
    modest c.args.db.now c.args.path.now j before (all_at IsSpelledStep c.args.path.now.steps j before c.requires.spelled.steps at) (c.requires.before j (omega (arith, e)) before at)

pub returns-then-not-is_next-clause-fault : goal.returns-then-not-is_next-clause-fault
returns-then-not-is_next-clause-fault c =
    let s = c.index-as_slice-i.result in
    let path = c.args.path.now in
    let at = is_there path.steps c.as_slice.result.now c.args.i s c.as_slice.ensures c.index-as_slice-i.is c.requires.within in
    at_yes (λ step. IsStepFault c.args.db.now path c.args.i step (Broken by_path s.line)) path.steps c.args.i s at
    (next_first c.args.db.now path c.args.i s (λ is. c.if-not-is_next.ensures.no (at_yes (IsNext path c.args.i) path.steps c.args.i s at is)))

pub is_left-requires-clause-holds : goal.is_left-requires-clause-holds
is_left-requires-clause-holds c =
    let s = c.index-as_slice-i.result in
    let at = is_there c.args.path.now.steps c.as_slice.result.now c.args.i s c.as_slice.ensures c.index-as_slice-i.is c.requires.within in
    (c.in-Ok.ensures.right s at).report.holds

pub is_left-requires-clause-high : goal.is_left-requires-clause-high
is_left-requires-clause-high c = λ component.
    let s = c.index-as_slice-i.result in
    let at = is_there c.args.path.now.steps c.as_slice.result.now c.args.i s c.as_slice.ensures c.index-as_slice-i.is c.requires.within in
    total_high c.in-Ok.system s.report component (c.in-Ok.ensures.right s at).report.holds (all_at IsSpelledStep c.args.path.now.steps c.args.i s c.requires.spelled.steps at).report

pub left_line-requires-clause-room : goal.left_line-requires-clause-room
left_line-requires-clause-room c =
    let s = c.index-as_slice-i.result in
    let at = is_there c.args.path.now.steps c.as_slice.result.now c.args.i s c.as_slice.ensures c.index-as_slice-i.is c.requires.within in
    c.requires.room s at

pub returns-then-not-is_left-clause-fault : goal.returns-then-not-is_left-clause-fault
returns-then-not-is_left-clause-fault c =
    let s = c.index-as_slice-i.result in
    let path = c.args.path.now in
    let at = is_there path.steps c.as_slice.result.now c.args.i s c.as_slice.ensures c.index-as_slice-i.is c.requires.within in
    let off = subst (λ (left : List ℤ). IsLeft c.in-Ok.system path.liquid s.report left → ⊥) c.as_slice-in-Ok.ensures c.if-not-is_left.ensures.no in
    at_yes (λ step. IsStepFault c.args.db.now path c.args.i step (Broken by_path c.left_line.result)) path.steps c.args.i s at
    (left_first c.args.db.now path c.args.i s c.left_line.result c.in-Ok.system c.some_outcome.ensures c.requires.functions c.left_line.ensures (c.if-not-is_next.ensures.yes s at) (c.in-Ok.ensures.right s at) off)

pub returns-in-Err-clause-fault : goal.returns-in-Err-clause-fault
returns-in-Err-clause-fault c = λ step e.
    headed_fault c.args.db.now c.args.path.now c.args.i step c.in-Err.fault (all_at IsSpelledStep c.args.path.now.steps c.args.i step c.requires.spelled.steps e).report
    (c.if-not-is_next.ensures.yes step e) (c.in-Err.ensures.fault step e)

pub returns-else-not-is_left-clause-right : goal.returns-else-not-is_left-clause-right
returns-else-not-is_left-clause-right c =
    let s = c.index-as_slice-i.result in
    let path = c.args.path.now in
    let at = is_there path.steps c.as_slice.result.now c.args.i s c.as_slice.ensures c.index-as_slice-i.is c.requires.within in
    let left = subst (λ (left : List ℤ). IsLeft c.in-Ok.system path.liquid s.report left) c.as_slice-in-Ok.ensures c.if-not-is_left.ensures.yes in
    at_yes (IsRightStep c.args.db.now path c.args.i) path.steps c.args.i s at
    (right_step c.args.db.now path c.args.i s c.in-Ok.system (c.if-not-is_next.ensures.yes s at) (c.in-Ok.ensures.right s at) left)
