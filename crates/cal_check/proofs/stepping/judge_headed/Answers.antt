use Rattle.std.proofs.Common.{arith}
use Rattle.cef_path.specs.Spelled.{IsSpelledStep}
use Rattle.eq_cert.proofs.Picks.{all_at}
use Rattle.cal_check.specs.Workings.{IsHeadedFault, IsRightHeaded}
use Rattle.cal_check.proofs.Placing.{at_yes}
use Rattle.cal_check.proofs.Merging.{merged}
use Rattle.cal_check.proofs.Stepwise.{is_there, if_ok, if_err, head_room, right_headed}
use Rattle.cal_check.proofs.stepping.judge_headed.Goals as goal

pub broken_head-head-requires-clause-room : goal.broken_head-head-requires-clause-room
broken_head-head-requires-clause-room c = λ step e. head_room step (all_at IsSpelledStep c.args.path.now.steps c.args.i step c.requires.spelled.steps e).report (c.requires.room step e)

pub overflow_add-step : goal.overflow_add-step
overflow_add-step c =
    let s = c.index-as_slice-i.result in
    let at = is_there c.args.path.now.steps c.as_slice.result.now c.args.i s c.as_slice.ensures c.index-as_slice-i.is c.requires.within in
    omega (arith, c.requires.room s at)

pub judge_report-found-requires-clause-lines : goal.judge_report-found-requires-clause-lines
judge_report-found-requires-clause-lines c =
    let s = c.index-as_slice-i.result in
    let at = is_there c.args.path.now.steps c.as_slice.result.now c.args.i s c.as_slice.ensures c.index-as_slice-i.is c.requires.within in
    omega (arith, c.requires.room s at)

pub returns-clause-right : goal.returns-clause-right
returns-clause-right c =
    let s = c.index-as_slice-i.result in
    let path = c.args.path.now in
    let at = is_there path.steps c.as_slice.result.now c.args.i s c.as_slice.ensures c.index-as_slice-i.is c.requires.within in
    if_ok _ _ c.with_head.result
    (λ system is. at_yes (λ step. IsRightHeaded c.args.db.now path c.args.i step system) path.steps c.args.i s at is)
    (right_headed c.args.db.now path c.args.i s c.judge_report-found.result c.broken_head-head.result c.with_head.result c.with_head.ensures c.judge_report-found.ensures.right (c.broken_head-head.ensures s at))

pub returns-clause-fault : goal.returns-clause-fault
returns-clause-fault c =
    let s = c.index-as_slice-i.result in
    let path = c.args.path.now in
    let at = is_there path.steps c.as_slice.result.now c.args.i s c.as_slice.ensures c.index-as_slice-i.is c.requires.within in
    if_err _ _ c.with_head.result
    (λ fault is. at_yes (λ step. IsHeadedFault c.args.db.now path c.args.i step fault) path.steps c.args.i s at is)
    (merged c.args.db.now path c.args.i s c.judge_report-found.result c.broken_head-head.result c.with_head.result c.some_outcome.ensures c.requires.functions c.with_head.ensures c.judge_report-found.ensures.right c.judge_report-found.ensures.fault (c.broken_head-head.ensures s at))
