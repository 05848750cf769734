use Rattle.std.proofs.Common.{arith}
use Rattle.cal_check.proofs.Standing.{ahead}
use Rattle.cal_check.proofs.Lifting.{lifted}
use Rattle.cal_check.proofs.Stepwise.{some_there, more_right}
use Rattle.cal_check.proofs.judging.judge_steps.Goals as goal

pub judge_step-verdict-requires-clause-room : goal.judge_step-verdict-requires-clause-room
judge_step-verdict-requires-clause-room c = λ step e. omega (arith, ahead 6 c.args.path.now.steps c.steps.i step c.requires.spelled.stand e, c.requires.short)

pub returns-in-Err-clause-fault : goal.returns-in-Err-clause-fault
returns-in-Err-clause-fault c =
    let found = some_there c.args.path.now.steps c.steps.i (omega (arith, c.steps-test.true, c.len-i-end.ensures)) in
    lifted c.args.db.now c.args.path.now c.some_outcome.ensures c.requires.functions c.requires.spelled c.requires.liquid c.steps.i found.0 found.1 c.steps.invariant c.in-Err.fault
    (c.in-Err.ensures.fault found.0 found.1)

pub steps-preserved : goal.steps-preserved
steps-preserved c = more_right c.args.db.now c.args.path.now c.steps.i c.steps.invariant c.in_default.ensures.right

pub returns-clause-right : goal.returns-clause-right
returns-clause-right c = λ i lt step e. c.steps.invariant i (omega (arith, lt, c.steps-test.false, c.len-i-end.ensures)) step e
