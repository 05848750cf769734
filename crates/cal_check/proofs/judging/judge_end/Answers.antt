use Rattle.std.proofs.Common.{◌≡◌, ◌+◌, ◌-◌, length, Some, rules, subst, sym, arith}
use Rattle.cal_check.specs.Paths.{left_line, finish_line}
use Rattle.cal_check.proofs.Standing.{ends}
use Rattle.cal_check.proofs.Near.{read}
use Rattle.cal_check.proofs.Modest.{can_end}
use Rattle.cal_check.proofs.Concluding.{some_steps, end_fault}
use Rattle.cal_check.proofs.judging.judge_end.Goals as goal

pub left_line-line-requires-clause-room : goal.left_line-line-requires-clause-room
left_line-line-requires-clause-room c =
    let path = c.args.path.now in
    let some = some_steps path.steps _ c.requires.spelled.lists in
    let last = read c.as_slice-steps.result.now path.steps (length path.steps - 1) c.index-steps-steps.result c.as_slice-steps.ensures (omega (arith, some)) (search rules) in
    omega (arith, c.requires.short, ends 6 path.steps (length path.steps - 1) c.index-steps-steps.result c.requires.spelled.stand last (omega (arith, some)))

pub overflow_add-line : goal.overflow_add-line
overflow_add-line c =
    let path = c.args.path.now in
    let some = some_steps path.steps _ c.requires.spelled.lists in
    let last = read c.as_slice-steps.result.now path.steps (length path.steps - 1) c.index-steps-steps.result c.as_slice-steps.ensures (omega (arith, some)) (search rules) in
    omega (arith, c.requires.short, c.left_line-line.ensures, ends 6 path.steps (length path.steps - 1) c.index-steps-steps.result c.requires.spelled.stand last (omega (arith, some)))

pub broken_end-requires-clause-can : goal.broken_end-requires-clause-can
broken_end-requires-clause-can c = can_end c.args.db.now c.args.path.now c.requires.spelled c.requires.right

pub broken_end-requires-clause-here : goal.broken_end-requires-clause-here
broken_end-requires-clause-here c =
    let path = c.args.path.now in
    let some = some_steps path.steps _ c.requires.spelled.lists in
    let last = read c.as_slice-steps.result.now path.steps (length path.steps - 1) c.index-steps-steps.result c.as_slice-steps.ensures (omega (arith, some)) (search rules) in
    omega (arith, c.left_line-line.ensures, ends 6 path.steps (length path.steps - 1) c.index-steps-steps.result c.requires.spelled.stand last (omega (arith, some)))

pub broken_end-requires-clause-room : goal.broken_end-requires-clause-room
broken_end-requires-clause-room c =
    let path = c.args.path.now in
    let some = some_steps path.steps _ c.requires.spelled.lists in
    let last = read c.as_slice-steps.result.now path.steps (length path.steps - 1) c.index-steps-steps.result c.as_slice-steps.ensures (omega (arith, some)) (search rules) in
    omega (arith, c.requires.short, c.left_line-line.ensures, ends 6 path.steps (length path.steps - 1) c.index-steps-steps.result c.requires.spelled.stand last (omega (arith, some)))

pub returns-in-Some-clause-fault : goal.returns-in-Some-clause-fault
returns-in-Some-clause-fault c =
    let found = c.in-Some.ensures in
    end_fault c.args.db.now c.args.path.now c.some_outcome.ensures c.requires.functions c.requires.spelled c.requires.liquid c.requires.right c.in-Some.line found.0 found.1
