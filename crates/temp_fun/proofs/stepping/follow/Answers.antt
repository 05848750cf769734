use Rattle.temp_fun.proofs.Choosing.{function_ranged}
use Rattle.temp_fun.proofs.Turning.{follow_marks, follow_refuses, follow_on}
use Rattle.temp_fun.proofs.stepping.follow.Goals as goal

pub begin-found-requires-clause-marks : goal.begin-found-requires-clause-marks
begin-found-requires-clause-marks c =
    rw c.as_slice.ensures.value (follow_marks c.args.reader.now.functions.now.entries c.args.reader.now.t c.args.marks.items c.args.stack.items c.args.waiting c.requires.ready)

pub begin-found-requires-clause-ranged : goal.begin-found-requires-clause-ranged
begin-found-requires-clause-ranged c = function_ranged c.args.reader.now.functions.now.entries c.args.waiting.child c.function_at.result.now c.requires.functions c.function_at.ensures

pub returns-in-Err : goal.returns-in-Err
returns-in-Err c = λ root state.
    follow_refuses c.args.reader.now.functions.now.entries c.args.reader.now.t root c.args.marks.items c.args.stack.items c.args.waiting c.function_at.result.now c.in-Err.fault c.function_at.ensures state
    (λ followed are. c.in-Err.ensures followed (rw c.as_slice.ensures.value are))

pub returns : goal.returns
returns c = λ root state.
    follow_on c.args.reader.now.functions.now.entries c.args.reader.now.t root c.args.marks.items c.args.stack.items c.in_ok-stack-in-Ok.stack.items c.args.waiting c.function_at.result.now c.in-Ok.turn c.requires.functions c.function_at.ensures c.in_ok-stack-in-Ok.ensures (rw c.as_slice.ensures.value at c.in-Ok.ensures) state
