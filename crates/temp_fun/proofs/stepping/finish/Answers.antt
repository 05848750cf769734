use Rattle.std.proofs.Common.{subst, ap, refl, arith, inl, suc, List, set, Ok, ◌∙◌}
use Rattle.temp_fun.specs.declared.mark.Mark.{Mark}
use Rattle.temp_fun.specs.Progress.{Turns}
use Rattle.std.proofs.lemmas.Option.{slice_get_within}
use Rattle.temp_fun.proofs.Choosing.{products_fine}
use Rattle.temp_fun.proofs.Turning.{popped, finish_marks, finish_refuses, finish_on}
use Rattle.temp_fun.proofs.stepping.finish.Goals as goal

pub done-requires : goal.done-requires
done-requires c =
    (popped c.args.reader.now.functions.now.entries c.args.reader.now.t c.requires.0 c.args.marks.items c.args.stack.items c.pop.new.self.items c.in-Some.waiting c.args.sum c.in-Some.ensures.items c.requires.1).low

pub index_mut-requires : goal.index_mut-requires
index_mut-requires c =
    let p = popped c.args.reader.now.functions.now.entries c.args.reader.now.t c.requires.0 c.args.marks.items c.args.stack.items c.pop.new.self.items c.in-Some.waiting c.args.sum c.in-Some.ensures.items c.requires.1 in
    omega (arith, c.args.marks.ok.0, slice_get_within c.args.marks.items c.in-Some.waiting.child _ (p.marked.all c.in-Some.waiting.child (inl refl)))

pub resume-requires-clause-marks : goal.resume-requires-clause-marks
resume-requires-clause-marks c =
    let p = popped c.args.reader.now.functions.now.entries c.args.reader.now.t c.requires.0 c.args.marks.items c.args.stack.items c.pop.new.self.items c.in-Some.waiting c.args.sum c.in-Some.ensures.items c.requires.1 in
    rw (c.as_slice.ensures.value, c.done.ensures) (finish_marks c.args.reader.now.functions.now.entries c.args.reader.now.t c.requires.0 c.args.marks.items c.pop.new.self.items c.in-Some.waiting c.args.sum (suc c.args.sum.height) refl p)

pub resume-requires-clause-products : goal.resume-requires-clause-products
resume-requires-clause-products c =
    let p = popped c.args.reader.now.functions.now.entries c.args.reader.now.t c.requires.0 c.args.marks.items c.args.stack.items c.pop.new.self.items c.in-Some.waiting c.args.sum c.in-Some.ensures.items c.requires.1 in
    products_fine c.args.reader.now.t p.parent c.in-Some.waiting.products.now p.waits.fine p.waits.holds

pub returns-in-Err : goal.returns-in-Err
returns-in-Err c = λ root state.
    let p = popped c.args.reader.now.functions.now.entries c.args.reader.now.t root c.args.marks.items c.args.stack.items c.pop.new.self.items c.in-Some.waiting c.args.sum c.in-Some.ensures.items state in
    finish_refuses c.args.reader.now.functions.now.entries c.args.reader.now.t root c.args.marks.items c.pop.new.self.items c.in-Some.waiting c.args.sum (suc c.args.sum.height) c.in-Err.fault p
    (λ followed are. c.in-Err.ensures followed (rw (c.as_slice.ensures.value, c.done.ensures) are))

pub returns : goal.returns
returns c = λ root state.
    let p = popped c.args.reader.now.functions.now.entries c.args.reader.now.t root c.args.marks.items c.args.stack.items c.pop.new.self.items c.in-Some.waiting c.args.sum c.in-Some.ensures.items state in
    let turns = subst (λ (ms : List Mark). Turns c.args.reader.now.functions.now.entries c.args.reader.now.t ms c.in-Some.waiting.line c.in-Some.waiting.products.now (Ok c.in-Ok.turn)) (c.as_slice.ensures.value ∙ ap (λ (m : Mark). set c.args.marks.items c.in-Some.waiting.child m) c.done.ensures) c.in-Ok.ensures in
    rw c.done.ensures (finish_on c.args.reader.now.functions.now.entries c.args.reader.now.t root c.args.marks.items c.args.stack.items c.pop.new.self.items c.in-Some.waiting c.args.sum (suc c.args.sum.height) c.in-Ok.turn refl c.in-Some.ensures.items turns p)
