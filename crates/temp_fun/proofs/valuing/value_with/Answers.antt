use Rattle.std.proofs.Common.{List, [], Ok, subst, sym, rules}
use Rattle.std.specs.Prelude.{ℤ}
use Rattle.std.specs.Int.{w128}
use Rattle.std.proofs.lemmas.Int.{to_z-of_z}
use Rattle.temp_fun.specs.declared.mark.Mark.{Mark}
use Rattle.temp_fun.specs.declared.state.After.{After}
use Rattle.temp_fun.specs.Values.{IsValue}
use Rattle.temp_fun.specs.Marks.{AreRight, AreFollowed}
use Rattle.temp_fun.specs.Progress.{TurnsOn}
use Rattle.temp_fun.specs.States.{GoesFor, work_left}
use Rattle.temp_fun.proofs.Turning.{start, refuses}
use Rattle.temp_fun.proofs.valuing.value_with.Goals as goal

pub begin-requires-clause-marks : goal.begin-requires-clause-marks
begin-requires-clause-marks c = rw c.as_slice.ensures.value c.requires.kept.right

pub steps-init : goal.steps-init
steps-init c = record {
  state = start c.args.functions.now.entries c.args.t c.args.ranged.now c.args.kept.marks.items c.new.result.items c.in-Ok.turn c.new.ensures.items c.requires.ranged
      c.requires.kept.right c.requires.kept.none
      (subst (λ (ms : List Mark). TurnsOn c.args.functions.now.entries c.args.t ms c.args.ranged.now c.in-Ok.turn) c.as_slice.ensures.value c.in-Ok.ensures);
}

pub returns-in-Ok-Value-clause-answer : goal.returns-in-Ok-Value-clause-answer
returns-in-Ok-Value-clause-answer c =
    let is = subst (λ (a : After). GoesFor c.args.functions.now.entries c.args.t c.args.ranged.now (work_left c.steps.state.marks.items c.steps.state.stack.items) (Ok a)) c.in-Ok-Value.field-0-is (c.in-Ok-Value.ensures c.args.ranged.now c.steps.invariant.state) in
    subst (λ (v : ℤ). IsValue c.args.functions.now.entries c.args.t c.args.ranged.now v) (sym (to_z-of_z w128 c.in-Ok-Value.value (search rules))) is.0

pub returns-in-Ok-Value-clause-kept : goal.returns-in-Ok-Value-clause-kept
returns-in-Ok-Value-clause-kept c =
    let is = subst (λ (a : After). GoesFor c.args.functions.now.entries c.args.t c.args.ranged.now (work_left c.steps.state.marks.items c.steps.state.stack.items) (Ok a)) c.in-Ok-Value.field-0-is (c.in-Ok-Value.ensures c.args.ranged.now c.steps.invariant.state) in
    record { right = is.1; none = is.2 }

pub steps-smaller : goal.steps-smaller
steps-smaller c =
    (subst (λ (a : After). GoesFor c.args.functions.now.entries c.args.t c.args.ranged.now (work_left c.steps.state.marks.items c.steps.state.stack.items) (Ok a)) c.in-Ok-More.field-0-is (c.in-Ok-More.ensures c.args.ranged.now c.steps.invariant.state)).1
