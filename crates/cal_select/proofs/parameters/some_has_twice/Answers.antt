use Rattle.std.proofs.Common.{◌∙◌, sym}
use Rattle.cal_select.specs.Parameters.{has_twice}
use Rattle.cal_select.proofs.Any.{any-next, any-found}
use Rattle.cal_select.proofs.parameters.some_has_twice.Goals as goal

pub lists-preserved : goal.lists-preserved
lists-preserved c = any-next has_twice c.args.array.now c.lists.place c.list.result.now c.list.ensures c.lists.invariant (sym c.has_twice.ensures ∙ c.if-has_twice.false)

pub returns-then-has_twice : goal.returns-then-has_twice
returns-then-has_twice c = sym (any-found has_twice c.args.array.now c.lists.place c.list.result.now c.list.ensures (sym c.has_twice.ensures ∙ c.if-has_twice.true))
