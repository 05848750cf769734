use Rattle.std.proofs.Common.{sym, ap, ◌∙◌, refl}
use Rattle.tdb_expr.proofs.Loops.{carried, signs_on, signs_stop, signs_done}
use Rattle.tdb_expr.proofs.sum.signs.Goals as goal

pub signs-init : goal.signs-init
unfolding carried
signs-init c = refl

pub returns-in-None : goal.returns-in-None
returns-in-None c = signs_stop c.signs.negative c.signs.i c.args.text.now _ _ c.signs-test.true (sym c.in-None.is ∙ c.sign.ensures) c.split_at.ensures.back c.signs.invariant

pub signs-preserved : goal.signs-preserved
signs-preserved c = signs_on c.in-Some.minus c.signs.negative _ c.signs.i c.args.text.now _ c.signs-test.true (sym c.in-Some.is ∙ c.sign.ensures) c.turned-negative.ensures c.signs.invariant

pub returns : goal.returns
returns c = signs_done c.signs.negative c.signs.i c.args.text.now _ _ c.signs-test.false c.split_at-2.ensures.back c.signs.invariant
