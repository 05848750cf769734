use Rattle.std.proofs.Common.{sym, ap, ◌∙◌, ◌-◌, ◌+◌, arith}
use Rattle.std.specs.Prelude.{map}
use Rattle.std.specs.Option.{option_map}
use Rattle.tdb_expr.specs.Parts.{part_of}
use Rattle.tdb_expr.proofs.Loops.{factors_on, factors_end, factors_none, factors_out}
use Rattle.tdb_expr.proofs.sum.product.Goals as goal

pub returns-in-None : goal.returns-in-None
returns-in-None c = factors_none (map part_of c.factors.all) (16 - c.factors.counter) (16 - (c.factors.counter + 1)) c.factors.rest.now _ (omega arith) (sym c.in_ok-found.ensures ∙ ap (option_map (λ x. (part_of x.0, x.1.now))) c.in-None.is) c.factors.invariant

pub returns-in-None-behind_mark : goal.returns-in-None-behind_mark
returns-in-None-behind_mark c = rw c.compact.ensures (factors_end c.factors.all _ (16 - c.factors.counter) (16 - (c.factors.counter + 1)) c.factors.rest.now c.in-Some.after.now c.in-Some.factor _ c.in_ok-push-in-Some.ensures.ok (omega arith) (sym c.in_ok-found.ensures ∙ ap (option_map (λ x. (part_of x.0, x.1.now))) c.in-Some.is) (sym c.behind_mark.ensures ∙ ap (option_map (λ x. x.now)) c.in-None-behind_mark.is) c.factors.invariant)

pub factors-preserved : goal.factors-preserved
factors-preserved c = factors_on c.factors.all _ (16 - c.factors.counter) (16 - (c.factors.counter + 1)) c.factors.rest.now c.in-Some.after.now c.in-Some-behind_mark.more.now c.in-Some.factor _ c.in_ok-push-in-Some.ensures.ok (omega arith) (sym c.in_ok-found.ensures ∙ ap (option_map (λ x. (part_of x.0, x.1.now))) c.in-Some.is) (sym c.behind_mark.ensures ∙ ap (option_map (λ x. x.now)) c.in-Some-behind_mark.is) c.factors.invariant

pub returns : goal.returns
returns c = factors_out (map part_of c.factors.all) (16 - c.factors.counter) c.factors.rest.now _ (omega arith) c.factors.invariant
