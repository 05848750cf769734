use Rattle.std.proofs.Common.{◌≡◌, ◌<◌, ◌+◌, ◌-◌, suc, slice_get, Some, length, rules, arith, subst, sym, ◌∙◌, ap, List, true, false}
use Rattle.std.proofs.lemmas.Bool.{OnTrue_from, OnFalse_from}
use Rattle.cal_check.specs.Paths.{Finishes}
use Rattle.cal_check.proofs.Near.{read_last, finishes_yes, finishes_no}
use Rattle.cal_check.proofs.ending.finishes.Goals as goal

pub returns-in-Some-clause-yes : goal.returns-in-Some-clause-yes
returns-in-Some-clause-yes c =
    let last = read_last c.as_slice-steps.result.now c.args.path.now.steps c.index-steps-steps.result c.as_slice-steps.ensures c.requires.can.some c.index-steps-steps.is in
    OnTrue_from c.eq.result (Finishes c.args.path.now) (λ (e : c.eq.result ≡ true). finishes_yes c.args.path.now c.index-steps-steps.result c.in-Some.finish last (rw (c.as_slice.ensures, c.in-Some.is) at c.finish_of-found.ensures) (search (rules, e, c.eq.ensures)))

pub returns-in-Some-clause-no : goal.returns-in-Some-clause-no
returns-in-Some-clause-no c =
    let last = read_last c.as_slice-steps.result.now c.args.path.now.steps c.index-steps-steps.result c.as_slice-steps.ensures c.requires.can.some c.index-steps-steps.is in
    OnFalse_from c.eq.result (Finishes c.args.path.now → ⊥) (λ (e : c.eq.result ≡ false). finishes_no c.args.path.now c.index-steps-steps.result c.in-Some.finish last (rw (c.as_slice.ensures, c.in-Some.is) at c.finish_of-found.ensures) (search (rules, e, c.eq.ensures)))
