use Rattle.std.proofs.Common.{◌≡◌, rules, tests}
use Rattle.std.proofs.lemmas.Iterator.{cases_from_any, YieldsList-from_slice}
use Rattle.cal_check.proofs.Near.{read, liquid_yes, liquid_no}
use Rattle.cal_check.proofs.judging.has_liquid.Goals as goal

pub returns-clause-yes : goal.returns-clause-yes
returns-clause-yes c =
    let first = read c.as_slice.result.now c.args.path.now.steps 0 c.index-as_slice-0.result c.as_slice.ensures c.requires c.index-as_slice-0.is in
    let r = cases_from_any _ _ _ (λ name. name ≡ c.args.path.now.liquid) (λ name. name ≡ c.args.path.now.liquid → ⊥) c.any.ensures.ran
    (YieldsList-from_slice c.as_slice-2.result.now c.iter.ensures.rest) (λ y b k. search (rules, tests)) (λ y b k. search (rules, tests)) in
    liquid_yes c.args.path.now c.index-as_slice-0.result c.as_slice-2.result.now c.any.result first c.as_slice-2.ensures r

pub returns-clause-no : goal.returns-clause-no
returns-clause-no c =
    let first = read c.as_slice.result.now c.args.path.now.steps 0 c.index-as_slice-0.result c.as_slice.ensures c.requires c.index-as_slice-0.is in
    let r = cases_from_any _ _ _ (λ name. name ≡ c.args.path.now.liquid) (λ name. name ≡ c.args.path.now.liquid → ⊥) c.any.ensures.ran
    (YieldsList-from_slice c.as_slice-2.result.now c.iter.ensures.rest) (λ y b k. search (rules, tests)) (λ y b k. search (rules, tests)) in
    liquid_no c.args.path.now c.index-as_slice-0.result c.as_slice-2.result.now c.any.result first c.as_slice-2.ensures r
