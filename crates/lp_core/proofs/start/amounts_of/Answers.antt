use Rattle.std.proofs.Common.{◌<◌, List, length, ap, sym, subst, ◌∙◌}
use Rattle.std.specs.Prelude.{ℤ}
use Rattle.cal_math.specs.Vectors.{at}
use Rattle.lp_basis.specs.declared.column.Column.{Column}
use Rattle.lp_stage.specs.Stages.{IsKnown}
use Rattle.lp_stage.proofs.RatioTest.{amounts_read}
use Rattle.lp_core.proofs.Starts.{unit_is, IfOk-weaker}
use Rattle.lp_core.proofs.start.amounts_of.Goals as goal

pub returns-in-None-clause-every : goal.returns-in-None-clause-every
returns-in-None-clause-every c =
    rw c.in-None.is (IfOk-weaker c.unit_row.result _ _ (λ amounts is k lt. unit_is c.args.size c.args.component (at amounts.items) is k lt) c.unit_row.ensures.unit)

pub returns-in-Some-clause-every : goal.returns-in-Some-clause-every
returns-in-Some-clause-every c =
    let known : c.in-Some.k < length c.args.columns.now = subst (IsKnown (length c.args.columns.now)) c.in-Some.is c.requires.known in
    let is = amounts_read c.args.columns.now c.in-Some.k c.index-columns-k.result known c.index-columns-k.is in
    rw c.in-Some.is (IfOk-weaker c.from_slice.result _ _ (λ amounts e k lt. ap (λ (xs : List ℤ). at xs k) (e ∙ c.deref.ensures.value ∙ ap (λ (column : Column). column.amounts.items) (sym c.index-columns-k.is) ∙ sym is)) c.from_slice.ensures.items)
