use Rattle.std.proofs.Common.{◌≡◌, ◌∙◌, arith, sym, ap, ℕ}
use Rattle.std.specs.List.{find, list_all, range_with_len}
use Rattle.cal_select.specs.Wholes.{is_whole_at, decimals_of}
use Rattle.cal_select.proofs.Finding.{none-on, found-at}
use Rattle.cal_select.proofs.ratios.decimals.Goals as goal

pub returns-then-are_whole_at-clause-value : goal.returns-then-are_whole_at-clause-value
unfolding decimals_of
returns-then-are_whole_at-clause-value c =
    sym (found-at (λ d. list_all (is_whole_at d) c.args.ratios.now) c.decimals.decimals 6 c.decimals.invariant (sym c.are_whole_at.ensures ∙ c.if-are_whole_at.true) (omega arith))

pub decimals-preserved : goal.decimals-preserved
decimals-preserved c =
    none-on (λ d. list_all (is_whole_at d) c.args.ratios.now) c.decimals.decimals c.decimals.invariant (sym c.are_whole_at.ensures ∙ c.if-are_whole_at.false)

pub returns-clause-value : goal.returns-clause-value
unfolding decimals_of
returns-clause-value c =
    let e : c.decimals.decimals ≡ 6 = omega arith in
    sym (ap (λ (n : ℕ). find (λ d. list_all (is_whole_at d) c.args.ratios.now) (range_with_len 0 n)) (sym e) ∙ c.decimals.invariant)
