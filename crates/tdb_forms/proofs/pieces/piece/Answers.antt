use Rattle.std.proofs.Common.{◌≡◌, List, ℕ, Some, sym, ap, subst, ◌∙◌}
use Rattle.std.specs.Option.{option_map}
use Rattle.cal_dec.specs.declared.dec.Dec.{Dec}
use Rattle.cal_scan.specs.Cuts.{cut_at}
use Rattle.tdb_forms.specs.Ranges.{IsHigh}
use Rattle.tdb_forms.proofs.Ranging.{no_limit, piece_shorter}
use Rattle.tdb_forms.proofs.pieces.piece.Goals as goal

pub returns-in-None-high_limit-clause-none : goal.returns-in-None-high_limit-clause-none
returns-in-None-high_limit-clause-none c =
    let cut : cut_at 59 c.args.text.now ≡ Some (c.in-Some.expression.now, c.in-Some.limit.now) = sym c.cut_at.ensures ∙ ap (option_map (λ r. (r.0.now, r.1.now))) c.in-Some.is in
    no_limit c.args.text.now c.in-Some.expression.now c.in-Some.limit.now cut
    (subst (λ (t : List ℕ). (high : Dec) (rest : List ℕ) → IsHigh t high rest → ⊥) c.behind_separators.ensures c.in-None-high_limit.ensures.none)

pub returns-in_ok-expr-in-Some-high_limit-clause-shorter : goal.returns-in_ok-expr-in-Some-high_limit-clause-shorter
returns-in_ok-expr-in-Some-high_limit-clause-shorter c =
    let cut : cut_at 59 c.args.text.now ≡ Some (c.in-Some.expression.now, c.in-Some.limit.now) = sym c.cut_at.ensures ∙ ap (option_map (λ r. (r.0.now, r.1.now))) c.in-Some.is in
    let high = subst (λ (t : List ℕ). IsHigh t c.in-Some-high_limit.high c.in-Some-high_limit.after.now) c.behind_separators.ensures c.in-Some-high_limit.ensures.found in
    piece_shorter c.args.text.now c.in-Some.expression.now c.in-Some.limit.now c.in-Some-high_limit.after.now _ c.in-Some-high_limit.high cut high c.behind_separators-in-Some-high_limit.ensures
