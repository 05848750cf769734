use Rattle.std.proofs.Common.{◌≡◌, ℕ, List, set, sym, ◌∙◌}
use Rattle.std.specs.Prelude.{ℤ, Option, Some}
use Rattle.lp_basis.specs.Held.{IsExchanged}
use Rattle.lp_stage.specs.Leaving.{amounts_at}
use Rattle.lp_stage.specs.Stages.{basis_columns, IsPlacedBasis, CanMove}
use Rattle.lp_basis.specs.declared.row.Row.{Row}
use Rattle.lp_basis.specs.declared.column.Column.{Column}
use Rattle.lp_stage.specs.declared.phase.Phase.{Phase}
use Rattle.lp_stage.proofs.RatioTest.{amounts_read}
use Rattle.lp_stage.proofs.Moving.{can_enter, put_place, placed_basis}
use Rattle.lp_stage.proofs.stage.exchanged.Goals as goal

moved : (b w s : ℕ) (phase : Phase) (columns : List Column) (places : List (Option ℕ)) (rows : List Row) (i k : ℕ) (column : List ℤ) (next : List Row) → CanMove b w s phase columns places rows i k → amounts_at columns k ≡ column →
    IsExchanged rows i column next → IsPlacedBasis b w columns (set places i (Some k)) next
moved b w s phase columns places rows i k column next can e is =
    placed_basis b w s phase columns places rows i k next can
    (is b w (basis_columns columns places) (basis_columns columns (set places i (Some k))) (rw e at (can_enter b w s phase columns places rows i k can)) (rw e at (put_place b w s phase columns places rows i k can)))

pub exchange-requires : goal.exchange-requires
exchange-requires c =
    let can = c.requires.3 in
    let column_is = amounts_read c.args.columns.now c.args.k c.index-columns-k.result can.known c.index-columns-k.is ∙ sym c.deref.ensures.value in
    (c.requires.0, c.requires.1, basis_columns c.args.columns.now c.args.places.now, rw column_is at (can_enter c.requires.0 c.requires.1 c.requires.2 c.args.phase c.args.columns.now c.args.places.now c.args.rows.now c.args.i c.args.k can))

pub priced-requires : goal.priced-requires
priced-requires c =
    let can = c.requires.3 in
    let column_is = amounts_read c.args.columns.now c.args.k c.index-columns-k.result can.known c.index-columns-k.is ∙ sym c.deref.ensures.value in
    let basis = moved c.requires.0 c.requires.1 c.requires.2 c.args.phase c.args.columns.now c.args.places.now c.args.rows.now c.args.i c.args.k c.deref.result.now c.in_ok-next_rows.next_rows.items can column_is c.in_ok-next_rows.ensures in
    (c.requires.0, c.requires.1, c.requires.2, record { during = can.during; basis = rw c.in_ok-next_places.ensures basis })

pub returns : goal.returns
returns c b w s can =
    let column_is = amounts_read c.args.columns.now c.args.k c.index-columns-k.result can.known c.index-columns-k.is ∙ sym c.deref.ensures.value in
    let basis = moved b w s c.args.phase c.args.columns.now c.args.places.now c.args.rows.now c.args.i c.args.k c.deref.result.now c.in_ok-next_rows.next_rows.items can column_is c.in_ok-next_rows.ensures in
    rw c.in_ok-next_places.ensures at (c.in_ok-next.ensures.stage b w s (record { during = can.during; basis = rw c.in_ok-next_places.ensures basis }))
