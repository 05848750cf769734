use Rattle.std.proofs.Common.{◌≡◌, ℕ, List, get_or, subst, sym, ◌∙◌}
use Rattle.std.specs.Prelude.{ℤ, Option, Some, None}
use Rattle.lp_basis.specs.Held.{numbers_at}
use Rattle.lp_basis.proofs.Placed.{row_read}
use Rattle.lp_basis.specs.declared.column.Column.{Column}
use Rattle.lp_basis.specs.declared.row.Row.{Row}
use Rattle.lp_core.specs.SecondPhase.{MeetsAll, IsMeeting, IsEntrant}
use Rattle.lp_core.proofs.second.entrant.Goals as goal

entrant_from : (columns : List Column) (places : List (Option ℕ)) (rows : List Row) (j : ℕ) (found : Option ℕ) → get_or places j None ≡ None → IsMeeting columns (numbers_at rows j) found → IsEntrant columns places rows j found
entrant_from columns places rows j None free is = λ none k lt. is k lt
entrant_from columns places rows j (Some k) free is = (free, is.0, is.1)

pub meeting-requires : goal.meeting-requires
meeting-requires c =
    let row_is : numbers_at c.args.rows.now c.args.j ≡ c.deref.result.now = (row_read c.args.rows.now c.args.j c.index-rows-j.result c.requires.row c.index-rows-j.is).0 ∙ sym c.deref.ensures.value in
    subst (λ (xs : List ℤ). MeetsAll c.args.columns.now xs) row_is c.requires.meets

pub returns-in-None : goal.returns-in-None
returns-in-None c =
    let row_is : numbers_at c.args.rows.now c.args.j ≡ c.deref.result.now = (row_read c.args.rows.now c.args.j c.index-rows-j.result c.requires.row c.index-rows-j.is).0 ∙ sym c.deref.ensures.value in
    entrant_from c.args.columns.now c.args.places.now c.args.rows.now c.args.j c.meeting.result c.in-None.is (subst (λ (xs : List ℤ). IsMeeting c.args.columns.now xs c.meeting.result) (sym row_is) c.meeting.ensures)
