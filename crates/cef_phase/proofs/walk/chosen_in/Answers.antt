use Rattle.std.proofs.Common.{rules, ◌≡◌, ◌≤◌, ◌+◌, ◌*◌, ◌^◌, length, SFits}
use Rattle.std.specs.Prelude.{unsigned_abs}
use Rattle.std.specs.Int.{w128}
use Rattle.cef_phase.specs.declared.row.Row.{Row}
use Rattle.cef_phase.specs.Walks.{part_at}
use Rattle.cef_phase.proofs.Rows.{part_size}
use Rattle.cef_phase.proofs.walk.chosen_in.Goals as goal

pub choose_row-requires-clause-slopes : goal.choose_row-requires-clause-slopes
choose_row-requires-clause-slopes c = c.row_of-row.ensures.slopes _ c.requires.walk.small

pub returns-clause-room : goal.returns-clause-room
returns-clause-room c =
    let row : Row = c.row_of-row.result in
    let fits : SFits w128 c.choose_row.result.multiplier = search rules in
    let fits_part : SFits w128 c.choose_row.result.part = search rules in
    let part : c.choose_row.result.part ≡ part_at row c.choose_row.result.multiplier = c.choose_row.ensures.part in
    let small : unsigned_abs (part_at row c.choose_row.result.multiplier) ≤ 2 ^ 119 * length row.slopes.now + 2 ^ 117 = part_size row c.choose_row.result.multiplier c.row_of-row.ensures.row c.choose_row.ensures.size in
    rw (part, ← c.row_of-row.ensures.sites) small
