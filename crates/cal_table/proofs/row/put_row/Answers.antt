use Rattle.std.proofs.Common.{◌≢◌}
use Rattle.csv.specs.declared.writer.QuoteStyle.TheVariants as style
use Rattle.cal_table.proofs.Rows.{row_same, not_by_number}
use Rattle.cal_table.proofs.row.put_row.Goals as goal

pub returns-clause-text : goal.returns-clause-text
returns-clause-text c =
    let before = c.requires.between in
    let plain : c.args.rows.now.cfg.style ≢ style.NonNumeric = rw before.setup not_by_number in
    let h = c.in-Ok.ensures.bytes before.fields before.wrote plain in
    rw (before.setup, row_same _ c.requires.plain) at h
