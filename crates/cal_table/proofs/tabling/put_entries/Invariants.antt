use Rattle.std.proofs.Common.{◌≡◌, ◌++◌, take}
use Rattle.cal_table.specs.Tables.{entries_text}
use Rattle.cal_table.specs.Records.{text_in, IsBetween}
use Rattle.cal_table.proofs.tabling.put_entries.Given as goal

abbrev pub invariant-entries : goal.invariant-entries
invariant-entries l =
    IsBetween l.rows × (text_in l.rows ≡ text_in l.fn.rows ++ entries_text l.number l.t l.phases (take l.entry-index l.entries))
