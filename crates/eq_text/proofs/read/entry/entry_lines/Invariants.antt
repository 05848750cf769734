use Rattle.std.proofs.Common.{◌≡◌, ◌-◌}
use Rattle.cal_lines.specs.Reading.{many}
use Rattle.cal_lines.specs.Places.{place}
use Rattle.cal_lines.proofs.Many.{with_before}
use Rattle.eq_text.specs.Kinds.{entry_of}
use Rattle.eq_text.specs.Parsing.{entries_next}
use Rattle.eq_text.proofs.read.entry.entry_lines.Given as goal

abbrev pub invariant-entries : goal.invariant-entries
invariant-entries l = with_before l.all (many entries_next (entry_of l.phases) (l.count - l.counter) (place l.here).0 (place l.here).1) ≡ many entries_next (entry_of l.phases) l.count (place l.fn.at).0 (place l.fn.at).1
