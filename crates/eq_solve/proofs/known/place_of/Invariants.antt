use Rattle.std.proofs.Common.{ℕ, ◌<◌, get_or}
use Rattle.cef_report.specs.declared.entry.Entry.{Entry}
use Rattle.cef_report.specs.Holding.{IsBefore}
use Rattle.eq_solve.proofs.known.place_of.Given as goal

abbrev pub invariant-entries : goal.invariant-entries
invariant-entries l = (k : ℕ) (d : Entry) → k < l.place → IsBefore (get_or l.entries k d) l.entry
