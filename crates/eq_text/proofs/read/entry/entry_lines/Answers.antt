use Rattle.std.proofs.Common.{arith, ◌-◌, ◌+◌}
use Rattle.std.proofs.lemmas.Result.{err_from_is_err_and}
use Rattle.cal_lines.specs.Places.{place}
use Rattle.cal_lines.proofs.Many.{goes_on, ends, is_done}
use Rattle.eq_text.specs.Kinds.{entry_of}
use Rattle.eq_text.specs.Parsing.{entries_next}
use Rattle.eq_text.proofs.read.entry.entry_lines.Goals as goal

pub returns-in_err-entry : goal.returns-in_err-entry
returns-in_err-entry c =
    let p = err_from_is_err_and c.from_residual.result c.from_residual.ensures.1 in
    rw (p.1, p.2) (ends entries_next (entry_of c.args.phases.now) c.in_err-entry.field-0.0 c.entries.all (c.args.count - c.entries.counter) (place c.entries.here) _ (omega arith) c.in_err-entry.ensures c.entries.invariant)

pub entries-preserved : goal.entries-preserved
entries-preserved c = rw c.in_ok-push.ensures.ok (goes_on entries_next (entry_of c.args.phases.now) c.entries.all (c.args.count - c.entries.counter) (c.args.count - (c.entries.counter + 1)) (place c.entries.here) (place c.in_ok-entry.after) c.in_ok-entry.entry _ (omega arith) c.in_ok-entry.ensures c.entries.invariant)

pub returns : goal.returns
returns c = is_done entries_next (entry_of c.args.phases.now) c.entries.all (c.args.count - c.entries.counter) (place c.entries.here) _ (omega arith) c.entries.invariant
