use Rattle.eq_text.proofs.Joined.{entries_written}
use Rattle.eq_text.proofs.write.report.put_entries.Goals as goal

pub returns : goal.returns
returns c = entries_written c.args.phases.now c.args.entries.now c.entries.entry-index _ _ c.entries-test.false c.entries.invariant
