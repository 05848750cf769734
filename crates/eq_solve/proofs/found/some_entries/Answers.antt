use Rattle.std.proofs.Common.{length}
use Rattle.eq_solve.proofs.Entries.{some_counted}
use Rattle.eq_solve.proofs.Finding.{counted_only}
use Rattle.eq_solve.proofs.found.some_entries.Goals as goal

pub entries_of-requires : goal.entries_of-requires
entries_of-requires c =
    rw (c.deref.ensures.value, c.in_ok-some.ensures) (counted_only (length c.args.known.now) _ (some_counted (length c.args.known.now) c.args.amounts.now c.requires))
