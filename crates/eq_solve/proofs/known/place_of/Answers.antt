use Rattle.eq_solve.proofs.Grown.{place_is}
use Rattle.eq_solve.proofs.known.place_of.Goals as goal

pub returns-then-not-is_before : goal.returns-then-not-is_before
returns-then-not-is_before c =
    place_is c.args.entries.now c.args.entry.now c.index-entries-place.result c.entries.place c.entries-test.true c.index-entries-place.is c.entries.invariant c.if-not-is_before.ensures.no
