use Rattle.std.proofs.Common.{◌≡◌, take, map, true}
use Rattle.tdb_forms.specs.Lists.{is_distinct}
use Rattle.tdb_forms.proofs.distinct.is_distinct.Given as goal

abbrev pub invariant-names : goal.invariant-names
invariant-names l = record { keys : map (λ k. k.now) l.seen.keys ≡ take l.i l.names; apart : is_distinct (take l.i l.names) ≡ true }
