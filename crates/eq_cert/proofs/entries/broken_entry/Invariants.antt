use Rattle.std.proofs.Common.{ℕ, ◌<◌}
use Rattle.eq_cert.specs.Rules.{IsRightEntryAt}
use Rattle.eq_cert.proofs.entries.broken_entry.Given as goal

abbrev pub invariant-entries : goal.invariant-entries
invariant-entries l = (k : ℕ) → k < l.k → IsRightEntryAt l.phases l.entries k
