use Rattle.tdb_read.specs.Sound.{IsName, IsPhaseText}
use Rattle.tdb_read.proofs.Entries.{keys_hold, names_hold}
use Rattle.tdb_read.proofs.db.Db.phase_count.Goals as goal

pub returns-clause-names : goal.returns-clause-names
returns-clause-names c = rw (← c.self.view_is) (keys_hold IsName c.self.inside.phases.entries (names_hold IsName IsPhaseText c.self.inside.phases.entries c.self.invariant.phases))
