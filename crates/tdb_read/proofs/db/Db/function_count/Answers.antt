use Rattle.tdb_expr.specs.Forms.{IsRanged}
use Rattle.tdb_read.specs.Sound.{IsName}
use Rattle.tdb_read.proofs.Entries.{keys_hold, names_hold}
use Rattle.tdb_read.proofs.db.Db.function_count.Goals as goal

pub returns-clause-names : goal.returns-clause-names
returns-clause-names c = rw (← c.self.view_is) (keys_hold IsName c.self.inside.functions.entries (names_hold IsName IsRanged c.self.inside.functions.entries c.self.invariant.functions))
