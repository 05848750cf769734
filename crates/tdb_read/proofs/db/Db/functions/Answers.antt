use Rattle.tdb_expr.specs.Forms.{IsRanged}
use Rattle.tdb_read.specs.Sound.{IsName}
use Rattle.tdb_read.proofs.Entries.{at_place}
use Rattle.tdb_read.proofs.db.Db.functions.Goals as goal

pub returns-clause-ranged : goal.returns-clause-ranged
returns-clause-ranged c = rw (← c.self.view_is) (λ place name ranged is. (at_place (λ e. IsName e.0 × IsRanged e.1) c.self.inside.functions.entries place (name, ranged) c.self.invariant.functions is).1)
