use Rattle.tdb_expr.specs.Forms.{IsRanged}
use Rattle.tdb_read.specs.Database.{same_key}
use Rattle.tdb_read.specs.Sound.{IsEntry}
use Rattle.tdb_read.proofs.Entries.{IfSome-copied, IfSome-lookup, weaker}
use Rattle.tdb_read.proofs.db.Db.parameter.Goals as goal

pub returns-clause-ranged : goal.returns-clause-ranged
returns-clause-ranged c =
    IfSome-copied (λ text. IsRanged text.ranged) c.get.result _ c.get.ensures.value
    (IfSome-lookup (same_key c.args.key.now) (λ text. IsRanged text.ranged) c.self.inside.parameters.entries
    (weaker (λ e. IsEntry e.0 e.1) (λ e. IsRanged e.1.ranged) c.self.inside.parameters.entries (λ e is. is.ranged) c.self.invariant.parameters))
