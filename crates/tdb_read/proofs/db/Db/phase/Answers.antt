use Rattle.cal_scan.specs.Names.{same_name}
use Rattle.tdb_read.specs.Sound.{IsName, IsPhaseText}
use Rattle.tdb_read.proofs.Entries.{IfSome-copied, IfSome-lookup, IfSome-name, names_hold, values_hold}
use Rattle.tdb_read.proofs.db.Db.phase.Goals as goal

pub returns-clause-form : goal.returns-clause-form
returns-clause-form c = IfSome-copied IsPhaseText c.get.result _ c.get.ensures.value (IfSome-lookup (same_name c.args.name.now) IsPhaseText c.self.inside.phases.entries (values_hold IsName IsPhaseText c.self.inside.phases.entries c.self.invariant.phases))

pub returns-clause-name : goal.returns-clause-name
returns-clause-name c = IfSome-name IsName c.get.result c.args.name.now c.self.inside.phases.entries (names_hold IsName IsPhaseText c.self.inside.phases.entries c.self.invariant.phases) c.get.ensures.value
