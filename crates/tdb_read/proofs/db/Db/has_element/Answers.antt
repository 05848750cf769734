use Rattle.std.proofs.Common.{◌≡◌, true}
use Rattle.cal_scan.specs.Constituents.{is_element_name}
use Rattle.tdb_read.proofs.Entries.{known_name}
use Rattle.tdb_read.proofs.db.Db.has_element.Goals as goal

pub returns-clause-form : goal.returns-clause-form
returns-clause-form c = known_name (λ name. is_element_name name ≡ true) c.contains_key.result c.args.name.now c.self.inside.elements.entries c.self.invariant.elements c.contains_key.ensures
