use Rattle.std.proofs.Common.{◌≡◌, true}
use Rattle.cal_scan.specs.Constituents.{is_element_name}
use Rattle.tdb_read.proofs.Entries.{keys_hold}
use Rattle.tdb_read.proofs.db.Db.element_count.Goals as goal

pub returns-clause-forms : goal.returns-clause-forms
returns-clause-forms c = rw (← c.self.view_is) (keys_hold (λ name. is_element_name name ≡ true) c.self.inside.elements.entries c.self.invariant.elements)
