use Rattle.std.proofs.Common.{◌≡◌, true}
use Rattle.cal_scan.specs.Names.{same_name}
use Rattle.cal_scan.specs.Constituents.{is_element_name}
use Rattle.tdb_read.proofs.Entries.{All-insert, same_name-true}
use Rattle.tdb_read.proofs.db.Db.enter_element.Goals as goal

pub invariant_of-result : goal.invariant_of-result
invariant_of-result c = rw c.in_ok-insert.ensures.entries (record {
  elements = All-insert same_name (λ e. is_element_name e.0 ≡ true) same_name-true c.self.inside.elements.entries c.args.name c.args.line c.self.invariant.elements c.requires;
  functions = c.self.invariant.functions;
  phases = c.self.invariant.phases;
  parameters = c.self.invariant.parameters;
  types = c.self.invariant.types;
})
