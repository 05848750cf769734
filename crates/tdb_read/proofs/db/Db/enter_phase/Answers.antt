use Rattle.cal_scan.specs.Names.{same_name}
use Rattle.tdb_read.specs.Sound.{IsName, IsPhaseText}
use Rattle.tdb_read.proofs.Entries.{All-insert, same_name-true}
use Rattle.tdb_read.proofs.db.Db.enter_phase.Goals as goal

pub invariant_of-result : goal.invariant_of-result
invariant_of-result c = rw c.in_ok-insert.ensures.entries (record {
  elements = c.self.invariant.elements;
  functions = c.self.invariant.functions;
  phases = All-insert same_name (λ e. IsName e.0 × IsPhaseText e.1) same_name-true c.self.inside.phases.entries c.args.name c.args.text c.self.invariant.phases (c.requires.name, c.requires.text);
  parameters = c.self.invariant.parameters;
  types = c.self.invariant.types;
})
