use Rattle.cal_scan.specs.Names.{same_name}
use Rattle.tdb_expr.specs.Forms.{IsRanged}
use Rattle.tdb_read.specs.Sound.{IsName}
use Rattle.tdb_read.proofs.Entries.{All-insert, same_name-true}
use Rattle.tdb_read.proofs.db.Db.enter_function.Goals as goal

pub invariant_of-result : goal.invariant_of-result
invariant_of-result c = rw c.in_ok-insert.ensures.entries (record {
  elements = c.self.invariant.elements;
  functions = All-insert same_name (λ e. IsName e.0 × IsRanged e.1) same_name-true c.self.inside.functions.entries c.args.name c.args.ranged c.self.invariant.functions (c.requires.name, c.requires.ranged);
  phases = c.self.invariant.phases;
  parameters = c.self.invariant.parameters;
  types = c.self.invariant.types;
})
