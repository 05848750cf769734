use Rattle.std.proofs.Common.{refl}
use Rattle.tdb_read.specs.Database.{same_key}
use Rattle.tdb_read.specs.Sound.{IsEntry}
use Rattle.tdb_read.proofs.Entries.{All-insert, same_key-true}
use Rattle.tdb_read.proofs.db.Db.enter_parameter.Goals as goal

pub invariant_of-result : goal.invariant_of-result
invariant_of-result c = rw c.in_ok-insert.ensures.entries (record {
  elements = c.self.invariant.elements;
  functions = c.self.invariant.functions;
  phases = c.self.invariant.phases;
  parameters = All-insert same_key (λ e. IsEntry e.0 e.1) same_key-true c.self.inside.parameters.entries c.args.key c.args.text c.self.invariant.parameters c.requires;
  types = c.self.invariant.types;
})

pub returns : goal.returns
returns c = rw (← c.self.view_is) (rw c.in_ok-insert.ensures.entries refl)
