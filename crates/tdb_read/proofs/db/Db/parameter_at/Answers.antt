use Rattle.std.proofs.Common.{sym, ap, ◌∙◌}
use Rattle.std.specs.Option.{option_map}
use Rattle.std.specs.Map.Iter.{deref_pair}
use Rattle.tdb_read.specs.Sound.{IsEntry}
use Rattle.tdb_read.proofs.Entries.{at_place}
use Rattle.tdb_read.proofs.db.Db.parameter_at.Goals as goal

pub returns-clause-form : goal.returns-clause-form
returns-clause-form c =
    at_place (λ e. IsEntry e.0 e.1) c.self.inside.parameters.entries c.args.place (c.unwrap.result.0.now, c.unwrap.result.1.now) c.self.invariant.parameters
    (sym c.get_index.ensures.entry ∙ ap (option_map deref_pair) c.unwrap.ensures)
