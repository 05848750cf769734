use Rattle.std.proofs.Common.{sym, ◌∙◌}
use Rattle.tdb_read.proofs.Types.{amendment_at}
use Rattle.tdb_read.proofs.type_definition.is_amendment.Goals as goal

pub returns-in_ok-found-in-len4-up : goal.returns-in_ok-found-in-len4-up
returns-in_ok-found-in-len4-up c =
    amendment_at c.args.words.now _ c.in_ok-found-in-len4-up.found c.in-len4-up.len_at_least (sym c.if-not-is_word.ensures) c.in_ok-found-in-len4-up.ensures
