use Rattle.tdb_read.proofs.Found.{at_some}
use Rattle.tdb_read.proofs.Types.{amends_at}
use Rattle.tdb_read.proofs.type_definition.amendment_of.Goals as goal

pub returns-in_ok-name-in-Some : goal.returns-in_ok-name-in-Some
returns-in_ok-name-in-Some c =
    amends_at c.args.words.now c.split_at.result.1.now _ c.in_ok-name-in-Some.name c.in-Some.kind c.in-len2-up.len_at_least c.split_at.ensures.back c.in_ok-name-in-Some.ensures
    (at_some _ c.in_ok-found-in-len2-up.found c.in-Some.kind c.in_ok-found-in-len2-up.ensures c.in-Some.is)
