use Rattle.std.proofs.Common.{subst}
use Rattle.tdb_read.specs.Constituent.{Sites, constituent_of}
use Rattle.tdb_read.proofs.Forms.{sited_fine}
use Rattle.tdb_read.proofs.constituent.enter_constituent.Goals as goal

pub enter_sites-requires : goal.enter_sites-requires
enter_sites-requires c =
    let gives = subst (Sites c.args.db (constituent_of c.args.db c.args.text.now)) c.in-Some.is c.in_ok-found.ensures in
    let fine = sited_fine c.args.db c.args.text.now c.in-Some.name c.in-Some.sites gives.0 gives.2 in
    record { phase = gives.0; known = gives.1; count = fine.0; lists = fine.1 }
