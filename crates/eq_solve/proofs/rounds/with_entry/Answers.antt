use Rattle.std.proofs.Common.{◌≡◌, length, refl}
use Rattle.eq_solve.specs.Points.{IsColumnOf, IsListOf}
use Rattle.eq_solve.proofs.Grown.{grown, no_more, start_is}
use Rattle.eq_solve.proofs.Knowing.{known-length}
use Rattle.eq_solve.proofs.rounds.with_entry.Goals as goal

pub column-requires-clause-list : goal.column-requires-clause-list
column-requires-clause-list g c =
    let is = c.if-is_constitution.ensures in
    rw c.requires.same (record { phase = is.phase; is_phase = is.is_phase; shape = rw c.in_ok-site.ensures is.constitution.shape })

pub with-requires : goal.with-requires
with-requires g c = known-length c.args.system.now c.args.known.entries.items c.args.known.columns.items c.requires.known.are

pub returns-in_ok-more-clause-known : goal.returns-in_ok-more-clause-known
returns-in_ok-more-clause-known g c =
    let column : IsColumnOf c.args.system.now _ c.in_ok-column.column = rw c.requires.same at c.in_ok-column.ensures in
    grown c.args.system.now c.args.known c.in_ok-more.more _ c.requires.known
    (start_is c.args.system.now c.args.start.now _ c.in_ok-column.column c.if-is_constitution.ensures refl c.in_ok-site.ensures column) c.in_ok-more.ensures

pub returns-in_ok-more-clause-fewer : goal.returns-in_ok-more-clause-fewer
returns-in_ok-more-clause-fewer g c = no_more c.args.system.now c.args.known c.in_ok-more.more _ c.in_ok-more.ensures
