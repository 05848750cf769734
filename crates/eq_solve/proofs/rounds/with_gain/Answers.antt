use Rattle.std.proofs.Common.{◌≡◌, ◌<◌, arith}
use Rattle.eq_solve.specs.Knowing.{IsKnowing, LeavesLess}
use Rattle.eq_solve.proofs.Grown.{grown, less_unknown}
use Rattle.eq_solve.proofs.Knowing.{known-length}
use Rattle.eq_solve.proofs.rounds.with_gain.Goals as goal

pub with-requires : goal.with-requires
with-requires g c = known-length c.args.system.now c.args.known.entries.items c.args.known.columns.items c.requires.known.are

pub with_entries-requires-clause-known : goal.with_entries-requires-clause-known
with_entries-requires-clause-known g c = grown c.args.system.now c.args.known _ c.args.gain.first c.requires.known c.requires.point c.in_ok-with_first.ensures

pub returns-clause-fewer : goal.returns-clause-fewer
returns-clause-fewer g c =
    let less : LeavesLess c.args.system.now c.args.known c.in_ok-with_first.with_first = less_unknown c.args.system.now c.args.known _ c.args.gain.first c.requires.known c.requires.point c.requires.new c.in_ok-with_first.ensures in
    omega (arith, less, c.in_ok-all.ensures.fewer)
