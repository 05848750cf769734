use Rattle.std.proofs.Common.{suc}
use Rattle.lp_core.specs.Fitting.{widest, dearest}
use Rattle.lp_core.proofs.Spare.{meets_all, IsReady-spare, CanMove-ready, IsReady-moved}
use Rattle.lp_core.proofs.second.without_unit.Goals as goal

pub entrant-found-requires-clause-meets : goal.entrant-found-requires-clause-meets
entrant-found-requires-clause-meets c =
    rw c.deref-2.ensures.value (meets_all c.requires.0 c.args.columns.now c.requires.1 c.args.j c.args.stage c.requires.3 c.args.j c.requires.2)

pub exchanged-requires : goal.exchanged-requires
exchanged-requires c =
    let enters = rw (c.deref.ensures.value, c.deref-2.ensures.value) at c.in-Some.ensures in (
      c.requires.0,
      widest (suc c.requires.0) c.args.columns.now,
      dearest c.args.columns.now,
      rw (c.deref-in-Some.ensures.value, c.deref-in-Some-2.ensures.value) (CanMove-ready c.requires.0 c.args.columns.now c.requires.1 c.args.j c.in-Some.k c.args.stage c.requires.3 c.requires.2 enters.1 enters.2),
    )

pub returns-in-None : goal.returns-in-None
returns-in-None c b target lt ready =
    let kills = rw (c.deref.ensures.value, c.deref-2.ensures.value) at c.in-None.ensures in
    IsReady-spare b c.args.columns.now target c.args.j c.args.stage ready lt kills

pub returns-in_ok-next-in-Some : goal.returns-in_ok-next-in-Some
returns-in_ok-next-in-Some c b target lt ready =
    let enters = rw (c.deref.ensures.value, c.deref-2.ensures.value) at c.in-Some.ensures in
    let moved = rw (c.deref-in-Some.ensures.value, c.deref-in-Some-2.ensures.value) at c.in_ok-next-in-Some.ensures in
    IsReady-moved b c.args.columns.now target c.args.j c.in-Some.k c.args.stage c.in_ok-next-in-Some.next ready lt enters.1 enters.0
    (moved b (widest (suc b) c.args.columns.now) (dearest c.args.columns.now) (CanMove-ready b c.args.columns.now target c.args.j c.in-Some.k c.args.stage ready lt enters.1 enters.2))
