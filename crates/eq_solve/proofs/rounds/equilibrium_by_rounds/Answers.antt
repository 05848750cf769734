use Rattle.std.proofs.Common.{◌≡◌, ◌<◌, subst}
use Rattle.eq_solve.specs.declared.point.Round.{Round}
use Rattle.eq_solve.specs.Points.{IsKnownAs, IsNew}
use Rattle.eq_solve.specs.Rounds.{IsRound}
use Rattle.eq_solve.proofs.rounds.equilibrium_by_rounds.Goals as goal

pub with_gain-requires-clause-point : goal.with_gain-requires-clause-point
with_gain-requires-clause-point g c =
    let round = rw c.deref.ensures.value at c.in_ok-next.ensures.round in
    (subst (λ (r : Round). IsRound c.args.system.now (g.P.Phases.swept c.args.phases.now) c.args.asked.now c.args.gap c.args.budget c.rounds.known.entries.items r) c.in-Next.is round).0

pub with_gain-requires-clause-new : goal.with_gain-requires-clause-new
with_gain-requires-clause-new g c =
    let round = rw c.deref.ensures.value at c.in_ok-next.ensures.round in
    (subst (λ (r : Round). IsRound c.args.system.now (g.P.Phases.swept c.args.phases.now) c.args.asked.now c.args.gap c.args.budget c.rounds.known.entries.items r) c.in-Next.is round).1
