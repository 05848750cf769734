use Rattle.std.proofs.Common.{subst}
use Rattle.eq_solve.specs.declared.point.Point.{Point}
use Rattle.std.specs.Prelude.{Option}
use Rattle.eq_solve.specs.Rounds.{IsRising}
use Rattle.eq_solve.proofs.Rises.{none_can}
use Rattle.eq_solve.proofs.Rounding.{rising-new, proof_from}
use Rattle.eq_solve.proofs.round.refused.Goals as goal

pub returns-in-None-clause-fault : goal.returns-in-None-clause-fault
returns-in-None-clause-fault g c =
    let found = rw c.deref.ensures.value at c.in_ok-found.ensures in
    let nowhere = subst (λ (o : Option Point). IsRising c.args.system.now c.args.v.items o) c.in-None.is found in
    proof_from c.args.system.now c.args.columns.now c.args.asked.now c.args.v.items c.requires.round.can.size c.requires.none nowhere

pub returns-in-Some-clause-round : goal.returns-in-Some-clause-round
returns-in-Some-clause-round g c =
    let found = rw c.deref.ensures.value at c.in_ok-found.ensures in
    let risen = subst (λ (o : Option Point). IsRising c.args.system.now c.args.v.items o) c.in-Some.is found in
    (risen.0, rising-new c.args.system.now c.args.known.now c.args.columns.now c.args.asked.now c.args.v.items c.in-Some.first.entry c.requires.round.are_known c.requires.round.can.size c.requires.none risen.1)

pub rising-requires-clause-small : goal.rising-requires-clause-small
rising-requires-clause-small g c = rw c.deref.ensures.value (none_can c.args.system.now c.args.known.now c.args.columns.now c.args.asked.now c.args.v.items c.requires.round.can.sized c.requires.round.are_known c.requires.round.can.size c.requires.none)
