use Rattle.std.proofs.Common.{◌≡◌, map, rules, sym, ◌∙◌, SFits, subst}
use Rattle.std.specs.Prelude.{pos}
use Rattle.std.specs.Int.{w128}
use Rattle.std.proofs.lemmas.Int.{to_z-of_z}
use Rattle.cef_core.specs.declared.system.System.{System}
use Rattle.eq_sweep.specs.declared.swept.Swept.{Swept}
use Rattle.eq_sweep.specs.declared.swept.Swept.TheVariants.{Closed, Out}
use Rattle.eq_solve.specs.Prices.{lowered, floored}
use Rattle.eq_solve.specs.Points.{IsColumnOf}
use Rattle.eq_solve.specs.Sweeps.{CanSweep, Sweeps, IsBelow}
use Rattle.eq_solve.proofs.Knowing.{numbers_small, can_sweep, known-length, list_of}
use Rattle.eq_solve.proofs.Finding.{found_from, open_from, feasible_from}
use Rattle.eq_solve.proofs.Rounding.{IsPlanned, planned_is, point_new}
use Rattle.eq_solve.proofs.Rising.{floored_rising}
use Rattle.eq_solve.proofs.round.planned.Goals as goal

pub potentials_of-requires-clause-numbers : goal.potentials_of-requires-clause-numbers
potentials_of-requires-clause-numbers g c =
    rw c.deref.ensures.value (numbers_small c.args.system.now c.args.known.now c.args.columns.now c.args.asked.now c.args.plan c.requires.round.can.sized c.requires.round.are_known c.requires.round.can.size c.requires.plan)

pub sweep-requires-clause-small : goal.sweep-requires-clause-small
sweep-requires-clause-small g c =
    let fits_d : SFits w128 c.args.plan.denominator = search rules in
    let are : c.in_ok-potentials.potentials.items ≡ map (lowered c.args.plan.denominator c.margin_of-margin.result) c.args.plan.potentials.items = rw c.deref.ensures.value at (simp to_z-of_z at c.in_ok-potentials.ensures) in
    rw (c.requires.same, c.deref-3.ensures.value, are) (can_sweep c.args.system.now c.args.known.now c.args.columns.now c.args.asked.now c.args.plan c.margin_of-margin.result c.requires.round.can.sized c.requires.round.are_known c.requires.round.can.size c.margin_of-margin.ensures.size c.requires.plan)

pub point_of-requires-clause-list : goal.point_of-requires-clause-list
point_of-requires-clause-list g c =
    let fits_d : SFits w128 c.args.plan.denominator = search rules in
    let fits_p : SFits w128 c.args.plan.parts = search rules in
    let potentials_are : c.in_ok-potentials.potentials.items ≡ map (lowered c.args.plan.denominator c.margin_of-margin.result) c.args.plan.potentials.items = rw c.deref.ensures.value at (simp to_z-of_z at c.in_ok-potentials.ensures) in
    let amounts_are : c.in_ok-amounts.amounts.items ≡ map (floored c.args.plan.parts) c.args.plan.weights.items = rw c.deref-2.ensures.value at (simp to_z-of_z at c.in_ok-amounts.ensures) in
    let is : IsPlanned c.args.system.now c.args.known.now c.args.columns.now c.args.asked.now c.in_ok-potentials.potentials.items c.margin_of-margin.result c.in_ok-amounts.amounts.items =
    planned_is c.args.system.now c.args.known.now c.args.columns.now c.args.asked.now c.in_ok-potentials.potentials.items c.args.gap c.margin_of-margin.result c.in_ok-amounts.amounts.items c.args.plan c.requires.round.can c.requires.round.are_known c.margin_of-margin.ensures.size c.requires.plan potentials_are amounts_are in
    let told : Sweeps c.args.system.now c.in_ok-potentials.potentials.items c.args.budget c.in_ok-swept.swept = rw (c.requires.same, c.deref-3.ensures.value) at c.in_ok-swept.ensures.sound in
    let below : IsBelow c.args.system.now c.in_ok-potentials.potentials.items (record { phase = c.in-Below.phase; amount = pos 0; site = c.in-Below.site }) =
    subst (λ (s : Swept). Sweeps c.args.system.now c.in_ok-potentials.potentials.items c.args.budget s) c.in-Below.is told in
    rw c.requires.same (list_of _ _ below.is_constitution)

pub returns-in-Below-clause-round : goal.returns-in-Below-clause-round
returns-in-Below-clause-round g c =
    let fits_d : SFits w128 c.args.plan.denominator = search rules in
    let fits_p : SFits w128 c.args.plan.parts = search rules in
    let potentials_are : c.in_ok-potentials.potentials.items ≡ map (lowered c.args.plan.denominator c.margin_of-margin.result) c.args.plan.potentials.items = rw c.deref.ensures.value at (simp to_z-of_z at c.in_ok-potentials.ensures) in
    let amounts_are : c.in_ok-amounts.amounts.items ≡ map (floored c.args.plan.parts) c.args.plan.weights.items = rw c.deref-2.ensures.value at (simp to_z-of_z at c.in_ok-amounts.ensures) in
    let is : IsPlanned c.args.system.now c.args.known.now c.args.columns.now c.args.asked.now c.in_ok-potentials.potentials.items c.margin_of-margin.result c.in_ok-amounts.amounts.items =
    planned_is c.args.system.now c.args.known.now c.args.columns.now c.args.asked.now c.in_ok-potentials.potentials.items c.args.gap c.margin_of-margin.result c.in_ok-amounts.amounts.items c.args.plan c.requires.round.can c.requires.round.are_known c.margin_of-margin.ensures.size c.requires.plan potentials_are amounts_are in
    let told : Sweeps c.args.system.now c.in_ok-potentials.potentials.items c.args.budget c.in_ok-swept.swept = rw (c.requires.same, c.deref-3.ensures.value) at c.in_ok-swept.ensures.sound in
    let below : IsBelow c.args.system.now c.in_ok-potentials.potentials.items (record { phase = c.in-Below.phase; amount = pos 0; site = c.in-Below.site }) =
    subst (λ (s : Swept). Sweeps c.args.system.now c.in_ok-potentials.potentials.items c.args.budget s) c.in-Below.is told in
    let entry_below : IsBelow c.args.system.now c.in_ok-potentials.potentials.items c.in_ok-first-in-Below.first.entry = rw c.in_ok-first-in-Below.ensures.entry below in
    let column_is : IsColumnOf c.args.system.now c.in_ok-first-in-Below.first.entry c.in_ok-first-in-Below.first.column = rw c.requires.same at c.in_ok-first-in-Below.ensures.column in
    point_new c.args.system.now c.args.known.now c.args.columns.now c.args.asked.now c.in_ok-potentials.potentials.items c.margin_of-margin.result c.in_ok-amounts.amounts.items c.in_ok-first-in-Below.first.entry c.in_ok-first-in-Below.first.column c.requires.round.can.sized c.requires.round.are_known is entry_below column_is

pub entries_of-requires : goal.entries_of-requires
entries_of-requires g c =
    let fits_d : SFits w128 c.args.plan.denominator = search rules in
    let fits_p : SFits w128 c.args.plan.parts = search rules in
    let potentials_are : c.in_ok-potentials.potentials.items ≡ map (lowered c.args.plan.denominator c.margin_of-margin.result) c.args.plan.potentials.items = rw c.deref.ensures.value at (simp to_z-of_z at c.in_ok-potentials.ensures) in
    let amounts_are : c.in_ok-amounts.amounts.items ≡ map (floored c.args.plan.parts) c.args.plan.weights.items = rw c.deref-2.ensures.value at (simp to_z-of_z at c.in_ok-amounts.ensures) in
    let is : IsPlanned c.args.system.now c.args.known.now c.args.columns.now c.args.asked.now c.in_ok-potentials.potentials.items c.margin_of-margin.result c.in_ok-amounts.amounts.items =
    planned_is c.args.system.now c.args.known.now c.args.columns.now c.args.asked.now c.in_ok-potentials.potentials.items c.args.gap c.margin_of-margin.result c.in_ok-amounts.amounts.items c.args.plan c.requires.round.can c.requires.round.are_known c.margin_of-margin.ensures.size c.requires.plan potentials_are amounts_are in
    rw c.deref-in-Out.ensures.value is.places

pub returns-in-Out-clause-fault : goal.returns-in-Out-clause-fault
returns-in-Out-clause-fault g c =
    let fits_d : SFits w128 c.args.plan.denominator = search rules in
    let fits_p : SFits w128 c.args.plan.parts = search rules in
    let potentials_are : c.in_ok-potentials.potentials.items ≡ map (lowered c.args.plan.denominator c.margin_of-margin.result) c.args.plan.potentials.items = rw c.deref.ensures.value at (simp to_z-of_z at c.in_ok-potentials.ensures) in
    let amounts_are : c.in_ok-amounts.amounts.items ≡ map (floored c.args.plan.parts) c.args.plan.weights.items = rw c.deref-2.ensures.value at (simp to_z-of_z at c.in_ok-amounts.ensures) in
    let is : IsPlanned c.args.system.now c.args.known.now c.args.columns.now c.args.asked.now c.in_ok-potentials.potentials.items c.margin_of-margin.result c.in_ok-amounts.amounts.items =
    planned_is c.args.system.now c.args.known.now c.args.columns.now c.args.asked.now c.in_ok-potentials.potentials.items c.args.gap c.margin_of-margin.result c.in_ok-amounts.amounts.items c.args.plan c.requires.round.can c.requires.round.are_known c.margin_of-margin.ensures.size c.requires.plan potentials_are amounts_are in
    let told : Sweeps c.args.system.now c.in_ok-potentials.potentials.items c.args.budget c.in_ok-swept.swept = rw (c.requires.same, c.deref-3.ensures.value) at c.in_ok-swept.ensures.sound in
    let out = subst (λ (s : Swept). Sweeps c.args.system.now c.in_ok-potentials.potentials.items c.args.budget s) c.in-Out.is told in
    let out_is : g.P.Phases.swept c.args.phases.now c.in_ok-potentials.potentials.items c.args.budget (Out c.in-Out.phase) = subst (λ (s : Swept). g.P.Phases.swept c.args.phases.now c.in_ok-potentials.potentials.items c.args.budget s) c.in-Out.is (rw c.deref-3.ensures.value at c.in_ok-swept.ensures.exact) in
    let entries = rw c.deref-in-Out.ensures.value at c.in_ok-entries-in-Out.ensures in (
      open_from c.args.system.now (g.P.Phases.swept c.args.phases.now) c.args.known.now c.args.columns.now c.args.asked.now c.in_ok-potentials.potentials.items c.margin_of-margin.result c.args.gap c.args.budget c.args.plan c.in_ok-amounts.amounts.items _
          c.requires.round.are_known c.requires.order (rw amounts_are (floored_rising c.args.plan.parts c.args.plan.weights.items c.requires.rising)) c.requires.round.can.size c.margin_of-margin.ensures.is is.can c.requires.round.can.aim c.requires.plan amounts_are is.rounds out_is out.0 out.1 entries c.from_vec.ensures,
      feasible_from c.args.system.now c.args.known.now c.args.columns.now c.args.asked.now c.args.plan c.requires.round.are_known c.requires.round.can.size c.requires.plan,
    )

pub found_of-requires-clause-same : goal.found_of-requires-clause-same
found_of-requires-clause-same g c = known-length c.args.system.now c.args.known.now c.args.columns.now c.requires.round.are_known

pub found_of-requires-clause-few : goal.found_of-requires-clause-few
found_of-requires-clause-few g c =
    let fits_d : SFits w128 c.args.plan.denominator = search rules in
    let fits_p : SFits w128 c.args.plan.parts = search rules in
    let potentials_are : c.in_ok-potentials.potentials.items ≡ map (lowered c.args.plan.denominator c.margin_of-margin.result) c.args.plan.potentials.items = rw c.deref.ensures.value at (simp to_z-of_z at c.in_ok-potentials.ensures) in
    let amounts_are : c.in_ok-amounts.amounts.items ≡ map (floored c.args.plan.parts) c.args.plan.weights.items = rw c.deref-2.ensures.value at (simp to_z-of_z at c.in_ok-amounts.ensures) in
    let is : IsPlanned c.args.system.now c.args.known.now c.args.columns.now c.args.asked.now c.in_ok-potentials.potentials.items c.margin_of-margin.result c.in_ok-amounts.amounts.items =
    planned_is c.args.system.now c.args.known.now c.args.columns.now c.args.asked.now c.in_ok-potentials.potentials.items c.args.gap c.margin_of-margin.result c.in_ok-amounts.amounts.items c.args.plan c.requires.round.can c.requires.round.are_known c.margin_of-margin.ensures.size c.requires.plan potentials_are amounts_are in
    rw c.deref-in-Closed.ensures.value is.few

pub found_of-requires-clause-close : goal.found_of-requires-clause-close
found_of-requires-clause-close g c =
    let fits_d : SFits w128 c.args.plan.denominator = search rules in
    let fits_p : SFits w128 c.args.plan.parts = search rules in
    let potentials_are : c.in_ok-potentials.potentials.items ≡ map (lowered c.args.plan.denominator c.margin_of-margin.result) c.args.plan.potentials.items = rw c.deref.ensures.value at (simp to_z-of_z at c.in_ok-potentials.ensures) in
    let amounts_are : c.in_ok-amounts.amounts.items ≡ map (floored c.args.plan.parts) c.args.plan.weights.items = rw c.deref-2.ensures.value at (simp to_z-of_z at c.in_ok-amounts.ensures) in
    let is : IsPlanned c.args.system.now c.args.known.now c.args.columns.now c.args.asked.now c.in_ok-potentials.potentials.items c.margin_of-margin.result c.in_ok-amounts.amounts.items =
    planned_is c.args.system.now c.args.known.now c.args.columns.now c.args.asked.now c.in_ok-potentials.potentials.items c.args.gap c.margin_of-margin.result c.in_ok-amounts.amounts.items c.args.plan c.requires.round.can c.requires.round.are_known c.margin_of-margin.ensures.size c.requires.plan potentials_are amounts_are in
    (c.margin_of-margin.result, rw c.deref-in-Closed.ensures.value is.rounds.close)

pub returns-clause-round : goal.returns-clause-round
returns-clause-round g c =
    let fits_d : SFits w128 c.args.plan.denominator = search rules in
    let fits_p : SFits w128 c.args.plan.parts = search rules in
    let potentials_are : c.in_ok-potentials.potentials.items ≡ map (lowered c.args.plan.denominator c.margin_of-margin.result) c.args.plan.potentials.items = rw c.deref.ensures.value at (simp to_z-of_z at c.in_ok-potentials.ensures) in
    let amounts_are : c.in_ok-amounts.amounts.items ≡ map (floored c.args.plan.parts) c.args.plan.weights.items = rw c.deref-2.ensures.value at (simp to_z-of_z at c.in_ok-amounts.ensures) in
    let is : IsPlanned c.args.system.now c.args.known.now c.args.columns.now c.args.asked.now c.in_ok-potentials.potentials.items c.margin_of-margin.result c.in_ok-amounts.amounts.items =
    planned_is c.args.system.now c.args.known.now c.args.columns.now c.args.asked.now c.in_ok-potentials.potentials.items c.args.gap c.margin_of-margin.result c.in_ok-amounts.amounts.items c.args.plan c.requires.round.can c.requires.round.are_known c.margin_of-margin.ensures.size c.requires.plan potentials_are amounts_are in
    let told : Sweeps c.args.system.now c.in_ok-potentials.potentials.items c.args.budget c.in_ok-swept.swept = rw (c.requires.same, c.deref-3.ensures.value) at c.in_ok-swept.ensures.sound in
    let closed = subst (λ (s : Swept). Sweeps c.args.system.now c.in_ok-potentials.potentials.items c.args.budget s) c.in-Closed.is told in
    let closes : g.P.Phases.swept c.args.phases.now c.in_ok-potentials.potentials.items c.args.budget (Closed c.in-Closed.trees) = subst (λ (s : Swept). g.P.Phases.swept c.args.phases.now c.in_ok-potentials.potentials.items c.args.budget s) c.in-Closed.is (rw c.deref-3.ensures.value at c.in_ok-swept.ensures.exact) in
    let figures = rw c.deref-in-Closed.ensures.value at c.in_ok-found-in-Closed.ensures in (
      found_from c.args.system.now (g.P.Phases.swept c.args.phases.now) c.args.known.now c.args.columns.now c.args.asked.now c.in_ok-potentials.potentials.items c.margin_of-margin.result c.args.gap c.args.budget c.in_ok-amounts.amounts.items c.in-Closed.trees c.in_ok-found-in-Closed.found
          c.requires.round.can.sized c.requires.round.are_known c.requires.order (rw amounts_are (floored_rising c.args.plan.parts c.args.plan.weights.items c.requires.rising)) c.requires.round.can.size c.margin_of-margin.ensures.is is.can is.rounds closes closed.1 figures,
      feasible_from c.args.system.now c.args.known.now c.args.columns.now c.args.asked.now c.args.plan c.requires.round.are_known c.requires.round.can.size c.requires.plan,
    )
