use Rattle.std.proofs.Common.{◌^◌, length, rules, arith, SFits}
use Rattle.std.specs.Prelude.{◌*ℤ◌, ◌<ℤ◌}
use Rattle.std.specs.Int.{w128}
use Rattle.std.proofs.lemmas.Int.{to_z-of_z}
use Rattle.cal_math.specs.Vectors.{at, dot}
use Rattle.eq_solve.specs.Points.{IsColumnOf, IsConstitutionOf}
use Rattle.eq_solve.proofs.Knowing.{list_of}
use Rattle.eq_solve.proofs.Gains.{price_fits, denominator_fits, gain-new}
use Rattle.eq_solve.proofs.proposal.priced.Goals as goal

pub costs_less-requires-clause-product : goal.costs_less-requires-clause-product
costs_less-requires-clause-product g c =
    let column : IsColumnOf c.args.system.now c.args.entry c.in_ok-column.column = rw c.requires.same at c.in_ok-column.ensures in
    (2 ^ 99, 10 ^ 8, rw c.deref.ensures.value (price_fits c.args.system.now c.args.known.now c.args.columns.now c.args.asked.now c.args.gap c.args.plan.now c.args.entry c.in_ok-column.column c.requires.round.can c.requires.round.are_known c.requires.plan (list_of c.args.system.now c.args.entry c.if-is_constitution.ensures) column))

pub costs_less-requires-clause-cost : goal.costs_less-requires-clause-cost
costs_less-requires-clause-cost g c =
    let column : IsColumnOf c.args.system.now c.args.entry c.in_ok-column.column = rw c.requires.same at c.in_ok-column.ensures in
    let is : IsConstitutionOf c.args.system.now c.args.entry = c.if-is_constitution.ensures in
    rw column.cost_is (omega (arith, c.requires.round.can.sized.cheap c.args.entry is, c.requires.round.can.sized.dear))

pub costs_less-requires-clause-denominator : goal.costs_less-requires-clause-denominator
costs_less-requires-clause-denominator g c =
    let fits : SFits w128 c.args.plan.now.denominator = search rules in
    simp to_z-of_z (denominator_fits c.args.system.now c.args.known.now c.args.columns.now c.args.asked.now c.args.gap c.args.plan.now c.requires.round.can c.requires.round.are_known c.requires.plan)

pub returns-then-costs_less : goal.returns-then-costs_less
returns-then-costs_less g c =
    let fits : SFits w128 c.args.plan.now.denominator = search rules in
    let fits_cost : SFits w128 c.in_ok-column.column.cost = search rules in
    let column : IsColumnOf c.args.system.now c.args.entry c.in_ok-column.column = rw c.requires.same at c.in_ok-column.ensures in
    let is : IsConstitutionOf c.args.system.now c.args.entry = c.if-is_constitution.ensures in
    let gains : (c.in_ok-column.column.cost *ℤ c.args.plan.now.denominator) <ℤ dot (length c.args.plan.now.potentials.items) (at c.args.plan.now.potentials.items) (at c.in_ok-column.column.amounts.items) =
    rw c.deref.ensures.value at (simp to_z-of_z at c.if-costs_less.ensures) in (
      record { is_constitution = is; column_is = column },
      gain-new c.args.system.now c.args.known.now c.args.columns.now c.args.asked.now c.args.plan.now c.args.entry c.in_ok-column.column c.requires.round.can.size c.requires.round.are_known c.requires.plan column gains,
    )
