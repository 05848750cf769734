use Rattle.std.proofs.Common.{◌∷◌, ◌*◌, ◌^◌, ◌≤◌, refl, rules, SFits, arith}
use Rattle.std.specs.Prelude.{◌*ℤ◌, unsigned_abs}
use Rattle.std.specs.Int.{w128}
use Rattle.std.proofs.lemmas.Int.{ints, to_z-of_z}
use Rattle.cal_math.specs.Whole.{abs-*ℤ-le}
use Rattle.lp_core.specs.Plans.{column_cost, cost_of}
use Rattle.eq_solve.specs.Figures.{AreAmounts}
use Rattle.eq_solve.proofs.Amounts.{amounts-rest, amount_is, cost_small}
use Rattle.eq_solve.proofs.figure.+energy_of.Goals as goal

pub energy_of-behind-requires : goal.energy_of-behind-requires
energy_of-behind-requires t c =
    let are : AreAmounts c.args.columns.now c.args.asked.now (c.in-Some.first.now ∷ c.in-Some.rest.now) = rw c.in-Some.ensures.cases.0 at c.requires.amounts in
    (omega (arith, c.in-Some.ensures.cases.1, c.decreases), (amounts-rest _ _ _ _ are, omega (arith, c.in-Some.ensures.cases.1, c.requires.few)))

pub times-one-requires : goal.times-one-requires
times-one-requires t c =
    let are : AreAmounts c.args.columns.now c.args.asked.now (c.in-Some.first.now ∷ c.in-Some.rest.now) = rw c.in-Some.ensures.cases.0 at c.requires.amounts in
    let is = amount_is c.args.columns.now c.args.asked.now c.in-Some.first.now c.in-Some.rest.now are in
    let fits_amount : SFits w128 c.in-Some.first.now.1 = search rules in
    let fits_cost : SFits w128 c.cost_at-cost.result = search rules in
    let one : unsigned_abs (c.in-Some.first.now.1 *ℤ column_cost c.args.columns.now c.in-Some.first.now.0) ≤ 2 ^ 53 * 2 ^ 55 = abs-*ℤ-le c.in-Some.first.now.1 (column_cost c.args.columns.now c.in-Some.first.now.0) (2 ^ 53) (2 ^ 55) (omega (arith, ints, is.least, is.most)) is.cost in
    simp to_z-of_z (rw c.cost_at-cost.ensures (omega (arith, ints, one)))

pub plus-requires : goal.plus-requires
plus-requires t c =
    let are : AreAmounts c.args.columns.now c.args.asked.now (c.in-Some.first.now ∷ c.in-Some.rest.now) = rw c.in-Some.ensures.cases.0 at c.requires.amounts in
    let fits_amount : SFits w128 c.in-Some.first.now.1 = search rules in
    let fits_cost : SFits w128 c.cost_at-cost.result = search rules in
    let fits_one : SFits w128 c.times-one.result = search rules in
    let fits_behind : SFits w128 c.energy_of-behind.result = search rules in
    let one = simp to_z-of_z at c.times-one.ensures in
    let most : unsigned_abs (cost_of c.args.columns.now (c.in-Some.first.now ∷ c.in-Some.rest.now)) ≤ _ = cost_small c.args.columns.now c.args.asked.now (c.in-Some.first.now ∷ c.in-Some.rest.now) are in
    simp to_z-of_z (rw (one, c.cost_at-cost.ensures, c.energy_of-behind.ensures) (omega (arith, ints, most, c.requires.few, c.in-Some.ensures.cases.1)))

pub returns-in-Some : goal.returns-in-Some
returns-in-Some t c =
    let fits_amount : SFits w128 c.in-Some.first.now.1 = search rules in
    let fits_cost : SFits w128 c.cost_at-cost.result = search rules in
    let fits_one : SFits w128 c.times-one.result = search rules in
    let fits_behind : SFits w128 c.energy_of-behind.result = search rules in
    let fits : SFits w128 c.plus.result = search rules in
    let one = simp to_z-of_z at c.times-one.ensures in
    let both = simp to_z-of_z at c.plus.ensures in
    simp to_z-of_z (rw (c.in-Some.ensures.cases.0, both, one, c.cost_at-cost.ensures, c.energy_of-behind.ensures) refl)
