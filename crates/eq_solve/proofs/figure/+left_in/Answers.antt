use Rattle.std.proofs.Common.{◌∷◌, refl, rules, SFits, arith}
use Rattle.std.specs.Int.{w128}
use Rattle.std.proofs.lemmas.Int.{ints, to_z-of_z}
use Rattle.eq_solve.specs.Figures.{AreClose}
use Rattle.eq_solve.proofs.Amounts.{amount_is, close-rest, left_is, left_low, left_small}
use Rattle.eq_solve.proofs.figure.+left_in.Goals as goal

pub left_in-behind-requires : goal.left_in-behind-requires
left_in-behind-requires t c =
    let are : AreClose c.requires.0 c.args.columns.now c.args.asked.now c.args.potentials.now (c.in-Some.first.now ∷ c.in-Some.rest.now) = rw c.in-Some.ensures.cases.0 at c.requires.1 in
    (omega (arith, c.in-Some.ensures.cases.1, c.decreases), (c.requires.0, close-rest _ _ _ _ _ _ are))

pub left_by-left-requires-clause-cost : goal.left_by-left-requires-clause-cost
left_by-left-requires-clause-cost t c =
    let are : AreClose c.requires.0 c.args.columns.now c.args.asked.now c.args.potentials.now (c.in-Some.first.now ∷ c.in-Some.rest.now) = rw c.in-Some.ensures.cases.0 at c.requires.1 in
    (amount_is _ _ _ _ are.amounts_are).cost

pub left_by-left-requires-clause-place : goal.left_by-left-requires-clause-place
left_by-left-requires-clause-place t c =
    let are : AreClose c.requires.0 c.args.columns.now c.args.asked.now c.args.potentials.now (c.in-Some.first.now ∷ c.in-Some.rest.now) = rw c.in-Some.ensures.cases.0 at c.requires.1 in
    (amount_is _ _ _ _ are.amounts_are).within

pub left_by-left-requires-clause-fits : goal.left_by-left-requires-clause-fits
left_by-left-requires-clause-fits t c =
    let are : AreClose c.requires.0 c.args.columns.now c.args.asked.now c.args.potentials.now (c.in-Some.first.now ∷ c.in-Some.rest.now) = rw c.in-Some.ensures.cases.0 at c.requires.1 in
    are.plane.products c.in-Some.first.now.0 (amount_is _ _ _ _ are.amounts_are).within

pub left_by-left-requires-clause-small : goal.left_by-left-requires-clause-small
left_by-left-requires-clause-small t c =
    let are : AreClose c.requires.0 c.args.columns.now c.args.asked.now c.args.potentials.now (c.in-Some.first.now ∷ c.in-Some.rest.now) = rw c.in-Some.ensures.cases.0 at c.requires.1 in
    let is = left_is c.requires.0 c.args.columns.now c.args.asked.now c.args.potentials.now c.in-Some.first.now c.in-Some.rest.now are in
    omega (arith, ints, is.low, is.high)

pub times-one-requires : goal.times-one-requires
times-one-requires t c =
    let are : AreClose c.requires.0 c.args.columns.now c.args.asked.now c.args.potentials.now (c.in-Some.first.now ∷ c.in-Some.rest.now) = rw c.in-Some.ensures.cases.0 at c.requires.1 in
    let is = left_is c.requires.0 c.args.columns.now c.args.asked.now c.args.potentials.now c.in-Some.first.now c.in-Some.rest.now are in
    let rest = left_low c.requires.0 c.args.columns.now c.args.asked.now c.args.potentials.now c.in-Some.rest.now (close-rest _ _ _ _ _ _ are) in
    let all = left_small c.requires.0 c.args.columns.now c.args.asked.now c.args.potentials.now (c.in-Some.first.now ∷ c.in-Some.rest.now) are in
    let fits_amount : SFits w128 c.in-Some.first.now.1 = search rules in
    let fits_left : SFits w128 c.left_by-left.result = search rules in
    simp to_z-of_z (rw c.left_by-left.ensures (omega (arith, ints, is.one_low, rest, all)))

pub plus-requires : goal.plus-requires
plus-requires t c =
    let are : AreClose c.requires.0 c.args.columns.now c.args.asked.now c.args.potentials.now (c.in-Some.first.now ∷ c.in-Some.rest.now) = rw c.in-Some.ensures.cases.0 at c.requires.1 in
    let low = left_low c.requires.0 c.args.columns.now c.args.asked.now c.args.potentials.now (c.in-Some.first.now ∷ c.in-Some.rest.now) are in
    let all = left_small c.requires.0 c.args.columns.now c.args.asked.now c.args.potentials.now (c.in-Some.first.now ∷ c.in-Some.rest.now) are in
    let fits_amount : SFits w128 c.in-Some.first.now.1 = search rules in
    let fits_left : SFits w128 c.left_by-left.result = search rules in
    let fits_one : SFits w128 c.times-one.result = search rules in
    let fits_behind : SFits w128 c.left_in-behind.result = search rules in
    let one = simp to_z-of_z at c.times-one.ensures in
    simp to_z-of_z (rw (one, c.left_by-left.ensures, c.left_in-behind.ensures) (omega (arith, ints, low, all)))

pub returns-in-Some : goal.returns-in-Some
returns-in-Some t c =
    let fits_amount : SFits w128 c.in-Some.first.now.1 = search rules in
    let fits_left : SFits w128 c.left_by-left.result = search rules in
    let fits_one : SFits w128 c.times-one.result = search rules in
    let fits_behind : SFits w128 c.left_in-behind.result = search rules in
    let fits : SFits w128 c.plus.result = search rules in
    let one = simp to_z-of_z at c.times-one.ensures in
    let both = simp to_z-of_z at c.plus.ensures in
    simp to_z-of_z (rw (c.in-Some.ensures.cases.0, both, one, c.left_by-left.ensures, c.left_in-behind.ensures) refl)
