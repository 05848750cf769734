use Rattle.std.proofs.Common.{◌∷◌, refl, rules, SFits, arith}
use Rattle.std.specs.Prelude.{◌+ℤ◌}
use Rattle.std.specs.Int.{w128}
use Rattle.std.proofs.lemmas.Int.{ints, to_z-of_z}
use Rattle.eq_solve.specs.Figures.{AreAmounts}
use Rattle.eq_solve.proofs.Amounts.{amounts-rest, term_is, column-length}
use Rattle.eq_solve.proofs.amount.+total_of.Goals as goal

pub total_of-behind-requires : goal.total_of-behind-requires
total_of-behind-requires t c =
    let are : AreAmounts c.args.columns.now c.args.asked.now (c.in-Some.first.now ∷ c.in-Some.rest.now) = rw c.in-Some.ensures.cases.0 at c.requires.amounts in
    (omega (arith, c.in-Some.ensures.cases.1, c.decreases), (amounts-rest _ _ _ _ are, c.requires.component))

pub term-requires-clause-component : goal.term-requires-clause-component
term-requires-clause-component t c =
    let are : AreAmounts c.args.columns.now c.args.asked.now (c.in-Some.first.now ∷ c.in-Some.rest.now) = rw c.in-Some.ensures.cases.0 at c.requires.amounts in
    omega (arith, column-length c.args.columns.now c.args.asked.now c.in-Some.first.now.0 are.fits are.named.0.0, c.requires.component)

pub term-requires-clause-fits : goal.term-requires-clause-fits
term-requires-clause-fits t c =
    let are : AreAmounts c.args.columns.now c.args.asked.now (c.in-Some.first.now ∷ c.in-Some.rest.now) = rw c.in-Some.ensures.cases.0 at c.requires.amounts in
    let is = term_is c.args.columns.now c.args.asked.now c.in-Some.first.now c.in-Some.rest.now c.args.component c.requires.component are in
    let fits_amount : SFits w128 c.in-Some.first.now.1 = search rules in
    simp to_z-of_z (omega (arith, ints, is.least, is.behind, is.most))

pub overflow_add-result : goal.overflow_add-result
overflow_add-result t c =
    let are : AreAmounts c.args.columns.now c.args.asked.now (c.in-Some.first.now ∷ c.in-Some.rest.now) = rw c.in-Some.ensures.cases.0 at c.requires.amounts in
    let is = term_is c.args.columns.now c.args.asked.now c.in-Some.first.now c.in-Some.rest.now c.args.component c.requires.component are in
    let fits_amount : SFits w128 c.in-Some.first.now.1 = search rules in
    let fits_term : SFits w128 c.term.result = search rules in
    let fits_behind : SFits w128 c.total_of-behind.result = search rules in
    let term = simp to_z-of_z at c.term.ensures in
    simp to_z-of_z (rw (term, c.total_of-behind.ensures) (omega (arith, ints, is.least, is.behind, is.most)))

pub returns-in-Some : goal.returns-in-Some
returns-in-Some t c =
    let are : AreAmounts c.args.columns.now c.args.asked.now (c.in-Some.first.now ∷ c.in-Some.rest.now) = rw c.in-Some.ensures.cases.0 at c.requires.amounts in
    let is = term_is c.args.columns.now c.args.asked.now c.in-Some.first.now c.in-Some.rest.now c.args.component c.requires.component are in
    let fits_amount : SFits w128 c.in-Some.first.now.1 = search rules in
    let fits_term : SFits w128 c.term.result = search rules in
    let fits_behind : SFits w128 c.total_of-behind.result = search rules in
    let term = simp to_z-of_z at c.term.ensures in
    let fits : SFits w128 (c.term.result +ℤ c.total_of-behind.result) = rw (term, c.total_of-behind.ensures) (omega (arith, ints, is.least, is.behind, is.most)) in
    simp to_z-of_z (rw (c.in-Some.ensures.cases.0, term, c.total_of-behind.ensures) refl)
