use Rattle.std.proofs.Common.{◌≡◌, ◌∷◌, length, SFits, rules}
use Rattle.std.specs.Prelude.{pos, ◌+ℤ◌, ◌*ℤ◌}
use Rattle.std.specs.Int.{w128}
use Rattle.std.proofs.lemmas.Int.{to_z-of_z}
use Rattle.eq_cert.proofs.Halves.{value_none, value_step}
use Rattle.eq_cert.proofs.gap.+value.Goals as goal

pub returns-in-Some-split_first-clause-exact : goal.returns-in-Some-split_first-clause-exact
returns-in-Some-split_first-clause-exact t c =
    let potentials : c.args.potentials.now ≡ c.in-Some.potential.now ∷ c.in-Some.potentials.now = search rules in
    let totals : c.args.totals.now ≡ c.in-Some-split_first.total.now ∷ c.in-Some-split_first.totals.now = search rules in
    let fits_potential : SFits w128 c.in-Some.potential.now = search rules in
    let fits_total : SFits w128 c.in-Some-split_first.total.now = search rules in
    let is : c.in-Some.potential.now *ℤ c.in-Some-split_first.total.now ≡ pos 1152921504606846976 *ℤ c.part.result.high +ℤ c.part.result.low = simp to_z-of_z at c.part.ensures.exact in
    value_step _ _ _ _ (pos 1152921504606846976) _ _ c.part.result.high c.part.result.low c.value-rest.result.high c.value-rest.result.low c.sum.result.high c.sum.result.low potentials totals is c.value-rest.ensures.exact c.sum.ensures.high c.sum.ensures.low

pub returns-in-None-clause-exact : goal.returns-in-None-clause-exact
returns-in-None-clause-exact t c =
    let none : length c.args.potentials.now ≡ 0 = search rules in
    value_none c.args.potentials.now c.args.totals.now (pos 1152921504606846976) none
