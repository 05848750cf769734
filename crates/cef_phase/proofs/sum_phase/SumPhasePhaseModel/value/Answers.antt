use Rattle.std.proofs.Common.{rules, ◌≡◌, SFits, ◌∙◌}
use Rattle.std.specs.Prelude.{◌+ℤ◌}
use Rattle.std.specs.Int.{w128}
use Rattle.std.proofs.lemmas.Int.{to_z-of_z}
use Rattle.cef_phase.proofs.Adding.{others_fit, parts_fit}
use Rattle.cef_phase.proofs.sum_phase.SumPhasePhaseModel.value.Goals as goal

pub sum_of_terms-parameters-requires : goal.sum_of_terms-parameters-requires
sum_of_terms-parameters-requires c = rw c.as_slice.ensures.value (c.args.self.now.valid.fits c.args.site.now c.requires)

pub magnetic_value-magnetism-requires : goal.magnetic_value-magnetism-requires
magnetic_value-magnetism-requires c = c.args.self.now.valid.fits_magnetism c.args.site.now c.requires

pub plus-others-requires : goal.plus-others-requires
plus-others-requires c =
    let fits_magnetism : SFits w128 c.magnetic_value-magnetism.result = search rules in
    let fits_mixing : SFits w128 c.mixing_from-mixing.result = search rules in
    simp to_z-of_z (others_fit c.mixing_from-mixing.result c.magnetic_value-magnetism.result _ _ c.mixing_from-mixing.ensures.size c.magnetic_value-magnetism.ensures.size c.args.self.now.valid.small)

pub plus-requires : goal.plus-requires
plus-requires c =
    let fits : SFits w128 c.sum_of_terms-parameters.result = search rules in
    let fits_magnetism : SFits w128 c.magnetic_value-magnetism.result = search rules in
    let fits_mixing : SFits w128 c.mixing_from-mixing.result = search rules in
    let fits_others : SFits w128 c.plus-others.result = search rules in
    let others : c.plus-others.result ≡ c.mixing_from-mixing.result +ℤ c.magnetic_value-magnetism.result = simp to_z-of_z at c.plus-others.ensures in
    simp to_z-of_z (parts_fit c.sum_of_terms-parameters.result c.mixing_from-mixing.result c.magnetic_value-magnetism.result c.plus-others.result _ _ c.sum_of_terms-parameters.ensures.size c.mixing_from-mixing.ensures.size c.magnetic_value-magnetism.ensures.size c.args.self.now.valid.small others)

pub returns-clause-exact : goal.returns-clause-exact
returns-clause-exact c =
    let fits : SFits w128 c.sum_of_terms-parameters.result = search rules in
    let fits_magnetism : SFits w128 c.magnetic_value-magnetism.result = search rules in
    let fits_mixing : SFits w128 c.mixing_from-mixing.result = search rules in
    let fits_others : SFits w128 c.plus-others.result = search rules in
    let fits_result : SFits w128 c.plus.result = search rules in
    let others : c.plus-others.result ≡ c.mixing_from-mixing.result +ℤ c.magnetic_value-magnetism.result = simp to_z-of_z at c.plus-others.ensures in
    let added : c.plus.result ≡ c.sum_of_terms-parameters.result +ℤ c.plus-others.result = simp to_z-of_z at c.plus.ensures in
    simp to_z-of_z (added ∙ rw (others, c.sum_of_terms-parameters.ensures.exact, c.mixing_from-mixing.ensures.exact, c.magnetic_value-magnetism.ensures.exact, c.as_slice.ensures.value) (c.args.self.now.valid.energy_is c.args.site.now c.requires))

pub returns-clause-size : goal.returns-clause-size
returns-clause-size c = rw (returns-clause-exact c) (c.args.self.now.valid.energy_small c.args.site.now c.requires)
