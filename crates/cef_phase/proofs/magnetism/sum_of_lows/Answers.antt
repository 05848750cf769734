use Rattle.std.proofs.Common.{rules, ◌≡◌, SFits, ◌∙◌}
use Rattle.std.specs.Prelude.{◌+ℤ◌}
use Rattle.std.specs.Int.{w128}
use Rattle.std.proofs.lemmas.Int.{to_z-of_z}
use Rattle.cef_phase.proofs.Adding.{lows_fit, lows_small}
use Rattle.cef_phase.proofs.magnetism.sum_of_lows.Goals as goal

pub plus-requires : goal.plus-requires
plus-requires c =
    let fits : SFits w128 c.low_of_terms-parameters.result = search rules in
    let fits_magnetism : SFits w128 c.magnetic_low-magnetism.result = search rules in
    simp to_z-of_z (lows_fit c.low_of_terms-parameters.result c.magnetic_low-magnetism.result _ _ c.low_of_terms-parameters.ensures.size c.magnetic_low-magnetism.ensures.size c.requires.small)

pub returns-clause-exact : goal.returns-clause-exact
returns-clause-exact c =
    let fits : SFits w128 c.low_of_terms-parameters.result = search rules in
    let fits_magnetism : SFits w128 c.magnetic_low-magnetism.result = search rules in
    let fits_result : SFits w128 c.plus.result = search rules in
    let added : c.plus.result ≡ c.low_of_terms-parameters.result +ℤ c.magnetic_low-magnetism.result = simp to_z-of_z at c.plus.ensures in
    simp to_z-of_z (rw (c.low_of_terms-parameters.ensures.exact, c.magnetic_low-magnetism.ensures.exact) at added)

pub returns-clause-size : goal.returns-clause-size
returns-clause-size c =
    let fits : SFits w128 c.low_of_terms-parameters.result = search rules in
    let fits_magnetism : SFits w128 c.magnetic_low-magnetism.result = search rules in
    let fits_result : SFits w128 c.plus.result = search rules in
    let added : c.plus.result ≡ c.low_of_terms-parameters.result +ℤ c.magnetic_low-magnetism.result = simp to_z-of_z at c.plus.ensures in
    simp to_z-of_z (lows_small c.low_of_terms-parameters.result c.magnetic_low-magnetism.result c.plus.result _ _ c.low_of_terms-parameters.ensures.size c.magnetic_low-magnetism.ensures.size c.requires.small added)
