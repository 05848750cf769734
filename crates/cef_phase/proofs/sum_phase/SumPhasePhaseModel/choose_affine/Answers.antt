use Rattle.std.proofs.Common.{rules, ◌≡◌, ◌∙◌, length, SFits}
use Rattle.std.specs.Prelude.{◌+ℤ◌}
use Rattle.std.specs.Int.{w128}
use Rattle.std.proofs.lemmas.Int.{to_z-of_z}
use Rattle.cal_math.specs.Vectors.{at}
use Rattle.cef_phase.proofs.Totals.{zero_at, rises_are, affine_fits, affine_exact, affine_chosen}
use Rattle.cef_phase.proofs.sum_phase.SumPhasePhaseModel.choose_affine.Goals as goal

pub raise_planes-constants-requires-clause-flat : goal.raise_planes-constants-requires-clause-flat
raise_planes-constants-requires-clause-flat c = zero_at c.places.result 90

pub choose_all-parts-requires-clause-room : goal.choose_all-parts-requires-clause-room
choose_all-parts-requires-clause-room c = rises_are c.raise_planes-constants.new.slopes c.raise_planes-constants.ensures.small

pub plus-requires : goal.plus-requires
plus-requires c =
    let fits_constants : SFits w128 c.raise_planes-constants.result = search rules in
    let fits_parts : SFits w128 c.choose_all-parts.result = search rules in
    simp to_z-of_z (affine_fits c.raise_planes-constants.result c.choose_all-parts.result c.raise_planes-constants.ensures.size c.choose_all-parts.ensures.size)

pub returns-clause-chosen : goal.returns-clause-chosen
returns-clause-chosen c =
    affine_chosen (at c.raise_planes-constants.new.slopes) c.args.self.now.phase.now c.args.potentials.now c.args.range.now c.choose_all-parts.new.out c.raise_planes-constants.ensures.slopes (c.choose_all-parts.ensures.each ∙ c.requires.places) c.choose_all-parts.ensures.chosen

pub returns-clause-bound : goal.returns-clause-bound
returns-clause-bound c =
    let fits_constants : SFits w128 c.raise_planes-constants.result = search rules in
    let fits_parts : SFits w128 c.choose_all-parts.result = search rules in
    let fits : SFits w128 c.plus.result = search rules in
    let sum : c.plus.result ≡ c.raise_planes-constants.result +ℤ c.choose_all-parts.result = simp to_z-of_z at c.plus.ensures in
    let each : length c.choose_all-parts.new.out ≡ length c.args.self.now.phase.now.sites = c.choose_all-parts.ensures.each ∙ c.requires.places in
    simp to_z-of_z (affine_exact (at c.raise_planes-constants.new.slopes) c.args.self.now.phase.now c.args.potentials.now c.args.range.now c.choose_all-parts.new.out (length c.choose_all-parts.new.out) c.raise_planes-constants.result c.choose_all-parts.result c.plus.result c.raise_planes-constants.ensures.slopes c.raise_planes-constants.ensures.constants each c.choose_all-parts.ensures.parts sum)
