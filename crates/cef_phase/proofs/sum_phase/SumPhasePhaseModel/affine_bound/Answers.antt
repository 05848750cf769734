use Rattle.std.proofs.Common.{rules, ◌≡◌, refl, length, SFits}
use Rattle.std.specs.Prelude.{◌+ℤ◌}
use Rattle.std.specs.Int.{w128}
use Rattle.std.proofs.lemmas.Int.{to_z-of_z}
use Rattle.cal_math.specs.Vectors.{at}
use Rattle.cef_phase.proofs.Totals.{zero_at, rises_are, affine_fits, affine_exact}
use Rattle.cef_phase.proofs.sum_phase.SumPhasePhaseModel.affine_bound.Goals as goal

pub raise_planes-constants-requires-clause-flat : goal.raise_planes-constants-requires-clause-flat
raise_planes-constants-requires-clause-flat c = zero_at c.places.result 90

pub all_parts-parts-requires-clause-room : goal.all_parts-parts-requires-clause-room
all_parts-parts-requires-clause-room c = rises_are c.raise_planes-constants.new.slopes c.raise_planes-constants.ensures.small

pub plus-requires : goal.plus-requires
plus-requires c =
    let fits_constants : SFits w128 c.raise_planes-constants.result = search rules in
    let fits_parts : SFits w128 c.all_parts-parts.result = search rules in
    simp to_z-of_z (affine_fits c.raise_planes-constants.result c.all_parts-parts.result c.raise_planes-constants.ensures.size c.all_parts-parts.ensures.size)

pub returns : goal.returns
returns c =
    let fits_constants : SFits w128 c.raise_planes-constants.result = search rules in
    let fits_parts : SFits w128 c.all_parts-parts.result = search rules in
    let fits : SFits w128 c.plus.result = search rules in
    let sum : c.plus.result ≡ c.raise_planes-constants.result +ℤ c.all_parts-parts.result = simp to_z-of_z at c.plus.ensures in
    simp to_z-of_z (affine_exact (at c.raise_planes-constants.new.slopes) c.args.self.now.phase.now c.args.potentials.now c.args.range.now c.args.multipliers.now (length c.args.self.now.phase.now.sites) c.raise_planes-constants.result c.all_parts-parts.result c.plus.result c.raise_planes-constants.ensures.slopes c.raise_planes-constants.ensures.constants refl c.all_parts-parts.ensures.exact sum)
