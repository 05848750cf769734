use Rattle.std.proofs.Common.{rules, ◌≡◌, ℤ, ◌≤◌, ◌<◌, ◌+◌, List, ◌∷◌, arith, refl, ap, length, to_z, of_z, SFits}
use Rattle.std.specs.Prelude.{◌+ℤ◌}
use Rattle.std.specs.Int.{w128}
use Rattle.std.proofs.lemmas.Int.{to_z-of_z}
use Rattle.cef_phase.specs.Walks.{part_among}
use Rattle.cef_phase.proofs.Walking.{behind_few, slopes_there, rest_small, rest_fits, parts_on}
use Rattle.cef_phase.proofs.walk.+choose_from.Goals as goal

pub overflow_add-behind : goal.overflow_add-behind
overflow_add-behind t c =
    let there : c.args.place < length c.args.phase.now.sites = omega (arith, c.requires.places, ap length c.in-Some.ensures.cases.0) in
    omega (arith, behind_few _ c.args.phase.now c.args.mix.now c.args.range.now c.args.slopes.now c.args.place c.args.from c.sites_in.result c.requires.walk there c.requires.from c.sites_in.ensures)

pub plus-requires : goal.plus-requires
plus-requires t c =
    let others : List ℤ = c.choose_from-rest.new.out in
    let fits_part : SFits w128 c.chosen_in-chosen.result.part = search rules in
    let fits_rest : SFits w128 c.choose_from-rest.result = search rules in
    let there : c.args.place < length c.args.phase.now.sites = omega (arith, c.requires.places, ap length c.in-Some.ensures.cases.0) in
    let low : length others < 10 = omega (arith, c.requires.places, ap length c.in-Some.ensures.cases.0, c.choose_from-rest.ensures.each, c.requires.walk.mixed.sublattices) in
    let few : length c.args.slopes.now ≤ 90 = omega (arith, c.requires.walk.each, c.requires.walk.mixed.sites) in
    let le : c.args.from + c.sites_in.result ≤ length c.args.slopes.now = slopes_there _ c.args.phase.now c.args.mix.now c.args.range.now c.args.slopes.now c.args.place c.args.from c.sites_in.result c.requires.walk there c.requires.from c.sites_in.ensures in
    simp to_z-of_z (rest_fits (length c.args.slopes.now) c.args.from c.sites_in.result (c.args.from + c.sites_in.result) (length others) c.chosen_in-chosen.result.part c.choose_from-rest.result few low refl le (rw c.sites_in.ensures c.chosen_in-chosen.ensures.room) c.choose_from-rest.ensures.size)

pub returns-in-Some-clause-parts : goal.returns-in-Some-clause-parts
returns-in-Some-clause-parts t c =
    let m : ℤ = to_z w128 (of_z w128 c.chosen_in-chosen.result.multiplier) in
    let others : List ℤ = c.choose_from-rest.new.out in
    let fits_m : SFits w128 c.chosen_in-chosen.result.multiplier = search rules in
    let fits_part : SFits w128 c.chosen_in-chosen.result.part = search rules in
    let fits_rest : SFits w128 c.choose_from-rest.result = search rules in
    let fits : SFits w128 c.plus.result = search rules in
    let sum : c.plus.result ≡ c.chosen_in-chosen.result.part +ℤ c.choose_from-rest.result = simp to_z-of_z at c.plus.ensures in
    let whole : to_z w128 (of_z w128 c.plus.result) ≡ c.chosen_in-chosen.result.part +ℤ c.choose_from-rest.result = simp to_z-of_z sum in
    let part : c.chosen_in-chosen.result.part ≡ part_among c.args.phase.now c.args.slopes.now c.args.range.now c.args.place m = simp to_z-of_z c.chosen_in-chosen.ensures.part in
    parts_on (part_among c.args.phase.now c.args.slopes.now c.args.range.now) c.args.place m c.chosen_in-chosen.result.part c.choose_from-rest.result (to_z w128 (of_z w128 c.plus.result)) (m ∷ others) others refl part c.choose_from-rest.ensures.parts whole

pub returns-in-Some-clause-size : goal.returns-in-Some-clause-size
returns-in-Some-clause-size t c =
    let others : List ℤ = c.choose_from-rest.new.out in
    let fits_part : SFits w128 c.chosen_in-chosen.result.part = search rules in
    let fits_rest : SFits w128 c.choose_from-rest.result = search rules in
    let fits : SFits w128 c.plus.result = search rules in
    let sum : c.plus.result ≡ c.chosen_in-chosen.result.part +ℤ c.choose_from-rest.result = simp to_z-of_z at c.plus.ensures in
    let there : c.args.place < length c.args.phase.now.sites = omega (arith, c.requires.places, ap length c.in-Some.ensures.cases.0) in
    let le : c.args.from + c.sites_in.result ≤ length c.args.slopes.now = slopes_there _ c.args.phase.now c.args.mix.now c.args.range.now c.args.slopes.now c.args.place c.args.from c.sites_in.result c.requires.walk there c.requires.from c.sites_in.ensures in
    simp to_z-of_z (rest_small (length c.args.slopes.now) c.args.from c.sites_in.result (c.args.from + c.sites_in.result) (length others) c.chosen_in-chosen.result.part c.choose_from-rest.result c.plus.result sum refl le (rw c.sites_in.ensures c.chosen_in-chosen.ensures.room) c.choose_from-rest.ensures.size)
