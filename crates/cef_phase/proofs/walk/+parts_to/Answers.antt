use Rattle.std.proofs.Common.{rules, ◌≡◌, ◌≤◌, ◌<◌, ◌-◌, suc, arith, refl, SFits}
use Rattle.std.specs.Prelude.{◌+ℤ◌}
use Rattle.std.specs.Int.{w128}
use Rattle.std.proofs.lemmas.Int.{to_z-of_z}
use Rattle.cal_math.specs.Vectors.{at}
use Rattle.cef_phase.specs.Walks.{part_among}
use Rattle.cef_phase.proofs.Walking.{last_in, sites_to-le, sum_on, sum_small, sum_fits}
use Rattle.cef_phase.proofs.walk.+parts_to.Goals as goal

pub plus-requires : goal.plus-requires
plus-requires t c =
    let fits_others : SFits w128 c.parts_to-others.result = search rules in
    let fits_here : SFits w128 c.part_in-here.result = search rules in
    let sites = c.args.phase.now.sites in
    let some : 0 < c.args.count = omega (arith, c.if-count-eq0.false) in
    let low : c.args.count ≤ 10 = omega (arith, c.requires.count, c.requires.walk.mixed.sublattices) in
    let few : c.args.end ≤ 90 = omega (arith, c.requires.end, sites_to-le c.args.count sites, c.requires.walk.mixed.sites) in
    let le : c.sites_in.result ≤ c.args.end = last_in sites c.args.count c.args.end _ some c.requires.end c.sites_in.ensures in
    simp to_z-of_z (sum_fits c.args.count (c.args.end - c.sites_in.result) c.args.end c.sites_in.result c.parts_to-others.result c.part_in-here.result few low some le refl c.parts_to-others.ensures.size (rw c.sites_in.ensures c.part_in-here.ensures.size))

pub returns-clause-exact : goal.returns-clause-exact
returns-clause-exact t c =
    let fits_others : SFits w128 c.parts_to-others.result = search rules in
    let fits_here : SFits w128 c.part_in-here.result = search rules in
    let fits : SFits w128 c.plus.result = search rules in
    let sum : c.plus.result ≡ c.parts_to-others.result +ℤ c.part_in-here.result = simp to_z-of_z at c.plus.ensures in
    let whole : suc (c.args.count - 1) ≡ c.args.count = omega (arith, c.if-count-eq0.false) in
    let fits_multiplier : SFits w128 (at c.args.multipliers.now (c.args.count - 1)) = search rules in
    let here : c.part_in-here.result ≡ part_among c.args.phase.now c.args.slopes.now c.args.range.now (c.args.count - 1) (at c.args.multipliers.now (c.args.count - 1)) = simp to_z-of_z at c.part_in-here.ensures.exact in
    simp to_z-of_z (sum_on (c.args.count - 1) c.args.count (λ s. part_among c.args.phase.now c.args.slopes.now c.args.range.now s (at c.args.multipliers.now s)) c.parts_to-others.result c.part_in-here.result c.plus.result whole c.parts_to-others.ensures.exact here sum)

pub returns-clause-size : goal.returns-clause-size
returns-clause-size t c =
    let fits_others : SFits w128 c.parts_to-others.result = search rules in
    let fits_here : SFits w128 c.part_in-here.result = search rules in
    let fits : SFits w128 c.plus.result = search rules in
    let sum : c.plus.result ≡ c.parts_to-others.result +ℤ c.part_in-here.result = simp to_z-of_z at c.plus.ensures in
    let some : 0 < c.args.count = omega (arith, c.if-count-eq0.false) in
    let le : c.sites_in.result ≤ c.args.end = last_in c.args.phase.now.sites c.args.count c.args.end _ some c.requires.end c.sites_in.ensures in
    simp to_z-of_z (sum_small c.args.count (c.args.end - c.sites_in.result) c.args.end c.sites_in.result c.parts_to-others.result c.part_in-here.result c.plus.result sum some le refl c.parts_to-others.ensures.size (rw c.sites_in.ensures c.part_in-here.ensures.size))
