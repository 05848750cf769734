use Rattle.std.proofs.Common.{rules, ◌≡◌, ◌<◌, ◌≤◌, ◌^◌, length, SFits, to_z, arith}
use Rattle.std.specs.Prelude.{◌+ℤ◌}
use Rattle.std.specs.Int.{w128}
use Rattle.std.proofs.lemmas.Int.{to_z-of_z}
use Rattle.cef_phase.proofs.Raising.{affine_here, affine_there, raised_room, raised_fits, raised-more, raised_sum, raised_rise, raised_size, raised_small}
use Rattle.cef_phase.proofs.planes.raise_all.Goals as goal

pub minorant-requires-clause-index : goal.minorant-requires-clause-index
minorant-requires-clause-index c = (affine_here c.args.phase.now c.args.affine.now c.each.index-index c.requires.places c.each-test.true).1.within

pub minorant-requires-clause-affine : goal.minorant-requires-clause-affine
minorant-requires-clause-affine c =
    let here = affine_here c.args.phase.now c.args.affine.now c.each.index-index c.requires.places c.each-test.true in
    λ q e. affine_there c.args.phase.now c.each.index-index _ here.0 q here.1 e

pub minorant-requires-clause-room : goal.minorant-requires-clause-room
minorant-requires-clause-room c =
    raised_room c.args.phase.now c.args.range.now c.each.index-index c.each.slopes (to_z w128 c.each.total-bits) c.requires.fine c.each.invariant

pub plus-total-requires : goal.plus-total-requires
plus-total-requires c =
    let fits : SFits w128 c.minorant.result = search rules in
    let here = affine_here c.args.phase.now c.args.affine.now c.each.index-index c.requires.places c.each-test.true in
    let few : c.each.index-index < 2 ^ 64 = omega (arith, c.each-test.true, c.each.auto.index-index-end) in
    simp to_z-of_z
    (raised_fits c.args.phase.now c.args.range.now c.each.index-index _ here.0 c.each.slopes (to_z w128 c.each.total-bits) c.minorant.result
    c.requires.fine c.requires.fits here.1 c.each.invariant few c.minorant.ensures.constant)

pub each-preserved : goal.each-preserved
each-preserved c =
    let fits : SFits w128 c.minorant.result = search rules in
    let fits_total : SFits w128 c.plus-total.result = search rules in
    let here = affine_here c.args.phase.now c.args.affine.now c.each.index-index c.requires.places c.each-test.true in
    let more : c.plus-total.result ≡ to_z w128 c.each.total-bits +ℤ c.minorant.result = simp to_z-of_z at c.plus-total.ensures in
    let same : length c.minorant.new.slopes ≡ length c.each.slopes = c.minorant.auto.slopes in
    simp to_z-of_z
    (raised-more c.args.phase.now c.args.range.now c.each.index-index _ here.0 c.each.slopes c.minorant.new.slopes (to_z w128 c.each.total-bits)
    c.minorant.result c.plus-total.result c.requires.fine c.requires.fits here.1 c.each.invariant c.minorant.ensures.constant
    c.minorant.ensures.slopes same more)

pub returns-clause-constants : goal.returns-clause-constants
returns-clause-constants c =
    let whole : length c.args.affine.now ≤ c.each.index-index = omega (arith, c.each-test.false) in
    raised_sum c.args.phase.now c.args.range.now c.args.affine.now c.each.index-index c.each.slopes (to_z w128 c.each.total-bits) c.requires.places
    whole c.each.invariant

pub returns-clause-slopes : goal.returns-clause-slopes
returns-clause-slopes c =
    let whole : length c.args.affine.now ≤ c.each.index-index = omega (arith, c.each-test.false) in
    raised_rise c.args.phase.now c.args.range.now c.args.affine.now c.each.index-index c.each.slopes (to_z w128 c.each.total-bits) c.requires.places
    whole c.each.invariant

pub returns-clause-size : goal.returns-clause-size
returns-clause-size c =
    let few : c.each.index-index ≤ 2 ^ 64 = omega (arith, c.each.auto.index-index-end) in
    raised_size c.args.phase.now c.args.range.now c.each.index-index c.each.slopes (to_z w128 c.each.total-bits) c.requires.fine c.each.invariant few

pub returns-clause-small : goal.returns-clause-small
returns-clause-small c =
    raised_small c.args.phase.now c.args.range.now c.each.index-index c.each.slopes (to_z w128 c.each.total-bits) c.requires.fine c.each.invariant
