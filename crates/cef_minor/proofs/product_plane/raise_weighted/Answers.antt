use Rattle.std.proofs.Common.{rules, arith, ◌≡◌, ◌-ℤ◌, ◌*ℤ◌, length, pos, slice_index, slice_index_or, to_z, of_z, ap, ◌∙◌}
use Rattle.std.specs.Int.{w128}
use Rattle.std.proofs.lemmas.Int.{ints}
use Rattle.cef_minor.specs.Slopes.{earlier_of}
use Rattle.cef_minor.proofs.Rooms.{earlier_below, earlier_above, product_slopes, product_part}
use Rattle.cef_minor.proofs.product_plane.raise_weighted.Goals as goal

pub returns-then-weight-lt0-clause-exact : goal.returns-then-weight-lt0-clause-exact
returns-then-weight-lt0-clause-exact c =
    let weight_is : to_z w128 (of_z w128 c.args.weight) ≡ c.args.weight = search rules in
    let stands : earlier_of c.args.weight (λ s. slice_index c.args.frame.low.now s) (λ s. slice_index c.args.frame.high.now s) ≡ (λ s. slice_index c.args.frame.high.now s) = earlier_below c.args.weight (λ s. slice_index c.args.frame.low.now s) (λ s. slice_index c.args.frame.high.now s) (omega (arith, ints, c.if-weight-lt0.true, weight_is)) in
    λ i. product_slopes c.args.weight (to_z w128 (of_z w128 c.args.weight)) c.args.frame.den (λ s. slice_index c.args.frame.low.now s) (λ s. slice_index c.args.frame.high.now s) (λ s. slice_index c.args.frame.high.now s) c.args.sites.now (slice_index_or c.args.slopes.now i (pos 0)) (slice_index_or c.raise_behind-falls.new.slopes i (pos 0)) i weight_is stands (c.raise_behind-falls.ensures.exact i)

pub returns-then-weight-lt0-clause-part : goal.returns-then-weight-lt0-clause-part
returns-then-weight-lt0-clause-part c =
    let weight_is : to_z w128 (of_z w128 c.args.weight) ≡ c.args.weight = search rules in
    let corner_is : to_z w128 (of_z w128 c.corner_from-corner.result) ≡ c.corner_from-corner.result = search rules in
    let falls_is : to_z w128 (of_z w128 c.raise_behind-falls.result) ≡ c.raise_behind-falls.result = search rules in
    let out_is : to_z w128 (of_z w128 c.part_from.result) ≡ c.part_from.result = search rules in
    let stands : earlier_of c.args.weight (λ s. slice_index c.args.frame.low.now s) (λ s. slice_index c.args.frame.high.now s) ≡ (λ s. slice_index c.args.frame.high.now s) = earlier_below c.args.weight (λ s. slice_index c.args.frame.low.now s) (λ s. slice_index c.args.frame.high.now s) (omega (arith, ints, c.if-weight-lt0.true, weight_is)) in
    let part : c.part_from.result ≡ pos 65536 *ℤ c.corner_from-corner.result -ℤ c.raise_behind-falls.result =
    c.part_from.ensures.exact ∙ ap (λ x. pos 65536 *ℤ x -ℤ to_z w128 (of_z w128 c.raise_behind-falls.result)) corner_is ∙ ap (λ x. pos 65536 *ℤ c.corner_from-corner.result -ℤ x) falls_is in
    out_is ∙ product_part c.args.weight (to_z w128 (of_z w128 c.args.weight)) c.args.frame.den (λ s. slice_index c.args.frame.low.now s) (λ s. slice_index c.args.frame.high.now s) (λ s. slice_index c.args.frame.high.now s) c.args.sites.now c.product_in.result c.corner_from-corner.result c.raise_behind-falls.result c.part_from.result weight_is stands c.product_in.ensures.exact c.corner_from-corner.ensures.exact c.raise_behind-falls.ensures.lows part

pub returns-clause-exact : goal.returns-clause-exact
returns-clause-exact c =
    let weight_is : to_z w128 (of_z w128 c.args.weight) ≡ c.args.weight = search rules in
    let stands : earlier_of c.args.weight (λ s. slice_index c.args.frame.low.now s) (λ s. slice_index c.args.frame.high.now s) ≡ (λ s. slice_index c.args.frame.low.now s) = earlier_above c.args.weight (λ s. slice_index c.args.frame.low.now s) (λ s. slice_index c.args.frame.high.now s) (omega (arith, ints, c.if-weight-lt0.false, weight_is)) in
    λ i. product_slopes c.args.weight (to_z w128 (of_z w128 c.args.weight)) c.args.frame.den (λ s. slice_index c.args.frame.low.now s) (λ s. slice_index c.args.frame.high.now s) (λ s. slice_index c.args.frame.low.now s) c.args.sites.now (slice_index_or c.args.slopes.now i (pos 0)) (slice_index_or c.raise_behind-falls-2.new.slopes i (pos 0)) i weight_is stands (c.raise_behind-falls-2.ensures.exact i)

pub returns-clause-part : goal.returns-clause-part
returns-clause-part c =
    let weight_is : to_z w128 (of_z w128 c.args.weight) ≡ c.args.weight = search rules in
    let corner_is : to_z w128 (of_z w128 c.corner_from-corner.result) ≡ c.corner_from-corner.result = search rules in
    let falls_is : to_z w128 (of_z w128 c.raise_behind-falls-2.result) ≡ c.raise_behind-falls-2.result = search rules in
    let out_is : to_z w128 (of_z w128 c.part_from-2.result) ≡ c.part_from-2.result = search rules in
    let stands : earlier_of c.args.weight (λ s. slice_index c.args.frame.low.now s) (λ s. slice_index c.args.frame.high.now s) ≡ (λ s. slice_index c.args.frame.low.now s) = earlier_above c.args.weight (λ s. slice_index c.args.frame.low.now s) (λ s. slice_index c.args.frame.high.now s) (omega (arith, ints, c.if-weight-lt0.false, weight_is)) in
    let part : c.part_from-2.result ≡ pos 65536 *ℤ c.corner_from-corner.result -ℤ c.raise_behind-falls-2.result =
    c.part_from-2.ensures.exact ∙ ap (λ x. pos 65536 *ℤ x -ℤ to_z w128 (of_z w128 c.raise_behind-falls-2.result)) corner_is ∙ ap (λ x. pos 65536 *ℤ c.corner_from-corner.result -ℤ x) falls_is in
    out_is ∙ product_part c.args.weight (to_z w128 (of_z w128 c.args.weight)) c.args.frame.den (λ s. slice_index c.args.frame.low.now s) (λ s. slice_index c.args.frame.high.now s) (λ s. slice_index c.args.frame.low.now s) c.args.sites.now c.product_in.result c.corner_from-corner.result c.raise_behind-falls-2.result c.part_from-2.result weight_is stands c.product_in.ensures.exact c.corner_from-corner.ensures.exact c.raise_behind-falls-2.ensures.lows part
