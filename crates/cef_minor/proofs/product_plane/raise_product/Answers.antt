use Rattle.std.proofs.Common.{rules, arith, ◌≡◌, ◌^◌, ◌+ℤ◌, ◌-ℤ◌, ◌*ℤ◌, length, pos, slice_index_or, to_z, of_z, ap, ◌∙◌}
use Rattle.std.specs.Int.{w128, int_div_euclid}
use Rattle.cef_minor.specs.Kept.{low_of, high_of}
use Rattle.cef_minor.specs.Products.{product_at}
use Rattle.cef_minor.specs.Slopes.{earlier_of, rise_of, site_slope, slope_of, slopes_behind}
use Rattle.cef_minor.proofs.Rooms.{weight_fits, weight_size}
use Rattle.cef_minor.proofs.product_plane.raise_product.Goals as goal

pub weight_of-requires : goal.weight_of-requires
weight_of-requires c =
    let micro_is : to_z w128 (of_z w128 c.args.frame.micro) ≡ c.args.frame.micro = search rules in
    let factor_is : to_z w128 (of_z w128 c.args.coefficient) ≡ c.args.coefficient = search rules in
    rw (micro_is, factor_is) (weight_fits c.args.frame.micro c.args.coefficient c.args.frame.parts (length c.args.sites.now) c.args.frame.den c.requires.frame.some c.requires.frame.micro c.requires.product.room c.requires.frame.den_high)

pub raise_weighted-requires-clause-weight : goal.raise_weighted-requires-clause-weight
raise_weighted-requires-clause-weight c =
    let micro_is : to_z w128 (of_z w128 c.args.frame.micro) ≡ c.args.frame.micro = search rules in
    let factor_is : to_z w128 (of_z w128 c.args.coefficient) ≡ c.args.coefficient = search rules in
    let weight_is : to_z w128 (of_z w128 c.weight_of.result) ≡ c.weight_of.result = search rules in
    let product_is : c.weight_of.result ≡ c.args.frame.micro *ℤ c.args.coefficient = rw (micro_is, factor_is) at c.weight_of.ensures in
    rw weight_is (weight_size c.args.frame.micro c.args.coefficient c.weight_of.result (c.args.frame.parts ^ length c.args.sites.now) c.args.frame.den product_is c.requires.frame.micro c.requires.product.room)

pub returns-clause-slopes : goal.returns-clause-slopes
returns-clause-slopes c =
    let micro_is : to_z w128 (of_z w128 c.args.frame.micro) ≡ c.args.frame.micro = search rules in
    let factor_is : to_z w128 (of_z w128 c.args.coefficient) ≡ c.args.coefficient = search rules in
    let product_is : c.weight_of.result ≡ c.args.frame.micro *ℤ c.args.coefficient = rw (micro_is, factor_is) at c.weight_of.ensures in
    let weight_is : to_z w128 (of_z w128 c.weight_of.result) ≡ c.weight_of.result = search rules in
    λ i.
    c.raise_weighted.ensures.exact i
    ∙ ap (λ w. slice_index_or c.args.slopes.now i (pos 0) +ℤ site_slope (slopes_behind (slope_of w c.args.frame.den) (earlier_of w (low_of c.args.frame) (high_of c.args.frame)) (low_of c.args.frame) 1 c.args.sites.now) i) (weight_is ∙ product_is)

pub returns-clause-part : goal.returns-clause-part
returns-clause-part c =
    let micro_is : to_z w128 (of_z w128 c.args.frame.micro) ≡ c.args.frame.micro = search rules in
    let factor_is : to_z w128 (of_z w128 c.args.coefficient) ≡ c.args.coefficient = search rules in
    let product_is : c.weight_of.result ≡ c.args.frame.micro *ℤ c.args.coefficient = rw (micro_is, factor_is) at c.weight_of.ensures in
    let weight_is : to_z w128 (of_z w128 c.weight_of.result) ≡ c.weight_of.result = search rules in
    let out_is : to_z w128 (of_z w128 c.raise_weighted.result) ≡ c.raise_weighted.result = search rules in
    out_is
    ∙ c.raise_weighted.ensures.part
    ∙ ap (λ w. pos 65536 *ℤ int_div_euclid (w *ℤ pos (product_at (low_of c.args.frame) c.args.sites.now)) (pos c.args.frame.den) -ℤ rise_of (λ s. pos (low_of c.args.frame s)) (slopes_behind (slope_of w c.args.frame.den) (earlier_of w (low_of c.args.frame) (high_of c.args.frame)) (low_of c.args.frame) 1 c.args.sites.now)) (weight_is ∙ product_is)
