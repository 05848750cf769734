use Rattle.std.proofs.Common.{rules, arith, ◌≡◌, ◌*◌, ◌^◌, ◌≤◌, pos, ◌*ℤ◌, length, to_z, of_z, ap, sym, ◌∙◌, unsigned_abs}
use Rattle.std.specs.Int.{w128}
use Rattle.cal_math.specs.Whole.{*ℤ_comm}
use Rattle.cef_minor.specs.Kept.{low_of, factor_at, factor_most}
use Rattle.cef_minor.specs.Products.{product_at}
use Rattle.cef_minor.proofs.Levels.{q_is, q_size, factor_size, factor_room, array_power}
use Rattle.cef_minor.proofs.level.q_at_lows.Goals as goal

pub weighted-requires-clause-small : goal.weighted-requires-clause-small
weighted-requires-clause-small c =
    omega (arith, c.product_in-product.ensures.size, array_power c.args.frame (length c.args.frame.low.now) c.args.form c.args.sites.now c.requires)

pub weighted-requires-clause-room : goal.weighted-requires-clause-room
weighted-requires-clause-room c =
    let factor_is : to_z w128 (of_z w128 c.factor_in.result) ≡ c.factor_in.result = search rules in
    let size = factor_size c.args.frame.parts (length c.args.frame.low.now) (low_of c.args.frame) c.args.form c.requires.frame_keeps.low_small c.requires.form_in in
    rw (factor_is, c.factor_in.ensures) (factor_room (factor_at c.args.frame.parts (low_of c.args.frame) c.args.form) c.product_in-product.result (c.args.frame.parts ^ length c.args.sites.now) (factor_most c.args.frame.parts c.args.form) c.args.frame.den c.product_in-product.ensures.size size c.requires.den_is c.requires.frame_keeps.den_high)

pub returns-clause-exact : goal.returns-clause-exact
returns-clause-exact c =
    let factor_is : to_z w128 (of_z w128 c.factor_in.result) ≡ c.factor_in.result = search rules in
    let out_is : to_z w128 (of_z w128 c.weighted.result) ≡ c.weighted.result = search rules in
    let q = rw (factor_is, c.product_in-product.ensures.exact, c.factor_in.ensures) at c.weighted.ensures in
    out_is ∙ q ∙ *ℤ_comm (factor_at c.args.frame.parts (low_of c.args.frame) c.args.form) (pos (product_at (low_of c.args.frame) c.args.sites.now)) ∙ sym (q_is c.args.frame.parts (low_of c.args.frame) c.args.form c.args.sites.now)

pub returns-clause-size : goal.returns-clause-size
returns-clause-size c =
    let factor_is : to_z w128 (of_z w128 c.factor_in.result) ≡ c.factor_in.result = search rules in
    let out_is : to_z w128 (of_z w128 c.weighted.result) ≡ c.weighted.result = search rules in
    let q = rw (factor_is, c.product_in-product.ensures.exact, c.factor_in.ensures) at c.weighted.ensures in
    let size = q_size c.args.frame.parts (length c.args.frame.low.now) (low_of c.args.frame) c.args.form c.args.sites.now c.requires.frame_keeps.low_small c.requires.form_in in
    rw (out_is, q, *ℤ_comm (factor_at c.args.frame.parts (low_of c.args.frame) c.args.form) (pos (product_at (low_of c.args.frame) c.args.sites.now)), c.requires.den_is) size
