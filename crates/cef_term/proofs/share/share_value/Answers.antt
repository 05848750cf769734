use Rattle.std.proofs.Common.{rules, ◌≡◌, SFits, ◌∙◌}
use Rattle.std.specs.Prelude.{pos, ◌*ℤ◌}
use Rattle.std.specs.Int.{w64, w128, int_div_euclid}
use Rattle.std.proofs.lemmas.Int.{to_z-of_z}
use Rattle.cef_term.specs.Kept.{product_at}
use Rattle.cef_term.proofs.Shares.{narrow_product, narrow_quotient, wide_quotient, wide_keeps, value_of-size}
use Rattle.cef_term.proofs.share.share_value.Goals as goal

pub product_of-product-requires : goal.product_of-product-requires
product_of-product-requires c = narrow_product c.args.share c.in-Narrow.narrow c.args.counts.now c.args.places.now c.in-Narrow.is c.requires.keeps c.requires.product

pub narrow_value-requires-clause-keeps : goal.narrow_value-requires-clause-keeps
narrow_value-requires-clause-keeps c = c.requires.keeps.narrow c.in-Narrow.narrow c.in-Narrow.is

pub wide_value-requires-clause-keeps : goal.wide_value-requires-clause-keeps
wide_value-requires-clause-keeps c = wide_keeps c.args.share c.in-Wide.wide c.in-Wide.is c.requires.keeps

pub returns-in-Narrow-clause-exact : goal.returns-in-Narrow-clause-exact
returns-in-Narrow-clause-exact c =
    let factor = c.ranges.factor in
    let fits : SFits w64 c.narrow_value.result = search rules in
    let wide : SFits w128 c.from.result = search rules in
    let value : c.narrow_value.result ≡ int_div_euclid (c.in-Narrow.narrow.micro *ℤ (pos (product_at c.args.counts.now c.args.places.now) *ℤ c.args.factor)) (pos c.in-Narrow.narrow.den) = rw c.product_of-product.ensures.exact at (simp to_z-of_z at c.narrow_value.ensures) in
    let same : c.from.result ≡ c.narrow_value.result = simp to_z-of_z at c.from.ensures in
    simp to_z-of_z (same ∙ value ∙ narrow_quotient c.args.share c.in-Narrow.narrow (pos (product_at c.args.counts.now c.args.places.now) *ℤ c.args.factor) c.in-Narrow.is)

pub returns-in-Narrow-clause-size : goal.returns-in-Narrow-clause-size
returns-in-Narrow-clause-size c = rw (returns-in-Narrow-clause-exact c) (value_of-size c.args.share (product_at c.args.counts.now c.args.places.now) c.args.factor c.requires.keeps c.requires.room)

pub returns-in-Wide-clause-exact : goal.returns-in-Wide-clause-exact
returns-in-Wide-clause-exact c =
    let factor = c.ranges.factor in
    let fits : SFits w128 c.wide_value.result = search rules in
    let value : c.wide_value.result ≡ int_div_euclid (c.in-Wide.wide.micro *ℤ (pos (product_at c.args.counts.now c.args.places.now) *ℤ c.args.factor)) (pos c.in-Wide.wide.den) = simp to_z-of_z at c.wide_value.ensures in
    simp to_z-of_z (value ∙ wide_quotient c.args.share c.in-Wide.wide (pos (product_at c.args.counts.now c.args.places.now) *ℤ c.args.factor) c.in-Wide.is)

pub returns-in-Wide-clause-size : goal.returns-in-Wide-clause-size
returns-in-Wide-clause-size c = rw (returns-in-Wide-clause-exact c) (value_of-size c.args.share (product_at c.args.counts.now c.args.places.now) c.args.factor c.requires.keeps c.requires.room)
