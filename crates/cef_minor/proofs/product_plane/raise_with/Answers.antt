use Rattle.std.proofs.Common.{rules, arith, ◌≡◌, ℕ, List, ℤ, [], ◌∷◌, ◌++◌, ◌+ℤ◌, pos, slice_index_or, take, to_z, of_z, ap, sym, ◌∙◌}
use Rattle.std.specs.Int.{w128}
use Rattle.cef_minor.specs.Kept.{low_of, high_of, part_of}
use Rattle.cef_minor.specs.Products.{times}
use Rattle.cef_minor.specs.Slopes.{site_slope, slopes_of_product}
use Rattle.std.proofs.lemmas.List.{take_more_set}
use Rattle.cef_minor.proofs.product_plane.raise_with.Goals as goal

pub returns-clause-slopes : goal.returns-clause-slopes
returns-clause-slopes c =
    let factor_is : to_z w128 (of_z w128 c.args.coefficient) ≡ c.args.coefficient = search rules in
    let used_is : c.split_at.result.0.now ≡ take c.args.count c.args.sites.now ++ c.args.added ∷ [] = c.split_at.ensures.front ∙ take_more_set c.args.sites.now c.args.count c.args.added c.requires.count in
    λ i.
    c.raise_product.ensures.slopes i
    ∙ ap (λ (f : ℤ). slice_index_or c.args.slopes.now i (pos 0) +ℤ site_slope (slopes_of_product c.args.frame.micro c.args.frame.den (low_of c.args.frame) (high_of c.args.frame) (times f c.split_at.result.0.now)) i) factor_is
    ∙ ap (λ (s : List ℕ). slice_index_or c.args.slopes.now i (pos 0) +ℤ site_slope (slopes_of_product c.args.frame.micro c.args.frame.den (low_of c.args.frame) (high_of c.args.frame) (times c.args.coefficient s)) i) used_is

pub returns-clause-part : goal.returns-clause-part
returns-clause-part c =
    let factor_is : to_z w128 (of_z w128 c.args.coefficient) ≡ c.args.coefficient = search rules in
    let out_is : to_z w128 (of_z w128 c.raise_product.result) ≡ c.raise_product.result = search rules in
    let used_is : c.split_at.result.0.now ≡ take c.args.count c.args.sites.now ++ c.args.added ∷ [] = c.split_at.ensures.front ∙ take_more_set c.args.sites.now c.args.count c.args.added c.requires.count in
    out_is
    ∙ c.raise_product.ensures.part
    ∙ ap (λ (f : ℤ). part_of c.args.frame.micro c.args.frame.den (low_of c.args.frame) (high_of c.args.frame) (times f c.split_at.result.0.now)) factor_is
    ∙ ap (λ (s : List ℕ). part_of c.args.frame.micro c.args.frame.den (low_of c.args.frame) (high_of c.args.frame) (times c.args.coefficient s)) used_is
