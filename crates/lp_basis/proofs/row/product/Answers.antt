use Rattle.std.proofs.Common.{rules, pos, refl, slice_index_or, SFits, ◌*ℤ◌}
use Rattle.std.specs.Int.{w128}
use Rattle.std.proofs.lemmas.Int.{to_z-of_z}
use Rattle.cal_math.specs.Vectors.{dot}
use Rattle.lp_basis.proofs.Products.{partial_fits, dot_more}
use Rattle.lp_basis.proofs.row.product.Goals as goal

pub sum-init : goal.sum-init
unfolding dot
sum-init c = refl

pub times-summand-requires : goal.times-summand-requires
times-summand-requires c =
    let fits_row : SFits w128 (slice_index_or c.args.row.now c.sum.i (pos 0)) = search rules in
    let fits_column : SFits w128 (slice_index_or c.args.column.now c.sum.i (pos 0)) = search rules in
    simp to_z-of_z ((partial_fits c.requires.0 c.requires.1 c.args.row.now c.args.column.now c.sum.i c.requires.2 c.sum-test.true).0)

pub plus-sum-requires : goal.plus-sum-requires
plus-sum-requires c =
    let fits_row : SFits w128 (slice_index_or c.args.row.now c.sum.i (pos 0)) = search rules in
    let fits_column : SFits w128 (slice_index_or c.args.column.now c.sum.i (pos 0)) = search rules in
    let room : SFits w128 (slice_index_or c.args.row.now c.sum.i (pos 0) *ℤ slice_index_or c.args.column.now c.sum.i (pos 0)) = (partial_fits c.requires.0 c.requires.1 c.args.row.now c.args.column.now c.sum.i c.requires.2 c.sum-test.true).0 in
    let fits : SFits w128 c.times-summand.result = search rules in
    let summand = simp to_z-of_z at c.times-summand.ensures in
    simp (to_z-of_z, c.sum.invariant, summand) ((partial_fits c.requires.0 c.requires.1 c.args.row.now c.args.column.now c.sum.i c.requires.2 c.sum-test.true).1)

pub sum-preserved : goal.sum-preserved
sum-preserved c =
    let fits_row : SFits w128 (slice_index_or c.args.row.now c.sum.i (pos 0)) = search rules in
    let fits_column : SFits w128 (slice_index_or c.args.column.now c.sum.i (pos 0)) = search rules in
    let room : SFits w128 (slice_index_or c.args.row.now c.sum.i (pos 0) *ℤ slice_index_or c.args.column.now c.sum.i (pos 0)) = (partial_fits c.requires.0 c.requires.1 c.args.row.now c.args.column.now c.sum.i c.requires.2 c.sum-test.true).0 in
    let fits_summand : SFits w128 c.times-summand.result = search rules in
    let summand = simp to_z-of_z at c.times-summand.ensures in
    let fits : SFits w128 c.plus-sum.result = search rules in
    let is = simp (to_z-of_z, c.sum.invariant, summand) at c.plus-sum.ensures in
    simp (to_z-of_z, dot_more) is
