use Rattle.std.proofs.Common.{rules, ◌≡◌, ◌≤◌, ◌*◌, ◌^◌, SFits}
use Rattle.std.specs.Prelude.{◌+ℤ◌, unsigned_abs, slice_index}
use Rattle.std.specs.Int.{w128}
use Rattle.std.proofs.lemmas.Int.{to_z-of_z}
use Rattle.cef_mix.specs.Mixes.{IsLeastOn}
use Rattle.cef_phase.specs.declared.row.Row.{Row}
use Rattle.cef_phase.specs.Walks.{mixing_of}
use Rattle.cef_phase.proofs.Rows.{row_plus_fits, row_within, slopes_together, slope_fits, least_size}
use Rattle.cef_phase.proofs.part.site_least.Goals as goal

pub plus-both-requires : goal.plus-both-requires
plus-both-requires c =
    let row : Row = c.args.row.now in
    let fits_multiplier = c.ranges.multiplier in
    let fits_slope : SFits w128 c.slope_at.result = search rules in
    simp to_z-of_z (row_plus_fits row c.slope_at.result c.args.multiplier c.requires.row (c.slope_at.ensures.small (2 ^ 118) c.requires.row.slopes) c.requires.multiplier)

pub least_on-requires-clause-slope : goal.least_on-requires-clause-slope
least_on-requires-clause-slope c =
    let row : Row = c.args.row.now in
    let fits_multiplier = c.ranges.multiplier in
    let fits_slope : SFits w128 c.slope_at.result = search rules in
    let fits_both : SFits w128 c.plus-both.result = search rules in
    let sum : c.plus-both.result ≡ c.slope_at.result +ℤ c.args.multiplier = simp to_z-of_z at c.plus-both.ensures in
    simp to_z-of_z (slope_fits c.slope_at.result c.args.multiplier c.plus-both.result row.mix.now.lattice sum (c.slope_at.ensures.small (2 ^ 118) c.requires.row.slopes) c.requires.multiplier)

pub returns-clause-size : goal.returns-clause-size
returns-clause-size c =
    let row : Row = c.args.row.now in
    let fits_multiplier = c.ranges.multiplier in
    let fits_slope : SFits w128 c.slope_at.result = search rules in
    let fits_both : SFits w128 c.plus-both.result = search rules in
    let sum : c.plus-both.result ≡ c.slope_at.result +ℤ c.args.multiplier = simp to_z-of_z at c.plus-both.ensures in
    let least : IsLeastOn (mixing_of row) c.plus-both.result (slice_index row.low.now c.args.site) (slice_index row.high.now c.args.site) c.least_on.result.place c.least_on.result.height = simp to_z-of_z at c.least_on.ensures in
    let together : unsigned_abs c.plus-both.result * row.mix.now.lattice ≤ 3 * 2 ^ 117 = slopes_together c.slope_at.result c.args.multiplier c.plus-both.result row.mix.now.lattice sum (c.slope_at.ensures.small (2 ^ 118) c.requires.row.slopes) c.requires.multiplier in
    least_size row.mix.now row.place c.plus-both.result c.least_on.result.height _ _ c.least_on.result.place c.requires.row.mixable least (row_within row c.args.site c.requires.row c.requires.site) together
