use Rattle.std.proofs.Common.{rules, ◌≡◌, ◌≤◌, ◌<◌, ◌+◌, arith, length, SFits}
use Rattle.std.specs.Prelude.{pos, ◌+ℤ◌, ◌*ℤ◌, slice_index}
use Rattle.std.specs.Int.{w128}
use Rattle.std.proofs.lemmas.Int.{to_z-of_z}
use Rattle.cal_math.specs.Vectors.{at}
use Rattle.cef_mix.specs.Mixes.{IsLeastOn}
use Rattle.cef_phase.specs.declared.row.Row.{Row}
use Rattle.cef_phase.specs.Walks.{mixing_of, ranges_at}
use Rattle.cef_phase.proofs.Parts.{IsPartly, IsPartly-none, IsPartly-more, IsPartly_line}
use Rattle.cef_phase.proofs.Rows.{row_order}
use Rattle.cef_phase.proofs.part.row_part.Goals as goal

pub each-init : goal.each-init
each-init c =
    let row : Row = c.args.row.now in
    let fits_multiplier = c.ranges.multiplier in
    let fits : SFits w128 c.share-height.result = search rules in
    let share : c.share-height.result ≡ c.args.multiplier *ℤ pos row.mix.now.lattice = rw c.parts.ensures at (simp to_z-of_z at c.share-height.ensures.exact) in
    simp to_z-of_z (IsPartly-none row.mix.now.lattice (mixing_of row) row.slopes.now (ranges_at row) c.args.multiplier c.share-height.result share c.share-height.ensures.size)

pub each-preserved : goal.each-preserved
each-preserved c =
    let row : Row = c.args.row.now in
    let fits_multiplier = c.ranges.multiplier in
    let fits_least : SFits w128 c.site_least-least.result.height = search rules in
    let fits_sum : SFits w128 c.plus-height.result = search rules in
    let before : IsPartly row.mix.now.lattice (mixing_of row) row.slopes.now (ranges_at row) c.args.multiplier c.each.site c.each.height c.each.counts = rw c.each.height-is at (simp to_z-of_z at c.each.invariant) in
    let sum : c.plus-height.result ≡ c.each.height +ℤ c.site_least-least.result.height = rw c.each.height-is at (simp to_z-of_z at c.plus-height.ensures) in
    let least : IsLeastOn (mixing_of row) (at row.slopes.now c.each.site +ℤ c.args.multiplier) (slice_index row.low.now c.each.site) (slice_index row.high.now c.each.site) c.site_least-least.result.place c.site_least-least.result.height = simp to_z-of_z at c.site_least-least.ensures.least in
    let there : c.each.site < length (ranges_at row) = omega (arith, c.each-test.true, c.requires.row.each) in
    let more : c.each.counts + c.from-counts.result ≡ c.each.counts + c.site_least-least.result.place = omega (arith, c.from-counts.ensures) in
    simp to_z-of_z (IsPartly-more row.mix.now.lattice (mixing_of row) row.slopes.now row.low.now row.high.now c.args.multiplier c.each.site c.each.height c.site_least-least.result.height c.plus-height.result c.each.counts c.site_least-least.result.place _ c.each-test.true there (row_order row c.each.site c.requires.row c.each-test.true) least c.site_least-least.ensures.size c.site_least-least.ensures.within sum more before)

pub returns-clause-line : goal.returns-clause-line
returns-clause-line c =
    let row : Row = c.args.row.now in
    let fits_multiplier = c.ranges.multiplier in
    let all : length row.slopes.now ≤ c.each.site = omega (arith, c.each-test.false) in
    IsPartly_line row.mix.now.lattice (mixing_of row) row.slopes.now (ranges_at row) c.args.multiplier c.each.site _ c.each.counts all (simp to_z-of_z at c.each.invariant)
