use Rattle.std.proofs.Common.{◌≡◌, ◌^◌, ◌∙◌, arith, length, rules, SFits}
use Rattle.std.specs.Int.{w128}
use Rattle.std.proofs.lemmas.Int.{to_z-of_z}
use Rattle.cef_phase.specs.Walks.{less, slopes_over}
use Rattle.cef_phase.proofs.Walking.{plane_small, lower_walk, lower_parts, wider, end_is}
use Rattle.cef_phase.proofs.walk.all_parts.Goals as goal

pub lower_rows-requires-clause-small : goal.lower_rows-requires-clause-small
lower_rows-requires-clause-small c =
    rw c.ratios.ensures (plane_small (2 ^ 117) c.args.phase.now c.args.mix.now c.args.potentials.now (omega arith) c.requires.mixed c.requires.plane)

pub parts_to-requires-clause-walk : goal.parts_to-requires-clause-walk
parts_to-requires-clause-walk c =
    let new : c.lower_rows.new.slopes ≡ less (slopes_over c.args.potentials.now c.args.phase.now.ratios c.args.phase.now.sites) c.args.slopes.now = rw (c.ratios.ensures, c.as_slice.ensures) at c.lower_rows.ensures in
    wider _ (2 ^ 118) c.args.phase.now c.args.mix.now c.args.range.now c.lower_rows.new.slopes (omega arith)
    (lower_walk (2 ^ 117) c.args.phase.now c.args.mix.now c.args.range.now c.args.potentials.now c.args.slopes.now c.lower_rows.new.slopes c.requires.mixed c.requires.fits c.requires.plane c.requires.each c.requires.room new)

pub parts_to-requires-clause-end : goal.parts_to-requires-clause-end
parts_to-requires-clause-end c = end_is c.args.phase.now.sites _ _ c.sublattices-count.ensures (parts_to-requires-clause-walk c).each

pub returns-clause-exact : goal.returns-clause-exact
returns-clause-exact c =
    let fits : SFits w128 c.parts_to.result = search rules in
    let new : c.lower_rows.new.slopes ≡ less (slopes_over c.args.potentials.now c.args.phase.now.ratios c.args.phase.now.sites) c.args.slopes.now = rw (c.ratios.ensures, c.as_slice.ensures) at c.lower_rows.ensures in
    let parts = rw c.sublattices-count.ensures at c.parts_to.ensures.exact in
    simp to_z-of_z (parts ∙ lower_parts c.args.phase.now c.args.mix.now c.args.range.now c.args.potentials.now c.args.slopes.now c.lower_rows.new.slopes c.args.multipliers.now (length c.args.phase.now.sites) c.requires.mixed c.requires.each new (omega arith))
