use Rattle.std.proofs.Common.{◌≡◌, ◌^◌, ◌∙◌, arith, length, rules, SFits}
use Rattle.std.specs.Int.{w128}
use Rattle.std.proofs.lemmas.Int.{to_z-of_z}
use Rattle.cef_phase.specs.Walks.{less, slopes_over}
use Rattle.cef_phase.proofs.Walking.{plane_small, lower_walk, lower_parts_from, lower_chosen}
use Rattle.cef_phase.proofs.walk.choose_all.Goals as goal

pub lower_rows-requires-clause-small : goal.lower_rows-requires-clause-small
lower_rows-requires-clause-small c =
    rw c.ratios.ensures (plane_small (2 ^ 116) c.args.phase.now c.args.mix.now c.args.potentials.now (omega arith) c.requires.mixed c.requires.plane)

pub choose_from-requires-clause-walk : goal.choose_from-requires-clause-walk
choose_from-requires-clause-walk c =
    let new : c.lower_rows.new.slopes ≡ less (slopes_over c.args.potentials.now c.args.phase.now.ratios c.args.phase.now.sites) c.args.slopes.now = rw (c.ratios.ensures, c.as_slice.ensures) at c.lower_rows.ensures in
    lower_walk (2 ^ 116) c.args.phase.now c.args.mix.now c.args.range.now c.args.potentials.now c.args.slopes.now c.lower_rows.new.slopes c.requires.mixed c.requires.fits c.requires.plane c.requires.each c.requires.room new

pub returns-clause-chosen : goal.returns-clause-chosen
returns-clause-chosen c =
    let new : c.lower_rows.new.slopes ≡ less (slopes_over c.args.potentials.now c.args.phase.now.ratios c.args.phase.now.sites) c.args.slopes.now = rw (c.ratios.ensures, c.as_slice.ensures) at c.lower_rows.ensures in
    lower_chosen c.args.phase.now c.args.mix.now c.args.range.now c.args.potentials.now c.args.slopes.now c.lower_rows.new.slopes c.choose_from.new.out c.requires.mixed c.requires.each new (omega (arith, c.choose_from.ensures.each, c.requires.places)) c.choose_from.ensures.chosen

pub returns-clause-parts : goal.returns-clause-parts
returns-clause-parts c =
    let fits : SFits w128 c.choose_from.result = search rules in
    let new : c.lower_rows.new.slopes ≡ less (slopes_over c.args.potentials.now c.args.phase.now.ratios c.args.phase.now.sites) c.args.slopes.now = rw (c.ratios.ensures, c.as_slice.ensures) at c.lower_rows.ensures in
    simp to_z-of_z (c.choose_from.ensures.parts ∙ lower_parts_from c.args.phase.now c.args.mix.now c.args.range.now c.args.potentials.now c.args.slopes.now c.lower_rows.new.slopes c.choose_from.new.out (length c.choose_from.new.out) c.requires.mixed c.requires.each new (omega (arith, c.choose_from.ensures.each, c.requires.places)))
