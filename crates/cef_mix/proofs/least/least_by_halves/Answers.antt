use Rattle.std.proofs.Common.{rules, ◌≡◌, SFits}
use Rattle.std.specs.Prelude.{pos}
use Rattle.std.specs.Int.{w128, w64}
use Rattle.std.proofs.lemmas.Int.{to_z-of_z}
use Rattle.cef_mix.specs.Mixes.{height}
use Rattle.cef_mix.specs.Tables.{entry, IsGreatestFall, IsTurn}
use Rattle.cef_mix.proofs.Halves.{least_at_turn}
use Rattle.cef_mix.proofs.least.least_by_halves.Goals as goal

pub returns : goal.returns
returns c =
    let fits_slope = c.ranges.slope in
    let fits_most : SFits w64 c.greatest_fall.result = search rules in
    let fits_here : SFits w64 (entry c.args.energies.now c.turn-place.result) = search rules in
    let fits_height : SFits w128 c.height_of.result = search rules in
    let reached : c.height_of.result ≡ height (entry c.args.energies.now) c.args.slope c.turn-place.result = simp to_z-of_z at c.height_of.ensures in
    let fall : IsGreatestFall c.args.slope c.greatest_fall.result = simp to_z-of_z at c.greatest_fall.ensures in
    let turn : IsTurn c.args.rises.now c.greatest_fall.result c.args.low c.args.high c.turn-place.result = simp to_z-of_z at c.turn-place.ensures in
    simp to_z-of_z (least_at_turn c.args.energies.now c.args.rises.now c.args.slope c.greatest_fall.result c.args.low c.args.high c.turn-place.result c.height_of.result c.requires.rises c.requires.within fall turn reached)
