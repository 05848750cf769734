use Rattle.std.proofs.Common.{rules, ◌≡◌, SFits}
use Rattle.std.specs.Prelude.{pos}
use Rattle.std.specs.Int.{w128, w64}
use Rattle.std.proofs.lemmas.Int.{to_z-of_z}
use Rattle.cef_mix.specs.Mixes.{height}
use Rattle.cef_mix.specs.Tables.{entry, IsGreatestFall, IsTurn}
use Rattle.cef_mix.proofs.Halves.{least_at_turn}
use Rattle.cef_mix.proofs.least.least_narrow.Goals as goal

pub returns : goal.returns
returns c =
    let fits_slope = c.ranges.slope in
    let fits_most : SFits w64 c.narrow_fall.result = search rules in
    let fits_here : SFits w64 (entry c.args.energies.now c.turn-place.result) = search rules in
    let fits_narrow : SFits w64 c.narrow_height.result = search rules in
    let fits_height : SFits w128 c.from.result = search rules in
    let same : c.from.result ≡ c.narrow_height.result = simp to_z-of_z at c.from.ensures in
    let reached : c.narrow_height.result ≡ height (entry c.args.energies.now) c.args.slope c.turn-place.result = simp to_z-of_z at c.narrow_height.ensures in
    let fall : IsGreatestFall c.args.slope c.narrow_fall.result = simp to_z-of_z at c.narrow_fall.ensures in
    let turn : IsTurn c.args.rises.now c.narrow_fall.result c.args.low c.args.high c.turn-place.result = simp to_z-of_z at c.turn-place.ensures in
    simp to_z-of_z (rw same (least_at_turn c.args.energies.now c.args.rises.now c.args.slope c.narrow_fall.result c.args.low c.args.high c.turn-place.result c.narrow_height.result c.requires.rises c.requires.within fall turn reached))
