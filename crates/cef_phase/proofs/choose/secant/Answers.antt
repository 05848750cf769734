use Rattle.std.proofs.Common.{rules, ◌≡◌, ◌+◌, ◌^◌, SFits}
use Rattle.std.specs.Prelude.{◌-ℤ◌}
use Rattle.std.specs.Int.{w128}
use Rattle.std.proofs.lemmas.Int.{to_z-of_z}
use Rattle.cef_phase.specs.declared.row.Row.{Row}
use Rattle.cef_phase.proofs.Secants.{secant_room, secant_fits}
use Rattle.cef_phase.proofs.choose.secant.Goals as goal

pub minus-requires : goal.minus-requires
minus-requires c =
    let row : Row = c.args.row.now in
    let fits_slope : SFits w128 c.slope_at.result = search rules in
    let fits_chord : SFits w128 c.chord-chord.result = search rules in
    simp to_z-of_z (secant_fits row c.slope_at.result c.chord-chord.result c.requires.row c.chord-chord.ensures.size (c.slope_at.ensures.small (2 ^ 116 + 2 ^ 86) c.requires.slopes))

pub returns-clause-size : goal.returns-clause-size
returns-clause-size c =
    let row : Row = c.args.row.now in
    let fits_slope : SFits w128 c.slope_at.result = search rules in
    let fits_chord : SFits w128 c.chord-chord.result = search rules in
    let fits : SFits w128 c.minus.result = search rules in
    let less : c.minus.result ≡ c.chord-chord.result -ℤ c.slope_at.result = simp to_z-of_z at c.minus.ensures in
    simp to_z-of_z (secant_room c.slope_at.result c.chord-chord.result c.minus.result row.mix.now.lattice c.requires.row.mixable.few less c.chord-chord.ensures.size (c.slope_at.ensures.small (2 ^ 116 + 2 ^ 86) c.requires.slopes))
