use Rattle.std.proofs.Common.{rules, ◌≡◌, SFits, slice_index}
use Rattle.std.specs.Prelude.{pos, ◌-ℤ◌}
use Rattle.std.specs.Int.{w64}
use Rattle.std.proofs.lemmas.Int.{to_z-of_z}
use Rattle.cef_term.proofs.Factors.{roomy_low, roomy_high}
use Rattle.cef_term.proofs.factor.greatest_factor_of.Goals as goal

pub greatest_power_of-requires-clause-low_room : goal.greatest_power_of-requires-clause-low_room
greatest_power_of-requires-clause-low_room c =
    let fits : SFits w64 c.difference.result = search rules in
    let base : c.difference.result ≡ pos (slice_index c.args.low.now c.in-Binary.first) -ℤ pos (slice_index c.args.high.now c.in-Binary.second) = rw (c.from.ensures, c.from-in-Binary.ensures) at c.difference.ensures in
    simp to_z-of_z (rw base (roomy_low c.args.low.now c.args.high.now c.args.form _ _ _ c.in-Binary.is c.requires))

pub greatest_power_of-requires-clause-high_room : goal.greatest_power_of-requires-clause-high_room
greatest_power_of-requires-clause-high_room c =
    let fits : SFits w64 c.difference-in-Binary.result = search rules in
    let base : c.difference-in-Binary.result ≡ pos (slice_index c.args.high.now c.in-Binary.first) -ℤ pos (slice_index c.args.low.now c.in-Binary.second) = rw (c.from-in-Binary-2.ensures, c.from-in-Binary-3.ensures) at c.difference-in-Binary.ensures in
    simp to_z-of_z (rw base (roomy_high c.args.low.now c.args.high.now c.args.form _ _ _ c.in-Binary.is c.requires))
