use Rattle.std.proofs.Common.{rules, ◌≡◌, SFits, slice_index}
use Rattle.std.specs.Prelude.{pos, ◌-ℤ◌}
use Rattle.std.specs.Int.{w64}
use Rattle.std.proofs.lemmas.Int.{to_z-of_z}
use Rattle.cef_term.proofs.Factors.{roomy_low}
use Rattle.cef_term.proofs.factor.factor_of.Goals as goal

pub power_of-requires : goal.power_of-requires
power_of-requires c =
    let fits : SFits w64 c.difference.result = search rules in
    let base : c.difference.result ≡ pos (slice_index c.args.counts.now c.in-Binary.first) -ℤ pos (slice_index c.args.counts.now c.in-Binary.second) = rw (c.from.ensures, c.from-in-Binary.ensures) at c.difference.ensures in
    simp to_z-of_z (rw base (roomy_low c.args.counts.now c.args.counts.now c.args.form _ _ _ c.in-Binary.is c.requires))
