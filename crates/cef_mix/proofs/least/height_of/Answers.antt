use Rattle.std.proofs.Common.{◌≡◌, ◌≤◌, ◌^◌, arith, refl, to_z, SFits}
use Rattle.std.specs.Prelude.{pos, ◌-ℤ◌, ◌*ℤ◌, unsigned_abs}
use Rattle.std.specs.Int.{w128, w64}
use Rattle.std.proofs.lemmas.Int.{ints, to_z-of_z}
use Rattle.cef_mix.proofs.Heights.{share_size}
use Rattle.cef_mix.proofs.least.height_of.Goals as goal

pub returns : goal.returns
returns c =
    let fits_slope = c.ranges.slope in
    let fits_here = c.ranges.energy in
    let same : c.from.result ≡ c.args.energy = simp to_z-of_z at c.from.ensures in
    let size : unsigned_abs (c.args.slope *ℤ pos c.args.count) ≤ 2 ^ 119 = share_size c.args.slope c.args.count c.requires.slope in
    let cast : to_z w128 c.args.count ≡ pos c.args.count = omega (arith, ints) in
    let fits_count : SFits w128 (pos c.args.count) = omega (arith, ints) in
    let fits_energy : SFits w128 c.args.energy = omega (arith, ints, c.requires.energy) in
    let fits_first : SFits w128 (pos 65536 *ℤ c.args.energy) = omega (arith, ints, c.requires.energy) in
    let fits_product : SFits w128 (c.args.slope *ℤ pos c.args.count) = omega (arith, ints) in
    let fits : SFits w128 (pos 65536 *ℤ c.args.energy -ℤ c.args.slope *ℤ pos c.args.count) = omega (arith, ints, c.requires.energy) in
    rw same (simp (cast, to_z-of_z))
