use Rattle.std.proofs.Common.{◌≡◌, ◌≤◌, ◌^◌, arith, to_z, SFits}
use Rattle.std.specs.Prelude.{pos, ◌-ℤ◌, ◌*ℤ◌, unsigned_abs}
use Rattle.std.specs.Int.{w64}
use Rattle.std.proofs.lemmas.Int.{ints, to_z-of_z, unsigned_abs-mul}
use Rattle.cef_mix.proofs.least.narrow_height.Goals as goal

pub returns : goal.returns
returns c =
    let fits_slope = c.ranges.slope in
    let fits_energy = c.ranges.energy in
    let size : unsigned_abs (c.args.slope *ℤ pos c.args.count) ≤ 2 ^ 61 = rw (unsigned_abs-mul c.args.slope (pos c.args.count)) c.requires.slope in
    let cast : to_z w64 c.args.count ≡ pos c.args.count = omega (arith, ints, c.requires.count) in
    let fits_count : SFits w64 (pos c.args.count) = omega (arith, ints, c.requires.count) in
    let fits_first : SFits w64 (pos 65536 *ℤ c.args.energy) = omega (arith, ints, c.requires.energy) in
    let fits_product : SFits w64 (c.args.slope *ℤ pos c.args.count) = omega (arith, ints, size) in
    let fits : SFits w64 (pos 65536 *ℤ c.args.energy -ℤ c.args.slope *ℤ pos c.args.count) = omega (arith, ints, c.requires.energy, size) in
    simp (cast, to_z-of_z)
