use Rattle.std.proofs.Common.{◌≡◌, ◌^◌, ◌≤◌, arith, refl, rules, SFits}
use Rattle.std.specs.Prelude.{pos, ◌*ℤ◌, ◌-ℤ◌, unsigned_abs}
use Rattle.std.specs.Int.{w128, int_div_euclid}
use Rattle.std.proofs.lemmas.Int.{ints, to_z-of_z}
use Rattle.cal_math.specs.Whole.{abs-floor-le}
use Rattle.eq_solve.proofs.potential.lowered_of.Goals as goal

pub returns : goal.returns
returns c =
    let fits_number = c.ranges.number in
    let fits_denominator = c.ranges.denominator in
    let fits_scaled : SFits w128 (pos 65536 *ℤ c.args.number) = omega (arith, ints) in
    let is : c.div_euclid.result ≡ int_div_euclid (pos 65536 *ℤ c.args.number) c.args.denominator = simp to_z-of_z at c.div_euclid.ensures in
    let fits : SFits w128 c.div_euclid.result = search rules in
    let fits_margin : SFits w128 c.from.result = search rules in
    let small : unsigned_abs (int_div_euclid (pos 65536 *ℤ c.args.number) c.args.denominator) ≤ 2 ^ 115 = abs-floor-le _ _ (2 ^ 115) c.requires.denominator (omega (arith, ints)) in
    let fits_all : SFits w128 (c.div_euclid.result -ℤ c.from.result) = rw (is, c.from.ensures) (omega (arith, ints, small)) in
    simp to_z-of_z (rw (is, c.from.ensures) refl)
