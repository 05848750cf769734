use Rattle.std.proofs.Common.{◌≡◌, SFits, rules}
use Rattle.std.specs.Int.{w128, int_div_euclid}
use Rattle.std.proofs.lemmas.Int.{to_z-of_z}
use Rattle.cal_math.specs.Whole.{floor-le, lt-floor}
use Rattle.cal_whole.proofs.floor.floor_quotient.Goals as goal

pub returns-clause-below : goal.returns-clause-below
returns-clause-below c =
    let fits_a = c.ranges.a in
    let fits_d = c.ranges.d in
    let is : c.div_euclid.result ≡ int_div_euclid c.args.a c.args.d = simp to_z-of_z at c.div_euclid.ensures in
    let fits : SFits w128 c.div_euclid.result = search rules in
    rw (to_z-of_z, is) (floor-le _ _ c.requires.divisor)

pub returns-clause-above : goal.returns-clause-above
returns-clause-above c =
    let fits_a = c.ranges.a in
    let fits_d = c.ranges.d in
    let is : c.div_euclid.result ≡ int_div_euclid c.args.a c.args.d = simp to_z-of_z at c.div_euclid.ensures in
    let fits : SFits w128 c.div_euclid.result = search rules in
    rw (to_z-of_z, is) (lt-floor _ _ c.requires.divisor)
