use Rattle.std.proofs.Common.{◌≤◌, ◌*◌, ◌^◌, SFits, arith}
use Rattle.std.specs.Prelude.{◌*ℤ◌, unsigned_abs}
use Rattle.std.specs.Int.{w128}
use Rattle.std.proofs.lemmas.Int.{ints, to_z-of_z}
use Rattle.cal_math.specs.Whole.{abs-*ℤ-le}
use Rattle.eq_cert.proofs.sums.times.Goals as goal

pub returns-clause-exact : goal.returns-clause-exact
returns-clause-exact c =
    let fits_a = c.ranges.amount in
    let fits_b = c.ranges.number in
    let size : unsigned_abs (c.args.amount *ℤ c.args.number) ≤ 2 ^ 50 * 2 ^ 55 = abs-*ℤ-le c.args.amount c.args.number (2 ^ 50) (2 ^ 55) c.requires.amount c.requires.number in
    let fits : SFits w128 (c.args.amount *ℤ c.args.number) = omega (arith, ints) in
    simp to_z-of_z

pub returns-clause-size : goal.returns-clause-size
returns-clause-size c =
    let fits_a = c.ranges.amount in
    let fits_b = c.ranges.number in
    let size : unsigned_abs (c.args.amount *ℤ c.args.number) ≤ 2 ^ 50 * 2 ^ 55 = abs-*ℤ-le c.args.amount c.args.number (2 ^ 50) (2 ^ 55) c.requires.amount c.requires.number in
    let fits : SFits w128 (c.args.amount *ℤ c.args.number) = omega (arith, ints) in
    simp to_z-of_z size
