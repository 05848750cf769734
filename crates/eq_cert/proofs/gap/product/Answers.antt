use Rattle.std.proofs.Common.{◌≤◌, ◌*◌, ◌^◌, SFits, arith}
use Rattle.std.specs.Prelude.{◌*ℤ◌, unsigned_abs}
use Rattle.std.specs.Int.{w128}
use Rattle.std.proofs.lemmas.Int.{ints, to_z-of_z}
use Rattle.cal_math.specs.Whole.{abs-*ℤ-le}
use Rattle.eq_cert.proofs.gap.product.Goals as goal

pub returns-clause-exact : goal.returns-clause-exact
returns-clause-exact c =
    let fits_a = c.ranges.a in
    let fits_b = c.ranges.b in
    let size : unsigned_abs (c.args.a *ℤ c.args.b) ≤ 2 ^ 60 * 2 ^ 61 = abs-*ℤ-le c.args.a c.args.b (2 ^ 60) (2 ^ 61) c.requires.a c.requires.b in
    let fits : SFits w128 (c.args.a *ℤ c.args.b) = omega (arith, ints) in
    simp to_z-of_z

pub returns-clause-size : goal.returns-clause-size
returns-clause-size c =
    let fits_a = c.ranges.a in
    let fits_b = c.ranges.b in
    let size : unsigned_abs (c.args.a *ℤ c.args.b) ≤ 2 ^ 60 * 2 ^ 61 = abs-*ℤ-le c.args.a c.args.b (2 ^ 60) (2 ^ 61) c.requires.a c.requires.b in
    let fits : SFits w128 (c.args.a *ℤ c.args.b) = omega (arith, ints) in
    simp to_z-of_z size
