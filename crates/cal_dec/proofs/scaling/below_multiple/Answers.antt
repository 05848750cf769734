use Rattle.std.proofs.Common.{◌*◌, ◌≤◌, ◌^◌, arith}
use Rattle.std.proofs.lemmas.Bool.Decides.{nat_tests}
use Rattle.std.proofs.lemmas.Nat.{mul-le}
use Rattle.cal_dec.specs.Tens.{ten-pow-le}
use Rattle.cal_dec.proofs.scaling.below_multiple.Goals as goal

pub returns-then-places-ge10 : goal.returns-then-places-ge10
returns-then-places-ge10 c =
    let high : 1 * 10 ^ 10 ≤ c.args.mantissa * 10 ^ c.args.places = mul-le 1 (10 ^ 10) c.args.mantissa (10 ^ c.args.places) (omega arith) (ten-pow-le 10 c.args.places (omega arith)) in
    (λ is. omega arith, λ less. grind (arith, nat_tests))
