use Rattle.std.proofs.Common.{◌*◌, ◌≤◌, ◌^◌, refl, arith}
use Rattle.std.proofs.lemmas.Nat.{mul-le}
use Rattle.cal_dec.specs.Tens.{ten-pow-le}
use Rattle.cal_dec.proofs.scaling.bounded_multiple.Goals as goal

pub returns-then-places-gt27-clause-too_large : goal.returns-then-places-gt27-clause-too_large
returns-then-places-gt27-clause-too_large c =
    let high : 1 * 10 ^ 28 ≤ c.args.number * 10 ^ c.args.places = mul-le 1 (10 ^ 28) c.args.number (10 ^ c.args.places) (omega arith) (ten-pow-le 28 c.args.places (omega arith)) in
    (λ none. omega arith, λ large. refl)
