use Rattle.std.proofs.Common.{ℕ, zero, suc, ◌*◌, ◌<◌, ◌^◌, ◌↔◌, arith}
use Rattle.std.specs.Prelude.{IsTrue, nat_eq}
use Rattle.std.proofs.lemmas.Bool.Decides.{nat_tests}
use Rattle.cal_dec.specs.Tens.{ten-pow-le}
use Rattle.cal_dec.proofs.scaling.below_fraction.Goals as goal

far : (t p m : ℕ) → 0 < m → m < p → IsTrue (nat_eq t 0) ↔ (t * p < m)
far zero p m above small = (λ is. omega arith, λ less. grind (arith, nat_tests))
far (suc t) p m above small = (λ is. absurd (grind (arith, nat_tests)), λ less. absurd (omega arith))

pub returns-else-places-lt18 : goal.returns-else-places-lt18
returns-else-places-lt18 c =
    far c.args.t (10 ^ c.args.places) c.args.mantissa c.requires.above (omega (arith, ten-pow-le 18 c.args.places (omega arith)))
