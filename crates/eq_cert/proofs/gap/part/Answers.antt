use Rattle.std.proofs.Common.{◌≡◌, SFits, rules}
use Rattle.std.specs.Prelude.{pos, ◌+ℤ◌, ◌*ℤ◌}
use Rattle.std.specs.Int.{w128}
use Rattle.std.proofs.lemmas.Int.{to_z-of_z}
use Rattle.eq_cert.proofs.Halves.{halves_times}
use Rattle.eq_cert.proofs.gap.part.Goals as goal

pub returns-clause-exact : goal.returns-clause-exact
returns-clause-exact c =
    let fits_potential = c.ranges.potential in
    let fits_total = c.ranges.total in
    let fits_high : SFits w128 c.halved-halves.result.high = search rules in
    let fits_low : SFits w128 c.halved-halves.result.low = search rules in
    let fits_first : SFits w128 c.product.result = search rules in
    let fits_second : SFits w128 c.product-2.result = search rules in
    let is : c.args.potential ≡ pos 1152921504606846976 *ℤ c.halved-halves.result.high +ℤ c.halved-halves.result.low = simp to_z-of_z at c.halved-halves.ensures.exact in
    let first : c.product.result ≡ c.halved-halves.result.high *ℤ c.args.total = simp to_z-of_z at c.product.ensures.exact in
    let second : c.product-2.result ≡ c.halved-halves.result.low *ℤ c.args.total = simp to_z-of_z at c.product-2.ensures.exact in
    simp to_z-of_z (halves_times (pos 1152921504606846976) c.halved-halves.result.high c.halved-halves.result.low c.args.potential c.args.total c.product.result c.product-2.result is first second)
