use Rattle.std.proofs.Common.{rules, length, SFits, ◌*ℤ◌}
use Rattle.std.specs.Int.{w128}
use Rattle.std.proofs.lemmas.Int.{to_z-of_z}
use Rattle.lp_basis.proofs.Next.{some_small, own_divides, IsNext-from}
use Rattle.cal_math.specs.Vectors.{at, dot}
use Rattle.lp_basis.proofs.basis.next_row.Goals as goal

pub divisor_of-all-requires : goal.divisor_of-all-requires
divisor_of-all-requires c =
    let fits_p = c.ranges.p in
    let fits_q = c.ranges.q in
    let is = simp to_z-of_z at c.in_ok-numbers.ensures.exact in
    rw c.deref.ensures.value (some_small _ _ c.args.p c.args.row.now c.args.own c.args.q c.args.mine.now c.in_ok-numbers.numbers.items c.requires.fits.2 c.requires.keeps c.in_ok-numbers.ensures.sized is)

pub divided-requires-clause-divides : goal.divided-requires-clause-divides
divided-requires-clause-divides c =
    let fits : SFits w128 c.divisor_of-all.result = search rules in
    let divides = rw c.deref.ensures.value at c.divisor_of-all.ensures.divides in
    simp (to_z-of_z, c.deref-2.ensures.value) divides

pub exact_quotient-own-requires-clause-divides : goal.exact_quotient-own-requires-clause-divides
exact_quotient-own-requires-clause-divides c =
    let fits_p = c.ranges.p in
    let fits_q = c.ranges.q in
    let fits_own = c.ranges.own in
    let fits : SFits w128 c.divisor_of-all.result = search rules in
    let fits_all : SFits w128 c.times-all_of.result = search rules in
    let fits_product : SFits w128 (c.args.p *ℤ c.args.own) = c.requires.own_fits in
    let is = simp to_z-of_z at c.in_ok-numbers.ensures.exact in
    let all_is = simp to_z-of_z at c.times-all_of.ensures in
    let parts = simp (to_z-of_z, c.deref-2.ensures.value, c.in_ok-numbers.ensures.sized) at c.in_ok-less.ensures.exact in (
      dot (length c.args.row.now) (at c.in_ok-less.less.items) c.requires.keeps.column,
      simp (to_z-of_z, all_is) (own_divides c.args.p c.args.row.now c.args.own c.args.q c.args.mine.now c.in_ok-numbers.numbers.items c.in_ok-less.less.items c.divisor_of-all.result c.requires.keeps is parts),
    )

pub returns-clause-exact : goal.returns-clause-exact
returns-clause-exact c =
    let fits_p = c.ranges.p in
    let fits_q = c.ranges.q in
    let fits_own = c.ranges.own in
    let fits : SFits w128 c.divisor_of-all.result = search rules in
    let fits_all : SFits w128 c.times-all_of.result = search rules in
    let fits_product : SFits w128 (c.args.p *ℤ c.args.own) = c.requires.own_fits in
    let fits_next : SFits w128 c.exact_quotient-own.result = search rules in
    let is = simp to_z-of_z at c.in_ok-numbers.ensures.exact in
    let all_is = simp to_z-of_z at c.times-all_of.ensures in
    let greatest = rw c.deref.ensures.value at c.divisor_of-all.ensures.greatest in
    let parts = simp (to_z-of_z, c.deref-2.ensures.value) at c.in_ok-less.ensures.exact in
    let own_is = simp (to_z-of_z, all_is) at c.exact_quotient-own.ensures in
    simp to_z-of_z (IsNext-from c.args.p c.args.row.now c.args.own c.args.q c.args.mine.now c.in_ok-numbers.numbers.items c.in_ok-less.less.items c.divisor_of-all.result c.exact_quotient-own.result
    c.requires.keeps c.in_ok-numbers.ensures.sized is c.divisor_of-all.ensures.positive greatest parts own_is)
