use Rattle.std.proofs.Common.{length, arith}
use Rattle.std.proofs.lemmas.Int.{ints, to_z-of_z}
use Rattle.cal_math.specs.Vectors.{at}
use Rattle.lp_basis.proofs.Summing.{IsSummed-from, small_sum}
use Rattle.lp_basis.proofs.potential.added.Goals as goal

pub nonzero_div-least : goal.nonzero_div-least
nonzero_div-least c =
    let fits_cost = c.ranges.cost in
    let are = simp to_z-of_z at c.in_ok-parts.ensures.every in
    let is = rw c.deref.ensures.value at c.common_divisor-divisor.ensures in
    (small_sum c.args.numbers.now c.args.row.now c.args.denominator c.args.own c.args.cost c.in_ok-parts.parts.items c.common_divisor-divisor.result c.requires c.in_ok-parts.ensures.sized are is).0

pub numbers_of-requires-clause-divisor : goal.numbers_of-requires-clause-divisor
numbers_of-requires-clause-divisor c =
    let fits_cost = c.ranges.cost in
    let are = simp to_z-of_z at c.in_ok-parts.ensures.every in
    let is = rw c.deref.ensures.value at c.common_divisor-divisor.ensures in
    (small_sum c.args.numbers.now c.args.row.now c.args.denominator c.args.own c.args.cost c.in_ok-parts.parts.items c.common_divisor-divisor.result c.requires c.in_ok-parts.ensures.sized are is).0

pub numbers_of-requires-clause-denominator_small : goal.numbers_of-requires-clause-denominator_small
numbers_of-requires-clause-denominator_small c =
    let fits_cost = c.ranges.cost in
    let are = simp to_z-of_z at c.in_ok-parts.ensures.every in
    let is = rw c.deref.ensures.value at c.common_divisor-divisor.ensures in
    (small_sum c.args.numbers.now c.args.row.now c.args.denominator c.args.own c.args.cost c.in_ok-parts.parts.items c.common_divisor-divisor.result c.requires c.in_ok-parts.ensures.sized are is).1

pub numbers_of-requires-clause-fit : goal.numbers_of-requires-clause-fit
numbers_of-requires-clause-fit c =
    let fits_cost = c.ranges.cost in
    let are = simp to_z-of_z at c.in_ok-parts.ensures.every in
    let is = rw c.deref.ensures.value at c.common_divisor-divisor.ensures in
    rw c.deref-2.ensures.value (small_sum c.args.numbers.now c.args.row.now c.args.denominator c.args.own c.args.cost c.in_ok-parts.parts.items c.common_divisor-divisor.result c.requires c.in_ok-parts.ensures.sized are is).2

pub returns-clause-summed : goal.returns-clause-summed
returns-clause-summed c =
    let fits_cost = c.ranges.cost in
    let are = simp to_z-of_z at c.in_ok-parts.ensures.every in
    let is = rw (c.deref.ensures.value, c.in_ok-parts.ensures.sized) at c.common_divisor-divisor.ensures in
    let numbers = rw (c.deref-2.ensures.value, c.in_ok-parts.ensures.sized) at c.in_ok-sums.ensures.every in
    IsSummed-from (length c.args.numbers.now) c.args.numbers.now c.args.row.now c.args.denominator c.args.own c.args.cost c.in_ok-parts.parts.items c.common_divisor-divisor.result (at c.in_ok-sums.sums.items) c.requires.d_some (omega (arith, ints, c.requires.own_some)) are is numbers
