use Rattle.std.proofs.Common.{length, arith, rules, SFits, slice_index_or}
use Rattle.std.specs.Prelude.{pos, ◌+ℤ◌, ◌≤ℤ◌}
use Rattle.std.specs.Int.{w128}
use Rattle.std.proofs.lemmas.Int.{ints, to_z-of_z}
use Rattle.cal_math.specs.Vectors.{at, sum_to}
use Rattle.lp_basis.proofs.Products.{sum_part}
use Rattle.lp_basis.proofs.column.sum_of.Goals as goal

pub returns-then-sum-gt-LIMIT : goal.returns-then-sum-gt-LIMIT
returns-then-sum-gt-LIMIT c sum is =
    let fits : SFits w128 (slice_index_or c.args.amounts.now c.sum.c (pos 0)) = search rules in
    let part : (sum_to c.sum.c (at c.args.amounts.now) +ℤ at c.args.amounts.now c.sum.c) ≤ℤ sum_to (length c.args.amounts.now) (at c.args.amounts.now) = sum_part (length c.args.amounts.now) c.sum.c (at c.args.amounts.now) is.least c.sum-test.true in
    let more = simp to_z-of_z at c.if-sum-gt-LIMIT.true in
    omega (arith, ints, part, is.exact, is.most, c.sum.invariant.exact, more, is.least c.sum.c)
