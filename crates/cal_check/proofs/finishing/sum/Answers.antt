use Rattle.std.proofs.Common.{◌≡◌, ◌≤◌, ◌*◌, ◌^◌, ap, ◌∙◌, ℕ, pos, rules, SFits, arith, slice_index_or}
use Rattle.std.specs.Prelude.{unsigned_abs}
use Rattle.std.specs.Int.{w128}
use Rattle.std.proofs.lemmas.Int.{ints, to_z-of_z}
use Rattle.cal_math.specs.Vectors.{at}
use Rattle.cal_check.proofs.Numbers.{sum_of-counted, pos-abs}
use Rattle.cal_check.proofs.finishing.sum.Goals as goal

pub numbers-preserved : goal.numbers-preserved
numbers-preserved c =
    let i = c.numbers.number-index in
    let fits : SFits w128 (slice_index_or c.args.numbers.now c.numbers.number-index (pos 0)) = search rules in
    let size : c.unsigned_abs-all.result ≡ unsigned_abs (slice_index_or c.args.numbers.now c.numbers.number-index (pos 0)) = simp to_z-of_z at c.unsigned_abs-all.ensures.value in
    let same : pos c.unsigned_abs-all.result ≡ at c.args.numbers.now i = ap pos size ∙ pos-abs (at c.args.numbers.now i) (c.requires.modest.low i) in
    let high = c.requires.modest.high i in
    record {
      is = sum_of-counted c.args.numbers.now i c.unsigned_abs-all.result c.numbers.all c.numbers-test.true same c.numbers.invariant.is;
      high = omega (arith, ints, same, high, c.numbers.invariant.high);
    }
