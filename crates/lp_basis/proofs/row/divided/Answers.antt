use Rattle.std.proofs.Common.{rules, ◌≡◌, pos, slice_index_or, SFits, ◌*ℤ◌}
use Rattle.std.specs.Int.{w128}
use Rattle.std.proofs.lemmas.Int.{to_z-of_z}
use Rattle.cal_math.specs.Vectors.{at}
use Rattle.lp_basis.proofs.Lists.{each_pushed}
use Rattle.lp_basis.proofs.row.divided.Goals as goal

pub exact_quotient-number-requires-clause-divides : goal.exact_quotient-number-requires-clause-divides
exact_quotient-number-requires-clause-divides c =
    let fits_d = c.ranges.d in
    let fits_row : SFits w128 (slice_index_or c.args.row.now c.divide.i (pos 0)) = search rules in
    simp to_z-of_z (c.requires.divides c.divide.i c.divide-test.true)

pub divide-preserved : goal.divide-preserved
divide-preserved c =
    let fits_d = c.ranges.d in
    let fits_row : SFits w128 (slice_index_or c.args.row.now c.divide.i (pos 0)) = search rules in
    let fits : SFits w128 c.exact_quotient-number.result = search rules in
    let is = simp to_z-of_z at c.exact_quotient-number.ensures in
    let items = simp to_z-of_z at c.in_ok-push.ensures.items in
    record {
      sized = search rules;
      exact = simp to_z-of_z (each_pushed (λ b v. c.args.d *ℤ v ≡ at c.args.row.now b) c.divide.numbers.items c.push.new.self.items c.exact_quotient-number.result c.divide.i c.divide.invariant.sized items
          (simp to_z-of_z at c.divide.invariant.exact) is);
    }
