use Rattle.std.proofs.Common.{rules, arith, ◌≡◌, ◌*◌, ◌+◌, ◌^◌, ◌≤◌, ◌-◌, min, length}
use Rattle.cal_job.specs.declared.number.TheConstants.{CAP}
use Rattle.cal_job.proofs.Capping.{product_small, units_capped}
use Rattle.cal_job.proofs.number.in_units.Goals as goal

pub overflow_add-whole_units : goal.overflow_add-whole_units
overflow_add-whole_units c =
    let first : c.capped_value.result * c.pow.result ≤ CAP * 10 ^ 9 = rw c.pow.ensures (product_small c.capped_value.result c.args.places _ c.requires.places c.capped_value.ensures) in
    let second : c.capped_value-2.result * c.pow-2.result ≤ CAP * 10 ^ 9 = rw c.pow-2.ensures (product_small c.capped_value-2.result _ _ (omega (arith, c.requires.places)) c.capped_value-2.ensures) in
    omega (arith, first, second)

pub returns : goal.returns
returns c =
    let is : c.min.result ≡ min CAP (c.capped_value.result * 10 ^ c.args.places + c.capped_value-2.result * 10 ^ (c.args.places - length c.args.fraction.now)) = search rules in
    units_capped c.args.places c.args.whole.now c.args.fraction.now c.capped_value.result c.capped_value-2.result c.min.result c.capped_value.ensures c.capped_value-2.ensures is
