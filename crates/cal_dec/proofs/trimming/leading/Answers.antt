use Rattle.std.proofs.Common.{◌≡◌, ◌/◌, ◌^◌, ap, sym, ◌∙◌, arith}
use Rattle.std.proofs.Math.Nat.{div-one}
use Rattle.cal_dec.specs.Decimals.{digits_over}
use Rattle.cal_dec.specs.Trimming.{digits_over_small, digits_over_large, digits_over-le, tenth_of}
use Rattle.cal_dec.proofs.trimming.leading.Goals as goal

pub digits-init : goal.digits-init
digits-init c = record {
  so_far = omega arith;
  left = sym (div-one c.args.number);
  few = digits_over-le 21 c.args.number (omega arith) (omega arith);
}

pub digits-smaller : goal.digits-smaller
digits-smaller c = omega (arith, digits_over_large c.digits.magnitude (omega arith) (omega arith))

pub digits-preserved : goal.digits-preserved
digits-preserved c = record {
  so_far = omega (arith, digits_over_large c.digits.magnitude (omega arith) (omega arith));
  left = ap (λ n. n / 10) c.digits.invariant.left ∙ tenth_of c.args.number c.digits.dropped;
  few = omega arith;
}

pub returns-clause-dropped : goal.returns-clause-dropped
returns-clause-dropped c = omega (arith, digits_over_small c.digits.magnitude (omega arith))

pub returns-clause-magnitude : goal.returns-clause-magnitude
returns-clause-magnitude c =
    let all : c.digits.dropped ≡ digits_over c.args.number = omega (arith, digits_over_small c.digits.magnitude (omega arith)) in
    c.digits.invariant.left ∙ ap (λ k. c.args.number / 10 ^ k) all
