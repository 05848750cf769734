-- The quotient by a number that divides.
use Rattle.std.proofs.Common.{◌≡◌, zero, suc, ◌<◌, arith, ap}
use Rattle.std.specs.Prelude.{ℤ, pos, negsuc, ◌-ℤ◌, ◌*ℤ◌, ◌≤ℤ◌, unsigned_abs}
use Rattle.std.specs.Int.RustNames.{int_div, int_rem}
use Rattle.std.proofs.lemmas.Int.{ints, unsigned_abs-mul, quot-rem, rem_below}
use Rattle.std.proofs.lemmas.Nat.{mul-le}
use Rattle.cal_math.specs.Whole.{*ℤ--ℤ, *ℤ_comm}

zero_multiple : (d u r : ℤ) → d *ℤ u ≡ r → unsigned_abs r < unsigned_abs d → r ≡ pos 0
zero_multiple d (pos zero) r e h = omega (arith, ints, e)
zero_multiple d (pos (suc n)) r e h = absurd (omega (arith, ap unsigned_abs e, unsigned_abs-mul d (pos (suc n)), mul-le (unsigned_abs d) 1 (unsigned_abs d) (suc n) (omega arith) (omega arith)))
zero_multiple d (negsuc n) r e h = absurd (omega (arith, ap unsigned_abs e, unsigned_abs-mul d (negsuc n), mul-le (unsigned_abs d) 1 (unsigned_abs d) (suc n) (omega arith) (omega arith)))

pub quotient_exact : (a d t : ℤ) → pos 1 ≤ℤ d → d *ℤ t ≡ a → d *ℤ int_div a d ≡ a
quotient_exact a d t h e =
    let some : 0 < unsigned_abs d = omega (arith, ints) in
    let rest : d *ℤ (t -ℤ int_div a d) ≡ int_rem a d = omega (arith, ints, *ℤ--ℤ d t (int_div a d), e, quot-rem a d, *ℤ_comm (int_div a d) d) in
    let none : int_rem a d ≡ pos 0 = zero_multiple d (t -ℤ int_div a d) (int_rem a d) rest (rem_below a d some) in
    omega (arith, ints, quot-rem a d, *ℤ_comm (int_div a d) d, none)
