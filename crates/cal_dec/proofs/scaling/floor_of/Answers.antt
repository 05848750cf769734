use Rattle.std.proofs.Common.{◌≡◌, ℕ, suc, ◌<◌, ◌^◌, ap, sym, arith}
use Rattle.std.specs.Prelude.{ℤ, pos, negsuc, unsigned_abs, ◌<ℤ◌, ◌≤ℤ◌}
use Rattle.std.specs.Int.{int_div_euclid}
use Rattle.std.proofs.Math.Nat.{div-eq_of_lt}
use Rattle.std.proofs.lemmas.Int.{ints}
use Rattle.cal_dec.specs.Tens.{ten-pow-le}
use Rattle.cal_dec.proofs.scaling.floor_of.Goals as goal

floor_below : (m : ℤ) (p : ℕ) → unsigned_abs m < p → m <ℤ pos 0 → negsuc 0 ≡ int_div_euclid m (pos p)
floor_below (pos n) p small sign = absurd (omega (arith, ints))
floor_below (negsuc n) p small sign = ap negsuc (sym (div-eq_of_lt (below n p small)))
  where
    below : (n p : ℕ) → suc n < p → n < p
    below n p small = omega arith

floor_above : (m : ℤ) (p : ℕ) → unsigned_abs m < p → pos 0 ≤ℤ m → pos 0 ≡ int_div_euclid m (pos p)
floor_above (pos n) p small sign = ap pos (sym (div-eq_of_lt small))
floor_above (negsuc n) p small sign = absurd (omega (arith, ints))

pub returns-then-a-lt0-clause-floor : goal.returns-then-a-lt0-clause-floor
returns-then-a-lt0-clause-floor c =
    floor_below c.args.a.mantissa (10 ^ c.args.places) (omega (arith, c.args.a.bounded, ten-pow-le 18 c.args.places (omega arith))) (omega (arith, ints))

pub returns-else-a-lt0-clause-floor : goal.returns-else-a-lt0-clause-floor
returns-else-a-lt0-clause-floor c =
    floor_above c.args.a.mantissa (10 ^ c.args.places) (omega (arith, c.args.a.bounded, ten-pow-le 18 c.args.places (omega arith))) (omega (arith, ints))
