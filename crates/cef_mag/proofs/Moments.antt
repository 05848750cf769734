-- The signs of sums of parameters.
use Rattle.std.proofs.Common.{◌≡◌, ℕ, ◌/◌, arith, refl}
use Rattle.std.specs.Prelude.{ℤ, pos, negsuc, ◌≤ℤ◌, ◌<ℤ◌, unsigned_abs, min, max}
use Rattle.std.proofs.lemmas.Int.{ints, to_z-of_z}
use Rattle.cef_core.specs.Magnetism.{moment_of}
use Rattle.cef_mag.specs.Ranges.{moment_low, moment_high}

pub moment_at_least_0 : (factor : ℕ) (x : ℤ) → pos 0 ≤ℤ x → moment_of factor x ≡ unsigned_abs x
moment_at_least_0 factor (pos m) h = refl
moment_at_least_0 factor (negsuc m) h = absurd (omega (arith, ints))

pub moment_below_0 : (factor : ℕ) (x : ℤ) → x <ℤ pos 0 → moment_of factor x ≡ unsigned_abs x / factor
moment_below_0 factor (pos m) h = absurd (omega (arith, ints))
moment_below_0 factor (negsuc m) h = refl

pub ruleset moment_rules = (moment_at_least_0, moment_below_0, to_z-of_z)

pub low_at_least_0 : (factor : ℕ) (x y : ℤ) → pos 0 ≤ℤ x → moment_low factor x y ≡ unsigned_abs x
unfolding moment_low
low_at_least_0 factor (pos m) y h = refl
low_at_least_0 factor (negsuc m) y h = absurd (omega (arith, ints))

pub low_across : (factor : ℕ) (x y : ℤ) → x <ℤ pos 0 → pos 0 ≤ℤ y → moment_low factor x y ≡ 0
unfolding moment_low
low_across factor (pos m) y h k = absurd (omega (arith, ints))
low_across factor (negsuc m) (pos n) h k = refl
low_across factor (negsuc m) (negsuc n) h k = absurd (omega (arith, ints))

pub low_below_0 : (factor : ℕ) (x y : ℤ) → x <ℤ pos 0 → y <ℤ pos 0 → moment_low factor x y ≡ min (unsigned_abs x) (unsigned_abs y) / factor
unfolding moment_low
low_below_0 factor (pos m) y h k = absurd (omega (arith, ints))
low_below_0 factor (negsuc m) (pos n) h k = absurd (omega (arith, ints))
low_below_0 factor (negsuc m) (negsuc n) h k = refl

pub ruleset low_rules = (low_at_least_0, low_across, low_below_0, to_z-of_z)

pub high_at_least_0 : (factor : ℕ) (x y : ℤ) → pos 0 ≤ℤ y → moment_high factor x y ≡ max (unsigned_abs y) (moment_of factor x)
unfolding moment_high
high_at_least_0 factor x (pos n) h = refl
high_at_least_0 factor x (negsuc n) h = absurd (omega (arith, ints))

pub high_below_0 : (factor : ℕ) (x y : ℤ) → y <ℤ pos 0 → moment_high factor x y ≡ moment_of factor x
unfolding moment_high
high_below_0 factor x (pos n) h = absurd (omega (arith, ints))
high_below_0 factor x (negsuc n) h = refl

pub ruleset high_rules = (high_at_least_0, high_below_0, to_z-of_z)
