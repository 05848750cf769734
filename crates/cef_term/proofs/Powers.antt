-- Powers of a difference over a range, and the laws of the three forms of a parameter.
use Rattle.std.proofs.Common.{◌≡◌, ℕ, zero, suc, ◌+◌, ◌-◌, ◌*◌, ◌^◌, ◌%◌, ◌/◌, ◌<◌, ◌≤◌, List, [], ◌∷◌, length, arith, refl, ap, sym, ◌∙◌, subst}
use Rattle.std.specs.Prelude.{ℤ, pos, negsuc, ◌+ℤ◌, ◌-ℤ◌, ◌*ℤ◌, ◌≤ℤ◌, unsigned_abs, min, max}
use Rattle.std.proofs.lemmas.Int.{ints, unsigned_abs-mul}
use Rattle.std.proofs.lemmas.Nat.{mul-le}
use Rattle.std.proofs.Math.Nat.{mul-le-mul_left, pow-le-pow_left, pow-suc, pow-zero}
use Rattle.cal_math.specs.Whole.{*ℤ_assoc, abs-*ℤ-le}
use Rattle.cef_term.proofs.Values.{low_below, high_above, low_same, high_same, value_size, low_size, high_size, product_above, product_below, least_product_same, greatest_product_same, least_product_size, greatest_product_size}
use Rattle.cef_core.specs.Parameters.{power, product_of}
use Rattle.cef_term.specs.Bounds.{value_of, least_product, greatest_product, low_of, high_of, least_even, greatest_even, least_by, greatest_by, least_power, greatest_power}

square_is : (x : ℤ) → x *ℤ x ≡ pos (unsigned_abs x * unsigned_abs x)
square_is (pos n) = refl
square_is (negsuc n) = omega (arith, ints)

twice_is : (x : ℤ) (p : ℕ) → x *ℤ (x *ℤ pos p) ≡ pos (unsigned_abs x * (unsigned_abs x * p))
twice_is x p = sym (*ℤ_assoc x x (pos p)) ∙ ap (λ z. z *ℤ pos p) (square_is x) ∙ ap pos (turned (unsigned_abs x) p)
  where
    turned : (a p : ℕ) → a * a * p ≡ a * (a * p)
    turned a p = omega arith

pub power_even : (x : ℤ) (h v : ℕ) → v ≡ h + h → power x v ≡ pos (unsigned_abs x ^ v)
power_even x zero zero e = ap pos (sym (pow-zero (unsigned_abs x)))
power_even x zero (suc v) e = absurd (omega arith)
power_even x (suc h) zero e = absurd (omega arith)
power_even x (suc h) (suc zero) e = absurd (omega arith)
power_even x (suc h) (suc (suc v)) e =
    ap (λ z. x *ℤ (x *ℤ z)) (power_even x h v (omega arith)) ∙ twice_is x (unsigned_abs x ^ v) ∙ ap pos (more (unsigned_abs x) v)
  where
    more : (a v : ℕ) → a * (a * a ^ v) ≡ a ^ suc (suc v)
    more a v = omega (arith, pow-suc a (suc v), pow-suc a v, ap (λ (n : ℕ). a * n) (pow-suc a v))

pub power_odd : (x : ℤ) (h v : ℕ) → v ≡ h + h → power x (suc v) ≡ x *ℤ pos (unsigned_abs x ^ v)
power_odd x h v e = ap (λ z. x *ℤ z) (power_even x h v e)

odd_mono : (x y : ℤ) (v : ℕ) → x ≤ℤ y → (x *ℤ pos (unsigned_abs x ^ v)) ≤ℤ (y *ℤ pos (unsigned_abs y ^ v))
odd_mono (pos a) (pos b) v h =
    let le : a ≤ b = omega (arith, ints) in
    omega (arith, ints, mul-le a (a ^ v) b (b ^ v) le (pow-le-pow_left le v))
odd_mono (negsuc a) (pos b) v h = omega (arith, ints)
odd_mono (pos a) (negsuc b) v h = absurd (omega (arith, ints))
odd_mono (negsuc a) (negsuc b) v h =
    let le : suc b ≤ suc a = omega (arith, ints) in
    omega (arith, ints, mul-le (suc b) (suc b ^ v) (suc a) (suc a ^ v) le (pow-le-pow_left le v))

pub power_mono : (x y : ℤ) (h v : ℕ) → v ≡ h + h → x ≤ℤ y → power x (suc v) ≤ℤ power y (suc v)
power_mono x y h v e le = rw (power_odd x h v e, power_odd y h v e) (odd_mono x y v le)

pub even_above : (low x high : ℤ) (v : ℕ) → low ≤ℤ x → x ≤ℤ high → least_even low high v ≤ unsigned_abs x ^ v
unfolding least_even
even_above (pos a) (pos n) high v h k = let le : a ≤ n = omega (arith, ints) in omega (arith, pow-le-pow_left le v)
even_above (pos a) (negsuc n) high v h k = absurd (omega (arith, ints))
even_above (negsuc a) x (pos b) v h k = omega arith
even_above (negsuc a) (pos n) (negsuc b) v h k = absurd (omega (arith, ints))
even_above (negsuc a) (negsuc n) (negsuc b) v h k = let le : suc b ≤ suc n = omega (arith, ints) in omega (arith, pow-le-pow_left le v)

pub even_below : (low x high : ℤ) (v : ℕ) → low ≤ℤ x → x ≤ℤ high → unsigned_abs x ^ v ≤ greatest_even low high v
unfolding greatest_even
even_below low (pos n) high v h k = let le : n ≤ unsigned_abs high = omega (arith, ints) in omega (arith, pow-le-pow_left le v)
even_below low (negsuc n) high v h k = let le : suc n ≤ unsigned_abs low = omega (arith, ints) in omega (arith, pow-le-pow_left le v)

by_above : (r : ℕ) (low x high : ℤ) (u : ℕ) → suc u % 2 ≡ r → low ≤ℤ x → x ≤ℤ high → least_by r low high (suc u) ≤ℤ power x (suc u)
unfolding least_by
by_above zero low x high u e h k = rw (power_even x (suc u / 2) (suc u) (omega arith)) (omega (arith, ints, even_above low x high (suc u) h k))
by_above (suc r) low x high u e h k = power_mono low x (u / 2) u (omega arith) h

by_below : (r : ℕ) (low x high : ℤ) (u : ℕ) → suc u % 2 ≡ r → low ≤ℤ x → x ≤ℤ high → power x (suc u) ≤ℤ greatest_by r low high (suc u)
unfolding greatest_by
by_below zero low x high u e h k = rw (power_even x (suc u / 2) (suc u) (omega arith)) (omega (arith, ints, even_below low x high (suc u) h k))
by_below (suc r) low x high u e h k = power_mono x high (u / 2) u (omega arith) k

pub power_above : (low x high : ℤ) (v : ℕ) → low ≤ℤ x → x ≤ℤ high → least_power low high v ≤ℤ power x v
unfolding least_power
power_above low x high zero h k = omega (arith, ints)
power_above low x high (suc u) h k = by_above (suc u % 2) low x high u refl h k

pub power_below : (low x high : ℤ) (v : ℕ) → low ≤ℤ x → x ≤ℤ high → power x v ≤ℤ greatest_power low high v
unfolding greatest_power
power_below low x high zero h k = omega (arith, ints)
power_below low x high (suc u) h k = by_below (suc u % 2) low x high u refl h k
