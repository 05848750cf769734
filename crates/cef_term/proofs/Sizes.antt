-- The sizes and the ends of factors and powers.
use Rattle.std.proofs.Common.{◌≡◌, ℕ, zero, suc, ◌+◌, ◌-◌, ◌*◌, ◌^◌, ◌%◌, ◌/◌, ◌<◌, ◌≤◌, List, [], ◌∷◌, length, arith, refl, ap, sym, ◌∙◌, subst}
use Rattle.std.specs.Prelude.{ℤ, pos, negsuc, ◌+ℤ◌, ◌-ℤ◌, ◌*ℤ◌, ◌≤ℤ◌, unsigned_abs, min, max}
use Rattle.std.proofs.lemmas.Int.{ints, unsigned_abs-mul}
use Rattle.std.proofs.lemmas.Nat.{mul-le}
use Rattle.std.proofs.Math.Nat.{mul-le-mul_left, pow-le-pow_left, pow-suc, pow-zero}
use Rattle.cal_math.specs.Whole.{*ℤ_assoc, abs-*ℤ-le}
use Rattle.cef_term.proofs.Values.{low_below, high_above, low_same, high_same, product_above, product_below, least_product_same, greatest_product_same, least_product_size, greatest_product_size}
use Rattle.cef_term.proofs.Powers.{power_even, power_odd, power_above, power_below}
use Rattle.cef_core.specs.Parameters.{power, product_of}
use Rattle.cef_box.specs.Terms.{IsBetween}
use Rattle.cef_term.specs.Bounds.{value_of, least_product, greatest_product, low_of, high_of, least_even, greatest_even, least_by, greatest_by, least_power, greatest_power}

pub factor_between : (micro : ℤ) (den k n l : ℕ) (least d greatest : ℤ) → 0 < den → k ≤ n → n ≤ l → least ≤ℤ d → d ≤ℤ greatest →
    IsBetween (low_of micro den (least_product k l least) (greatest_product k l greatest)) (value_of micro den (pos n *ℤ d)) (high_of micro den (least_product k l least) (greatest_product k l greatest))
factor_between micro den k n l least d greatest p kn nl ld dg =
    let a = product_above k n l least d kn nl ld in
    let b = product_below k n l greatest d kn nl dg in
    record { below = low_below micro den _ _ _ p a b; above = high_above micro den _ _ _ p a b }

pub factor_same : (micro : ℤ) (den k : ℕ) (d : ℤ) →
    (low_of micro den (least_product k k d) (greatest_product k k d) ≡ value_of micro den (pos k *ℤ d)) × (high_of micro den (least_product k k d) (greatest_product k k d) ≡ value_of micro den (pos k *ℤ d))
factor_same micro den k d = (rw (least_product_same k d, greatest_product_same k d) (low_same micro den (pos k *ℤ d)), rw (least_product_same k d, greatest_product_same k d) (high_same micro den (pos k *ℤ d)))

-- powers
pub power_size : (x : ℤ) (n v : ℕ) → unsigned_abs x ≤ n → unsigned_abs (power x v) ≤ n ^ v
power_size x n zero h = omega (arith, pow-zero n)
power_size x n (suc v) h = omega (arith, abs-*ℤ-le x (power x v) n (n ^ v) h (power_size x n v h), pow-suc n v)

even_size : (low high : ℤ) (n v : ℕ) → unsigned_abs low ≤ n → unsigned_abs high ≤ n → (least_even low high v ≤ n ^ v) × (greatest_even low high v ≤ n ^ v)
unfolding greatest_even least_even
even_size low high n v h k = (least low high h, omega (arith, pow-le-pow_left h v, pow-le-pow_left k v))
  where
    least : (low high : ℤ) → unsigned_abs low ≤ n → least_even low high v ≤ n ^ v
    least (pos a) high h = omega (arith, pow-le-pow_left h v)
    least (negsuc a) (pos b) h = omega arith
    least (negsuc a) (negsuc b) h = omega (arith, pow-le-pow_left h v)

by_size : (r : ℕ) (low high : ℤ) (n v : ℕ) → unsigned_abs low ≤ n → unsigned_abs high ≤ n → (unsigned_abs (least_by r low high v) ≤ n ^ v) × (unsigned_abs (greatest_by r low high v) ≤ n ^ v)
unfolding least_by greatest_by
by_size zero low high n v h k = even_size low high n v h k
by_size (suc r) low high n v h k = (power_size low n v h, power_size high n v k)

pub ends_size : (low high : ℤ) (n v : ℕ) → unsigned_abs low ≤ n → unsigned_abs high ≤ n → (unsigned_abs (least_power low high v) ≤ n ^ v) × (unsigned_abs (greatest_power low high v) ≤ n ^ v)
unfolding least_power greatest_power
ends_size low high n zero h k = (omega (arith, pow-zero n), omega (arith, pow-zero n))
ends_size low high n (suc u) h k = by_size (suc u % 2) low high n (suc u) h k

even_same : (x : ℤ) (v : ℕ) → (least_even x x v ≡ unsigned_abs x ^ v) × (greatest_even x x v ≡ unsigned_abs x ^ v)
unfolding least_even greatest_even
even_same (pos a) v = (omega arith, omega arith)
even_same (negsuc a) v = (omega arith, omega arith)

by_same : (r : ℕ) (x : ℤ) (v : ℕ) → v % 2 ≡ r → (least_by r x x v ≡ power x v) × (greatest_by r x x v ≡ power x v)
unfolding least_by greatest_by
by_same zero x v e = (ap pos (even_same x v).0 ∙ sym (power_even x (v / 2) v (omega arith)), ap pos (even_same x v).1 ∙ sym (power_even x (v / 2) v (omega arith)))
by_same (suc r) x v e = (refl, refl)

pub ends_same : (x : ℤ) (v : ℕ) → (least_power x x v ≡ power x v) × (greatest_power x x v ≡ power x v)
unfolding least_power greatest_power
ends_same x zero = (refl, refl)
ends_same x (suc u) = by_same (suc u % 2) x (suc u) refl
