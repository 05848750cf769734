-- A parameter's value lies between its low and its high.
use Rattle.std.proofs.Common.{◌≡◌, ℕ, zero, suc, ◌+◌, ◌*◌, ◌^◌, ◌<◌, ◌≤◌, ◌/◌, arith, refl, ap, sym, ◌∙◌, subst}
use Rattle.std.specs.Prelude.{ℤ, pos, negsuc, ◌+ℤ◌, ◌-ℤ◌, ◌*ℤ◌, ◌≤ℤ◌, ◌<ℤ◌, unsigned_abs, neg_ℤ}
use Rattle.std.specs.Int.{int_div_euclid}
use Rattle.std.proofs.lemmas.Int.{ints, unsigned_abs-mul}
use Rattle.std.proofs.lemmas.Nat.{mul-le, le-div, div-add-mod', div_below}
use Rattle.std.proofs.Math.Nat.{mul-le-mul_left, mul-le-mul_right, pow-le-pow_left, one-le-pow, pow-suc, pow-zero}
use borrow.Author.Differences.{up, down, le_out}
use Rattle.cal_math.specs.Whole.{floor-le, le-floor, pos-*ℤ-≤, *ℤ-≤, *ℤ_assoc, abs-*ℤ-le}
use Rattle.cef_core.specs.Parameters.{power}
use Rattle.cef_term.specs.Bounds.{value_of, least_product, greatest_product, low_of, high_of, least_even, greatest_even}

pub floor_mono : (a b : ℤ) (d : ℕ) → 0 < d → a ≤ℤ b → int_div_euclid a (pos d) ≤ℤ int_div_euclid b (pos d)
floor_mono a b d p h = le-floor (int_div_euclid a (pos d)) b (pos d) (omega (arith, ints)) (omega (arith, ints, floor-le a (pos d) (omega (arith, ints))))

pub negsuc-*ℤ-≤ : (m : ℕ) (a b : ℤ) → a ≤ℤ b → (negsuc m *ℤ b) ≤ℤ (negsuc m *ℤ a)
negsuc-*ℤ-≤ m a b h = omega (arith, ints, mul-le-mul_left (suc m) (le_out a b h))

-- a number from 0 to n has a floor of at most n, and one below 0 a floor of at least -n
pub floor_size : (a : ℤ) (m d : ℕ) → 0 < d → unsigned_abs a ≤ m * d → unsigned_abs (int_div_euclid a (pos d)) ≤ m
floor_size (pos a) m d p h = quot_le a m d p h
  where
    quot_le : (a m d : ℕ) → 0 < d → a ≤ m * d → a / d ≤ m
    quot_le a m d p h = let lt : a / d < suc m = div_below a d (suc m) p (omega arith) in omega arith
floor_size (negsuc a) m d p h = quot_lt a m d p h
  where
    quot_lt : (a m d : ℕ) → 0 < d → suc a ≤ m * d → suc (a / d) ≤ m
    quot_lt a m d p h = div_below a d m p h

-- the value for each q of a range
pub value_size : (micro q : ℤ) (den : ℕ) → 0 < den → unsigned_abs q ≤ den → unsigned_abs (value_of micro den q) ≤ unsigned_abs micro
unfolding value_of
value_size micro q den p h = floor_size (micro *ℤ q) (unsigned_abs micro) den p (rw (unsigned_abs-mul micro q) (mul-le-mul_left (unsigned_abs micro) h))

pub low_below : (micro : ℤ) (den : ℕ) (least q greatest : ℤ) → 0 < den → least ≤ℤ q → q ≤ℤ greatest → low_of micro den least greatest ≤ℤ value_of micro den q
unfolding low_of value_of
low_below (pos m) den least q greatest p h k = floor_mono _ _ den p (pos-*ℤ-≤ m least q h)
low_below (negsuc m) den least q greatest p h k = floor_mono _ _ den p (negsuc-*ℤ-≤ m q greatest k)

pub high_above : (micro : ℤ) (den : ℕ) (least q greatest : ℤ) → 0 < den → least ≤ℤ q → q ≤ℤ greatest → value_of micro den q ≤ℤ high_of micro den least greatest
unfolding high_of value_of
high_above (pos m) den least q greatest p h k = floor_mono _ _ den p (pos-*ℤ-≤ m q greatest k)
high_above (negsuc m) den least q greatest p h k = floor_mono _ _ den p (negsuc-*ℤ-≤ m least q h)

pub low_size : (micro : ℤ) (den : ℕ) (least greatest : ℤ) → 0 < den → unsigned_abs least ≤ den → unsigned_abs greatest ≤ den → unsigned_abs (low_of micro den least greatest) ≤ unsigned_abs micro
unfolding low_of
low_size (pos m) den least greatest p h k = value_size (pos m) least den p h
low_size (negsuc m) den least greatest p h k = value_size (negsuc m) greatest den p k

pub high_size : (micro : ℤ) (den : ℕ) (least greatest : ℤ) → 0 < den → unsigned_abs least ≤ den → unsigned_abs greatest ≤ den → unsigned_abs (high_of micro den least greatest) ≤ unsigned_abs micro
unfolding high_of
high_size (pos m) den least greatest p h k = value_size (pos m) greatest den p k
high_size (negsuc m) den least greatest p h k = value_size (negsuc m) least den p h

pub low_same : (micro : ℤ) (den : ℕ) (q : ℤ) → low_of micro den q q ≡ value_of micro den q
unfolding low_of
low_same (pos m) den q = refl
low_same (negsuc m) den q = refl

pub high_same : (micro : ℤ) (den : ℕ) (q : ℤ) → high_of micro den q q ≡ value_of micro den q
unfolding high_of
high_same (pos m) den q = refl
high_same (negsuc m) den q = refl

-- the range of a product
pub product_above : (k n l : ℕ) (d x : ℤ) → k ≤ n → n ≤ l → d ≤ℤ x → least_product k l d ≤ℤ (pos n *ℤ x)
unfolding least_product
product_above k n l (pos d) x kn nl dx = omega (arith, ints, pos-*ℤ-≤ n (pos d) x dx, mul-le-mul_right d kn)
product_above k n l (negsuc d) x kn nl dx = omega (arith, ints, pos-*ℤ-≤ n (negsuc d) x dx, mul-le-mul_right (suc d) nl)

pub product_below : (k n l : ℕ) (d x : ℤ) → k ≤ n → n ≤ l → x ≤ℤ d → (pos n *ℤ x) ≤ℤ greatest_product k l d
unfolding greatest_product
product_below k n l (pos d) x kn nl xd = omega (arith, ints, pos-*ℤ-≤ n x (pos d) xd, mul-le-mul_right d nl)
product_below k n l (negsuc d) x kn nl xd = omega (arith, ints, pos-*ℤ-≤ n x (negsuc d) xd, mul-le-mul_right (suc d) kn)

pub least_product_same : (k : ℕ) (d : ℤ) → least_product k k d ≡ pos k *ℤ d
unfolding least_product
least_product_same k (pos d) = refl
least_product_same k (negsuc d) = refl

pub greatest_product_same : (k : ℕ) (d : ℤ) → greatest_product k k d ≡ pos k *ℤ d
unfolding greatest_product
greatest_product_same k (pos d) = refl
greatest_product_same k (negsuc d) = refl

pub least_product_size : (k l m e : ℕ) (d : ℤ) → k ≤ m → l ≤ m → unsigned_abs d ≤ e → unsigned_abs (least_product k l d) ≤ m * e
unfolding least_product
least_product_size k l m e (pos d) hk hl hd = abs-*ℤ-le (pos k) (pos d) m e hk hd
least_product_size k l m e (negsuc d) hk hl hd = abs-*ℤ-le (pos l) (negsuc d) m e hl hd

pub greatest_product_size : (k l m e : ℕ) (d : ℤ) → k ≤ m → l ≤ m → unsigned_abs d ≤ e → unsigned_abs (greatest_product k l d) ≤ m * e
unfolding greatest_product
greatest_product_size k l m e (pos d) hk hl hd = abs-*ℤ-le (pos l) (pos d) m e hl hd
greatest_product_size k l m e (negsuc d) hk hl hd = abs-*ℤ-le (pos k) (negsuc d) m e hk hd
