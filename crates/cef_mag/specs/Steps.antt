-- Each step of magnetism rises, or falls, with what it is made of.
use Rattle.std.proofs.Common.{ℕ, ◌+◌, ◌-◌, ◌*◌, ◌/◌, ◌<◌, ◌≤◌, arith}
use Rattle.std.specs.Prelude.{ℤ, pos, ◌-ℤ◌, ◌≤ℤ◌}
use Rattle.std.specs.Int.{int_div_euclid}
use Rattle.std.proofs.lemmas.Int.{ints}
use Rattle.std.proofs.lemmas.Nat.{mul-le, le-div, div-add-mod'}
use Rattle.std.proofs.Math.Nat.{mul-le-mul_left}
use Rattle.cal_limits.specs.declared.TheConstants.{GAS_CONSTANT}
use Rattle.cal_math.specs.Whole.{pos-*ℤ-≤, floor-le, le-floor}
use Rattle.cef_core.specs.Magnetism.{scaled, cubed, fifth, squared_into, theta_over_t, t_over_theta, norm_of, linear_part, series_below, series_part, g_below, series_above, g_above}
use Rattle.cef_mag.specs.Ranges.{u_of}

pub quotient_rises : (a b d : ℕ) → 0 < d → a ≤ b → a / d ≤ b / d
quotient_rises a b d p h = le-div (a / d) b d p (omega (arith, div-add-mod' a d))

pub quotient_falls : (a c d : ℕ) → 0 < c → c ≤ d → a / d ≤ a / c
quotient_falls a c d p h = le-div (a / d) a c p (omega (arith, div-add-mod' a d, mul-le-mul_left (a / d) h))

pub floor_rises : (a b : ℤ) (d : ℕ) → 0 < d → a ≤ℤ b → int_div_euclid a (pos d) ≤ℤ int_div_euclid b (pos d)
floor_rises a b d p h =
    le-floor (int_div_euclid a (pos d)) b (pos d) (omega (arith, ints)) (omega (arith, ints, floor-le a (pos d) (omega (arith, ints))))

scaled_rises : (x y m n : ℕ) → x ≤ m → y ≤ n → scaled x y ≤ scaled m n
scaled_rises x y m n h k = quotient_rises (x * y) (m * n) 1000000000 (omega arith) (mul-le x y m n h k)

squared_into_rises : (y x n m : ℕ) → y ≤ n → x ≤ m → squared_into y x ≤ squared_into n m
squared_into_rises y x n m h k = scaled_rises (scaled y x) x (scaled n m) m (scaled_rises y x n m h k) k

cubed_rises : (x m : ℕ) → x ≤ m → cubed x ≤ cubed m
cubed_rises x m h = squared_into_rises x x m m h h

fifth_rises : (x m : ℕ) → x ≤ m → fifth x ≤ fifth m
fifth_rises x m h = squared_into_rises (cubed x) x (cubed m) m (cubed_rises x m h) h

pub theta_over_t-rises : (t theta more : ℕ) → 0 < t → theta ≤ more → theta_over_t t theta ≤ theta_over_t t more
theta_over_t-rises t theta more p h = quotient_rises (1000000000 * theta) (1000000000 * more) (10000 * t) (omega arith) (omega arith)

pub t_over_theta-falls : (t theta more : ℕ) → 0 < theta → theta ≤ more → t_over_theta t more ≤ t_over_theta t theta
t_over_theta-falls t theta more p h = quotient_falls (10000000000000 * t) theta more p h

pub norm_some : (p4 : ℕ) → 460444444 ≤ norm_of p4
norm_some p4 = some_more (11692 * 1000000000 * (10000 - p4) / (15975 * p4))
  where
    some_more : (n : ℕ) → 460444444 ≤ 518 * 1000000000 / 1125 + n
    some_more n = omega arith

three_shares_rise : (a b c x y z i j k : ℕ) → (0 < i) × (0 < j) × (0 < k) → a ≤ x → b ≤ y → c ≤ z → a / i + b / j + c / k ≤ x / i + y / j + z / k
three_shares_rise a b c x y z i j k p ha hb hc =
    sum _ _ _ _ _ _ (quotient_rises a x i p.0 ha) (quotient_rises b y j p.1 hb) (quotient_rises c z k p.2 hc)
  where
    sum : (a b c x y z : ℕ) → a ≤ x → b ≤ y → c ≤ z → a + b + c ≤ x + y + z
    sum a b c x y z ha hb hc = omega arith

linear_part_rises : (p4 w m : ℕ) → 0 < p4 → w ≤ m → linear_part p4 w ≤ linear_part p4 m
linear_part_rises p4 w m p h = quotient_rises (79 * w * 10000) (79 * m * 10000) (140 * p4) (omega arith) (omega arith)

pub series_below-rises : (v m : ℕ) → v ≤ m → series_below v ≤ series_below m
series_below-rises v m h =
    let h3 : cubed v ≤ cubed m = cubed_rises v m h in
    let h9 : squared_into (cubed v) (cubed v) ≤ squared_into (cubed m) (cubed m) = squared_into_rises _ _ _ _ h3 h3 in
    let h15 : squared_into (squared_into (cubed v) (cubed v)) (cubed v) ≤ squared_into (squared_into (cubed m) (cubed m)) (cubed m) = squared_into_rises _ _ _ _ h9 h3 in
    three_shares_rise _ _ _ _ _ _ 6 135 600 (omega arith, omega arith, omega arith) h3 h9 h15

pub series_above-rises : (w m : ℕ) → w ≤ m → series_above w ≤ series_above m
series_above-rises w m h =
    let h5 : fifth w ≤ fifth m = fifth_rises w m h in
    let h15 : squared_into (fifth w) (fifth w) ≤ squared_into (fifth m) (fifth m) = squared_into_rises _ _ _ _ h5 h5 in
    let h25 : squared_into (squared_into (fifth w) (fifth w)) (fifth w) ≤ squared_into (squared_into (fifth m) (fifth m)) (fifth m) = squared_into_rises _ _ _ _ h15 h5 in
    three_shares_rise _ _ _ _ _ _ 10 315 1500 (omega arith, omega arith, omega arith) h5 h15 h25

series_part_rises : (p4 v m : ℕ) → 0 < p4 → v ≤ m → series_part p4 v ≤ series_part p4 m
series_part_rises p4 v m p h =
    quotient_rises (474 * (10000 - p4) * series_below v) (474 * (10000 - p4) * series_below m) (497 * p4) (omega arith) (mul-le-mul_left (474 * (10000 - p4)) (series_below-rises v m h))

-- a number less the share of another falls with the latter
less_falls : (c x m a : ℕ) → 0 < a → x ≤ m → (pos c -ℤ pos (1000000000 * m / a)) ≤ℤ (pos c -ℤ pos (1000000000 * x / a))
less_falls c x m a p h = less c _ _ (quotient_rises (1000000000 * x) (1000000000 * m) a p (mul-le-mul_left 1000000000 h))
  where
    less : (c x m : ℕ) → x ≤ m → (pos c -ℤ pos m) ≤ℤ (pos c -ℤ pos x)
    less c x m h = omega (arith, ints)

some_norm : (p4 : ℕ) → 0 < norm_of p4
some_norm p4 = more _ (norm_some p4)
  where
    more : (n : ℕ) → 460444444 ≤ n → 0 < n
    more n h = omega arith

-- g rises neither in w nor in v
pub g_below-falls : (p4 w v m n : ℕ) → 0 < p4 → w ≤ m → v ≤ n → g_below p4 m n ≤ℤ g_below p4 w v
g_below-falls p4 w v m n p h k =
    less_falls 1000000000 (linear_part p4 w + series_part p4 v) (linear_part p4 m + series_part p4 n) (norm_of p4) (some_norm p4) (sum _ _ _ _ (linear_part_rises p4 w m p h) (series_part_rises p4 v n p k))
  where
    sum : (a b x y : ℕ) → a ≤ x → b ≤ y → a + b ≤ x + y
    sum a b x y ha hb = omega arith

pub g_above-falls : (p4 w m : ℕ) → w ≤ m → g_above p4 m ≤ℤ g_above p4 w
g_above-falls p4 w m h = less_falls 0 (series_above w) (series_above m) (norm_of p4) (some_norm p4) (series_above-rises w m h)

pub u_of-rises : (t : ℕ) (g h : ℤ) → g ≤ℤ h → u_of t g ≤ℤ u_of t h
unfolding u_of
u_of-rises t g h le = floor_rises _ _ 1000000000 (omega arith) (pos-*ℤ-≤ (GAS_CONSTANT * t) g h le)
