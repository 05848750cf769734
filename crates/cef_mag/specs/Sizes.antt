-- How large u and the magnetic energy are.
use Rattle.std.proofs.Common.{◌≡◌, ℕ, zero, suc, ◌+◌, ◌-◌, ◌*◌, ◌/◌, ◌%◌, ◌<◌, ◌≤◌, arith, lit≤, inl, inr}
use Rattle.std.specs.Prelude.{ℤ, pos, negsuc, ◌-ℤ◌, unsigned_abs, min}
use Rattle.std.specs.Int.{int_div_euclid, int_min, int_max}
use Rattle.std.proofs.lemmas.Bool.{cases_lt}
use Rattle.std.proofs.lemmas.Int.{ints, clamps, unsigned_abs-mul}
use Rattle.std.proofs.lemmas.Nat.{mul-le, div-add-mod', mod_below, div_below}
use Rattle.std.proofs.Math.Nat.{mul-le-mul_left, mul-le-mul_right, div-le_self}
use Rattle.cal_math.specs.Logarithm.{log_of, log_between}
use Rattle.cal_log.specs.Laws.{log_of-le, log_of-501001}
use Rattle.cef_core.specs.Magnetism.{theta_over_t, t_over_theta, norm_of, linear_part, series_below, series_part, g_below, series_above, g_above, energy_of_g, moment_of}
use Rattle.cef_mag.specs.Ranges.{moment_low, moment_high, u_of, u_above, u_below, least_above, greatest_above, least_u, greatest_u, with_logarithm, least_energy, greatest_energy}
use Rattle.cef_mag.specs.Steps.{quotient_rises, series_below-rises, series_above-rises, norm_some}
use Rattle.cef_mag.specs.Bounds.{at_below, at_above, least_u-above, least_u-below, least_u-across, greatest_u-above, greatest_u-below, greatest_u-across}

quotient_le : (a d : ℕ) → a / d * d ≤ a
quotient_le a d = omega (arith, div-add-mod' a d)

-- a quotient is at most n, where the number is below n + 1 divisors
pub quotient_at_most : (a d n : ℕ) → 0 < d → a < (n + 1) * d → a / d ≤ n
quotient_at_most a d n p h = let lt : a / d < n + 1 = div_below a d (n + 1) p h in omega arith

-- the floor of a quotient by d, of a number of at most m times d
floor_size : (a : ℤ) (m d : ℕ) → 0 < d → unsigned_abs a ≤ m * d → unsigned_abs (int_div_euclid a (pos d)) ≤ m
floor_size (pos n) m d p h = let lt : n / d < m + 1 = div_below n d (m + 1) p (omega arith) in omega (arith, ints)
floor_size (negsuc n) m d p h = let lt : n / d < m = div_below n d m p (omega arith) in omega (arith, ints)

-- w and v within their branches
pub w_above : (t theta : ℕ) → 1 ≤ t → theta ≤ 10000 * t → theta_over_t t theta ≤ 1000000000
w_above t theta p h = quotient_at_most (1000000000 * theta) (10000 * t) 1000000000 (omega arith) (omega arith)

pub v_below : (t theta : ℕ) → 10000 * t < theta → t_over_theta t theta ≤ 1000000000
v_below t theta h = quotient_at_most (10000000000000 * t) theta 1000000000 (omega arith) (omega arith)

w_room : (t theta : ℕ) → theta ≤ 10000000000 → t * theta_over_t t theta ≤ 1000000000000000
w_room t theta h = room t (theta_over_t t theta) theta h (quotient_le (1000000000 * theta) (10000 * t))
  where
    room : (t w theta : ℕ) → theta ≤ 10000000000 → w * (10000 * t) ≤ 1000000000 * theta → t * w ≤ 1000000000000000
    room t w theta h k = omega arith

-- the series, at most as at 1
pub series_below-size : (v : ℕ) → v ≤ 1000000000 → series_below v ≤ 175740741
series_below-size v h = up_to _ _ (series_below-rises v 1000000000 h) (lit≤ tt)
  where
    up_to : (a b : ℕ) → a ≤ b → b ≤ 175740741 → a ≤ 175740741
    up_to a b h k = omega arith

pub series_above-size : (w : ℕ) → w ≤ 1000000000 → series_above w ≤ 103841270
series_above-size w h = up_to _ _ (series_above-rises w 1000000000 h) (lit≤ tt)
  where
    up_to : (a b : ℕ) → a ≤ b → b ≤ 103841270 → a ≤ 103841270
    up_to a b h k = omega arith

-- A * p is at least 0.46
norm_room : (p4 : ℕ) → 0 < p4 → p4 ≤ 10000 → 4600000000000 ≤ norm_of p4 * p4
norm_room p4 p h = room p4 (11692 * 1000000000 * (10000 - p4) / (15975 * p4)) (11692 * 1000000000 * (10000 - p4) % (15975 * p4)) (div-add-mod' (11692 * 1000000000 * (10000 - p4)) (15975 * p4)) (mod_below _ (15975 * p4) (omega arith)) h
  where
    room : (p q r : ℕ) → q * (15975 * p) + r ≡ 11692000000000 * (10000 - p) → r < 15975 * p → p ≤ 10000 → 4600000000000 ≤ (518 * 1000000000 / 1125 + q) * p
    room p q r e lt h = omega arith

linear_part_size : (p4 w : ℕ) → linear_part p4 w * (140 * p4) ≤ 790000 * w
linear_part_size p4 w = whole _ _ w (quotient_le (79 * w * 10000) (140 * p4))
  where
    whole : (q d w : ℕ) → q * d ≤ 79 * w * 10000 → q * d ≤ 790000 * w
    whole q d w h = omega arith

series_part_size : (p4 v : ℕ) → 1000 ≤ p4 → v ≤ 1000000000 → series_part p4 v * (497 * p4) ≤ 749710001106000
series_part_size p4 v h k = whole p4 (series_below v) (series_part p4 v) h (series_below-size v k) (quotient_le (474 * (10000 - p4) * series_below v) (497 * p4))
  where
    whole : (p s q : ℕ) → 1000 ≤ p → s ≤ 175740741 → q * (497 * p) ≤ 474 * (10000 - p) * s → q * (497 * p) ≤ 749710001106000
    whole p s q h k le = omega (arith, mul-le (474 * (10000 - p)) s 4266000 175740741 (omega arith) k)

-- what g below the Curie temperature is less than 1 by: the linear part grows with w, the series adds at most the unit
share_size : (x y p a h w : ℕ) → h * a ≤ 1000000000 * (x + y) → 4600000000000 ≤ a * p → x * (140 * p) ≤ 790000 * w → y * (497 * p) ≤ 749710001106000 → 644 * h ≤ 790 * w + 644000000000
share_size x y p a h w e room hx hy =
    let times : h * a * p ≤ 1000000000 * (x + y) * p = mul-le-mul_right p e in
    let least : h * 4600000000000 ≤ h * (a * p) = mul-le-mul_left h room in
    omega arith

below_share : (p4 w v : ℕ) → 1000 ≤ p4 → p4 ≤ 10000 → v ≤ 1000000000 → 644 * (1000000000 * (linear_part p4 w + series_part p4 v) / norm_of p4) ≤ 790 * w + 644000000000
below_share p4 w v h k hv = share_size (linear_part p4 w) (series_part p4 v) p4 (norm_of p4) _ w (quotient_le (1000000000 * (linear_part p4 w + series_part p4 v)) (norm_of p4)) (norm_room p4 (omega arith) k) (linear_part_size p4 w) (series_part_size p4 v h hv)

less_size : (t h w : ℕ) → 644 * h ≤ 790 * w + 644000000000 → t * w ≤ 1000000000000000 → 831451 * t * unsigned_abs (pos 1000000000 -ℤ pos h) ≤ (831451 * t + 1020000000000) * 1000000000
less_size t h w e room = elim (cases_lt 1000000000 h) [
  | inl lt ↦
      let is : unsigned_abs (pos 1000000000 -ℤ pos h) ≡ h - 1000000000 = omega (arith, ints) in
      let small : 644 * (h - 1000000000) ≤ 790 * w = omega arith in
      rw is (product t (h - 1000000000) w small room)
  | inr le ↦
      let is : unsigned_abs (pos 1000000000 -ℤ pos h) ≤ 1000000000 = omega (arith, ints) in
      omega (arith, mul-le-mul_left (831451 * t) is)
]
  where
    product : (t d w : ℕ) → 644 * d ≤ 790 * w → t * w ≤ 1000000000000000 → 831451 * t * d ≤ (831451 * t + 1020000000000) * 1000000000
    product t d w e room = omega (arith, mul-le-mul_left t e)

-- the greatest magnitude of u, for theta up to 10^10
abbrev pub most_u : ℕ → ℕ
most_u t = 831451 * t + 1020000000000

u_size : (t : ℕ) (g : ℤ) → 831451 * t * unsigned_abs g ≤ most_u t * 1000000000 → unsigned_abs (u_of t g) ≤ most_u t
unfolding u_of
u_size t g h = floor_size _ (most_u t) 1000000000 (omega arith) (rw (unsigned_abs-mul (pos (831451 * t)) g) h)

u_below-size : (t p4 w v : ℕ) → 1000 ≤ p4 → p4 ≤ 10000 → v ≤ 1000000000 → t * w ≤ 1000000000000000 → unsigned_abs (u_of t (g_below p4 w v)) ≤ most_u t
u_below-size t p4 w v h k hv room = u_size t (g_below p4 w v) (less_size t (1000000000 * (linear_part p4 w + series_part p4 v) / norm_of p4) w (below_share p4 w v h k hv) room)

u_above-size : (t p4 w : ℕ) → w ≤ 1000000000 → unsigned_abs (u_of t (g_above p4 w)) ≤ most_u t
u_above-size t p4 w h = u_size t (g_above p4 w) (whole t (1000000000 * series_above w / norm_of p4) (share (series_above w) (norm_of p4) (series_above-size w h) (norm_some p4)))
  where
    share : (s a : ℕ) → s ≤ 103841270 → 460444444 ≤ a → 1000000000 * s / a ≤ 1000000000
    share s a h k = quotient_at_most (1000000000 * s) a 1000000000 (omega arith) (omega arith)

    whole : (t h : ℕ) → h ≤ 1000000000 → 831451 * t * unsigned_abs (pos 0 -ℤ pos h) ≤ most_u t * 1000000000
    whole t h k =
        let is : unsigned_abs (pos 0 -ℤ pos h) ≤ 1000000000 = omega (arith, ints) in
        omega (arith, mul-le-mul_left (831451 * t) is)

-- theta and the moment, no greater than the sums
pub moment_size : (factor : ℕ) (x : ℤ) (m : ℕ) → unsigned_abs x ≤ m → moment_of factor x ≤ m
moment_size factor (pos n) m h = h
moment_size factor (negsuc n) m h = omega (arith, div-le_self (suc n) factor)

pub moment_low-size : (factor : ℕ) (x1 x2 : ℤ) (m : ℕ) → unsigned_abs x1 ≤ m → moment_low factor x1 x2 ≤ m
unfolding moment_low
moment_low-size factor (pos a) x2 m h = h
moment_low-size factor (negsuc a) (pos b) m h = omega arith
moment_low-size factor (negsuc a) (negsuc b) m h = omega (arith, div-le_self (min (suc a) (suc b)) factor)

pub moment_high-size : (factor : ℕ) (x1 x2 : ℤ) (m : ℕ) → unsigned_abs x1 ≤ m → unsigned_abs x2 ≤ m → moment_high factor x1 x2 ≤ m
unfolding moment_high
moment_high-size factor x1 (pos n) m h k = omega (arith, moment_size factor x1 m h)
moment_high-size factor x1 (negsuc n) m h k = moment_size factor x1 m h

-- u at a theta, and at the ends of ranges
above_size : (t p4 theta : ℕ) → 1 ≤ t → theta ≤ 10000 * t → unsigned_abs (u_above t p4 theta) ≤ most_u t
above_size t p4 theta pt h = u_above-size t p4 _ (w_above t theta pt h)

below_size : (t p4 w_theta v_theta : ℕ) → 1000 ≤ p4 → p4 ≤ 10000 → 10000 * t < v_theta → w_theta ≤ 10000000000 → unsigned_abs (u_below t p4 w_theta v_theta) ≤ most_u t
below_size t p4 w_theta v_theta h k j top = u_below-size t p4 _ _ h k (v_below t v_theta j) (w_room t w_theta top)

pub energy_of_g-size : (t theta p4 : ℕ) → 1 ≤ t → 1000 ≤ p4 → p4 ≤ 10000 → theta ≤ 10000000000 → unsigned_abs (energy_of_g t theta p4) ≤ most_u t
energy_of_g-size t zero p4 pt h k top = omega arith
energy_of_g-size t (suc n) p4 pt h k top = elim (cases_lt (10000 * t) (suc n)) [
  | inl below ↦ rw (at_below t (suc n) p4 below) (below_size t p4 (suc n) (suc n) h k below top)
  | inr above ↦ rw (at_above t (suc n) p4 (omega arith) above) (above_size t p4 (suc n) pt above)
]

min_size : (a b : ℤ) (m : ℕ) → unsigned_abs a ≤ m → unsigned_abs b ≤ m → unsigned_abs (int_min a b) ≤ m
min_size a b m h k = omega (arith, ints, clamps)

max_size : (a b : ℤ) (m : ℕ) → unsigned_abs a ≤ m → unsigned_abs b ≤ m → unsigned_abs (int_max a b) ≤ m
max_size a b m h k = omega (arith, ints, clamps)

least_above-size : (t p4 from to : ℕ) → 1 ≤ t → to ≤ 10000 * t → unsigned_abs (least_above t p4 from to) ≤ most_u t
least_above-size t p4 zero zero pt h = omega arith
least_above-size t p4 (suc from) zero pt h = omega arith
least_above-size t p4 zero (suc to) pt h = min_size (pos 0) (u_above t p4 (suc to)) (most_u t) (omega arith) (above_size t p4 (suc to) pt h)
least_above-size t p4 (suc from) (suc to) pt h = above_size t p4 (suc to) pt h

greatest_above-size : (t p4 from to : ℕ) → 1 ≤ t → from ≤ 10000 * t → unsigned_abs (greatest_above t p4 from to) ≤ most_u t
greatest_above-size t p4 zero zero pt h = omega arith
greatest_above-size t p4 (suc from) zero pt h = omega arith
greatest_above-size t p4 zero (suc to) pt h = max_size (pos 0) (u_above t p4 1) (most_u t) (omega arith) (above_size t p4 1 pt (omega arith))
greatest_above-size t p4 (suc from) (suc to) pt h = above_size t p4 (suc from) pt h

pub least_u-size : (t p4 from to : ℕ) → 1 ≤ t → 1000 ≤ p4 → p4 ≤ 10000 → from ≤ to → to ≤ 10000000000 → unsigned_abs (least_u t p4 from to) ≤ most_u t
least_u-size t p4 from to pt h k le top = elim (cases_lt (10000 * t) to) [
  | inr above ↦ rw (least_u-above t p4 from to above) (least_above-size t p4 from to pt above)
  | inl ends ↦ elim (cases_lt (10000 * t) from) [
    | inl below ↦ rw (least_u-below t p4 from to below ends) (below_size t p4 to from h k below top)
    | inr across ↦ rw (least_u-across t p4 from to across ends) (min_size (least_above t p4 from (10000 * t)) (u_below t p4 to (10000 * t + 1)) (most_u t) (least_above-size t p4 from (10000 * t) pt (omega arith)) (below_size t p4 to (10000 * t + 1) h k (omega arith) top))
  ]
]

pub greatest_u-size : (t p4 from to : ℕ) → 1 ≤ t → 1000 ≤ p4 → p4 ≤ 10000 → from ≤ to → to ≤ 10000000000 → unsigned_abs (greatest_u t p4 from to) ≤ most_u t
greatest_u-size t p4 from to pt h k le top = elim (cases_lt (10000 * t) to) [
  | inr above ↦ rw (greatest_u-above t p4 from to above) (greatest_above-size t p4 from to pt (omega arith))
  | inl ends ↦ elim (cases_lt (10000 * t) from) [
    | inl below ↦ rw (greatest_u-below t p4 from to below ends) (below_size t p4 from to h k (omega arith) (omega arith))
    | inr across ↦ rw (greatest_u-across t p4 from to across ends) (max_size (greatest_above t p4 from (10000 * t)) (u_below t p4 (10000 * t + 1) to) (most_u t) (greatest_above-size t p4 from (10000 * t) pt across) (below_size t p4 (10000 * t + 1) to h k ends (omega arith)))
  ]
]

-- the logarithm of 1 + moment, at most 9.8
pub logarithm_size : (moment : ℕ) → moment ≤ 500000000 → log_between moment ≤ 9800000000000000
unfolding log_between
logarithm_size moment h =
    let q : ℕ = moment / 1000 in
    within (log_of 1000) (log_of (1000 + q)) (log_of (1001 + q)) (log_of 501001) (moment % 1000)
    (log_of-le 1000 (1000 + q) (omega arith)) (log_of-le (1000 + q) (1001 + q) (omega arith)) (log_of-le (1001 + q) 501001 (omega arith)) log_of-501001 (omega arith)
  where
    within : (a b c d r : ℕ) → a ≤ b → b ≤ c → c ≤ d → d ≤ a + 9800000000000000 → r < 1000 → b - a + (c - b) * r / 1000 ≤ 9800000000000000
    within a b c d r ab bc cd da lt =
        let share : (c - b) * r ≤ (c - b) * 1000 = mul-le-mul_left (c - b) (omega arith) in
        omega (arith, share)

-- the greatest magnitude of the magnetic energy
abbrev pub most_magnetic : ℕ → ℕ → ℕ
most_magnetic t scale = 1000000 * scale * (t + 1000000)

pub with_logarithm-size : (t scale moment : ℕ) (u : ℤ) → moment ≤ 500000000 → unsigned_abs u ≤ most_u t → unsigned_abs (with_logarithm scale moment u) ≤ most_magnetic t scale
unfolding with_logarithm
with_logarithm-size t scale moment u h k =
    floor_size _ (most_magnetic t scale) 10000000000000000 (omega arith) (rw (unsigned_abs-mul u (pos (scale * log_between moment))) (room scale (log_between moment) t (unsigned_abs u) (logarithm_size moment h) k))
  where
    room : (scale log t u : ℕ) → log ≤ 9800000000000000 → u ≤ most_u t → u * (scale * log) ≤ most_magnetic t scale * 10000000000000000
    room scale log t u h k = omega (arith, mul-le log u 9800000000000000 (most_u t) h k, mul-le-mul_left scale (mul-le log u 9800000000000000 (most_u t) h k))

pub least_energy-size : (t scale from to : ℕ) (u : ℤ) → from ≤ 500000000 → to ≤ 500000000 → unsigned_abs u ≤ most_u t → unsigned_abs (least_energy scale from to u) ≤ most_magnetic t scale
least_energy-size t scale from to (pos n) h k s = with_logarithm-size t scale from (pos n) h s
least_energy-size t scale from to (negsuc n) h k s = with_logarithm-size t scale to (negsuc n) k s

pub greatest_energy-size : (t scale from to : ℕ) (u : ℤ) → from ≤ 500000000 → to ≤ 500000000 → unsigned_abs u ≤ most_u t → unsigned_abs (greatest_energy scale from to u) ≤ most_magnetic t scale
greatest_energy-size t scale from to (pos n) h k s = with_logarithm-size t scale to (pos n) k s
greatest_energy-size t scale from to (negsuc n) h k s = with_logarithm-size t scale from (negsuc n) h s

-- a range of theta has an order
pub moment_ordered : (factor : ℕ) (x1 x2 : ℤ) → 1 ≤ factor → moment_low factor x1 x2 ≤ moment_high factor x1 x2
unfolding moment_low moment_high
moment_ordered factor (pos m) (pos n) p = omega arith
moment_ordered factor (pos m) (negsuc n) p = omega arith
moment_ordered factor (negsuc m) (pos n) p = omega arith
moment_ordered factor (negsuc m) (negsuc n) p = quotient_rises (min (suc m) (suc n)) (suc m) factor p (omega arith)

pub ruleset series_rules = (series_below-size, series_above-size)
