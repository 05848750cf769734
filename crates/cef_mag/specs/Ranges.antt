-- The range of the magnetic energy over a box: of theta and of the moment from sums of lows and of highs, of R*T*g over a
-- range of theta, and of its product with the logarithm. The temperature t is in hundredths of a kelvin, sums of Curie
-- temperatures and theta in µK, moments in millionths, energies in µJ/mol.
use Rattle.std.specs.Prelude.{ℕ, zero, suc, ◌+◌, ◌*◌, ◌/◌, min, max, nat_lt, nat_le, cond, ℤ, pos, negsuc, ◌*ℤ◌}
use Rattle.std.specs.Int.{int_div_euclid, int_min, int_max}
use Rattle.cal_limits.specs.declared.TheConstants.{GAS_CONSTANT}
use Rattle.cal_math.specs.Logarithm.{log_between}
use Rattle.cef_core.specs.Magnetism.{theta_over_t, t_over_theta, g_below, g_above, moment_of}

-- The least theta, or moment, of sums from x1 to x2, for a factor: a sum below 0 counts with its magnitude over the factor,
-- so it is 0 where the sums pass 0. Where x1 is above x2, which no box with a member meets, x2 is taken as x1.
unfoldable pub moment_low : ℕ → ℤ → ℤ → ℕ
moment_low factor (pos m) x2 = m
moment_low factor (negsuc m) (pos n) = 0
moment_low factor (negsuc m) (negsuc n) = min (suc m) (suc n) / factor

-- and the greatest
unfoldable pub moment_high : ℕ → ℤ → ℤ → ℕ
moment_high factor x1 (pos n) = max n (moment_of factor x1)
moment_high factor x1 (negsuc n) = moment_of factor x1

-- u = R*T*g, rounded down
unfoldable pub u_of : ℕ → ℤ → ℤ
u_of t g = int_div_euclid (pos (GAS_CONSTANT * t) *ℤ g) (pos 1000000000)

-- u of either branch, above the Curie temperature at theta, and below it at the w and the v of two theta
abbrev pub u_above : ℕ → ℕ → ℕ → ℤ
u_above t p4 theta = u_of t (g_above p4 (theta_over_t t theta))

abbrev pub u_below : ℕ → ℕ → ℕ → ℕ → ℤ
u_below t p4 w_theta v_theta = u_of t (g_below p4 (theta_over_t t w_theta) (t_over_theta t v_theta))

-- Above the Curie temperature, where theta is 10^4*t at most: u is 0 at the theta 0, and from the theta 1 on it does not rise.
abbrev pub least_above : ℕ → ℕ → ℕ → ℕ → ℤ
least_above t p4 from zero = pos 0
least_above t p4 zero (suc to) = int_min (pos 0) (u_above t p4 (suc to))
least_above t p4 (suc from) (suc to) = u_above t p4 (suc to)

abbrev pub greatest_above : ℕ → ℕ → ℕ → ℕ → ℤ
greatest_above t p4 from zero = pos 0
greatest_above t p4 zero (suc to) = int_max (pos 0) (u_above t p4 1)
greatest_above t p4 (suc from) (suc to) = u_above t p4 (suc from)

-- Below it u rises neither in w nor in v, of which w is greatest at the end of the range, and v at its start.
abbrev pub least_below : ℕ → ℕ → ℕ → ℕ → ℤ
least_below t p4 from to = u_below t p4 to from

abbrev pub greatest_below : ℕ → ℕ → ℕ → ℕ → ℤ
greatest_below t p4 from to = u_below t p4 from to

-- The least u for theta in a range. A range that crosses the Curie temperature has two parts, each with its own branch:
-- nothing is claimed of u across the joint, where rounding may leave a step.
unfoldable pub least_u : ℕ → ℕ → ℕ → ℕ → ℤ
least_u t p4 from to =
    let joint = 10000 * t in
    cond (nat_le to joint) (least_above t p4 from to)
    (cond (nat_lt joint from) (least_below t p4 from to)
    (int_min (least_above t p4 from joint) (least_below t p4 (joint + 1) to)))

-- and the greatest
unfoldable pub greatest_u : ℕ → ℕ → ℕ → ℕ → ℤ
greatest_u t p4 from to =
    let joint = 10000 * t in
    cond (nat_le to joint) (greatest_above t p4 from to)
    (cond (nat_lt joint from) (greatest_below t p4 from to)
    (int_max (greatest_above t p4 from joint) (greatest_below t p4 (joint + 1) to)))

-- u * ln (1 + moment), times the scale of the ratios
unfoldable pub with_logarithm : ℕ → ℕ → ℤ → ℤ
with_logarithm scale moment u = int_div_euclid (u *ℤ pos (scale * log_between moment)) (pos 10000000000000000)

-- The least product of a u from this one up with the logarithm of a moment in a range: where u may be below 0, the greater
-- logarithm makes it less.
abbrev pub least_energy : ℕ → ℕ → ℕ → ℤ → ℤ
least_energy scale from to (pos u) = with_logarithm scale from (pos u)
least_energy scale from to (negsuc u) = with_logarithm scale to (negsuc u)

-- and the greatest, for a u up to this one
abbrev pub greatest_energy : ℕ → ℕ → ℕ → ℤ → ℤ
greatest_energy scale from to (pos u) = with_logarithm scale to (pos u)
greatest_energy scale from to (negsuc u) = with_logarithm scale from (negsuc u)

-- The low of the magnetic energy for sums of Curie temperatures from x1 to x2 and sums of moments from y1 to y2.
unfoldable pub magnetic_low : ℕ → ℕ → ℕ → ℕ → ℤ → ℤ → ℤ → ℤ → ℤ
magnetic_low t scale factor p4 x1 x2 y1 y2 =
    least_energy scale (moment_low factor y1 y2) (moment_high factor y1 y2)
    (least_u t p4 (moment_low factor x1 x2) (moment_high factor x1 x2))

-- and its high
unfoldable pub magnetic_high : ℕ → ℕ → ℕ → ℕ → ℤ → ℤ → ℤ → ℤ → ℤ
magnetic_high t scale factor p4 x1 x2 y1 y2 =
    greatest_energy scale (moment_low factor y1 y2) (moment_high factor y1 y2)
    (greatest_u t p4 (moment_low factor x1 x2) (moment_high factor x1 x2))
