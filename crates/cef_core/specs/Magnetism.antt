-- Magnetism by Inden, Hillert and Jarl, in two branches that meet at the Curie temperature. All quotients are rounded
-- down. The temperature t is in hundredths of a kelvin, theta in µK, moments in millionths, and g in 10^-9.
use Rattle.std.specs.Prelude.{ℕ, zero, suc, ◌+◌, ◌-◌, ◌*◌, ◌/◌, nat_lt, cond, ℤ, pos, negsuc, ◌-ℤ◌, ◌*ℤ◌}
use Rattle.std.specs.Int.{int_div_euclid}
use Rattle.cal_limits.specs.declared.TheConstants.{GAS_CONSTANT}
use Rattle.cal_math.specs.Logarithm.{log_between}

-- the product of two fractions in units of 10^-9
abbrev pub scaled : ℕ → ℕ → ℕ
scaled x y = x * y / 1000000000

abbrev pub cubed : ℕ → ℕ
cubed x = scaled (scaled x x) x

abbrev pub fifth : ℕ → ℕ
fifth x = scaled (scaled (scaled (scaled x x) x) x) x

-- y times the square of x
abbrev pub squared_into : ℕ → ℕ → ℕ
squared_into y x = scaled (scaled y x) x

-- w = theta over the temperature, and v the other way round
abbrev pub theta_over_t : ℕ → ℕ → ℕ
theta_over_t t theta = 1000000000 * theta / (10000 * t)

abbrev pub t_over_theta : ℕ → ℕ → ℕ
t_over_theta t theta = 10000000000000 * t / theta

-- A = 518/1125 + 11692/15975 * (1/p - 1)
abbrev pub norm_of : ℕ → ℕ
norm_of p4 = 518 * 1000000000 / 1125 + 11692 * 1000000000 * (10000 - p4) / (15975 * p4)

-- below the Curie temperature: g = 1 - (79*w/(140*p) + 474/497 * (1/p - 1) * (v^3/6 + v^9/135 + v^15/600)) / A
abbrev pub linear_part : ℕ → ℕ → ℕ
linear_part p4 w = 79 * w * 10000 / (140 * p4)

abbrev pub series_below : ℕ → ℕ
series_below v =
    let v3 = cubed v in
    let v9 = squared_into v3 v3 in
    let v15 = squared_into v9 v3 in
    v3 / 6 + v9 / 135 + v15 / 600

abbrev pub series_part : ℕ → ℕ → ℕ
series_part p4 v = 474 * (10000 - p4) * series_below v / (497 * p4)

abbrev pub g_below : ℕ → ℕ → ℕ → ℤ
g_below p4 w v = pos 1000000000 -ℤ pos (1000000000 * (linear_part p4 w + series_part p4 v) / norm_of p4)

-- above it: g = - (w^5/10 + w^15/315 + w^25/1500) / A
abbrev pub series_above : ℕ → ℕ
series_above w =
    let w5 = fifth w in
    let w15 = squared_into w5 w5 in
    let w25 = squared_into w15 w5 in
    w5 / 10 + w15 / 315 + w25 / 1500

abbrev pub g_above : ℕ → ℕ → ℤ
g_above p4 w = pos 0 -ℤ pos (1000000000 * series_above w / norm_of p4)

unfoldable pub g_at : ℕ → ℕ → ℕ → ℤ
g_at t theta p4 = cond (nat_lt (10000 * t) theta) (g_below p4 (theta_over_t t theta) (t_over_theta t theta)) (g_above p4 (theta_over_t t theta))

-- R*T*g in µJ, and 0 where theta is 0
abbrev pub energy_of_g : ℕ → ℕ → ℕ → ℤ
energy_of_g t zero p4 = pos 0
energy_of_g t (suc theta) p4 = int_div_euclid (pos (GAS_CONSTANT * t) *ℤ g_at t (suc theta) p4) (pos 1000000000)

-- a sum of Curie temperatures or of moments: one below 0 is that of an antiferromagnet, divided by the factor's magnitude
abbrev pub moment_of : ℕ → ℤ → ℕ
moment_of factor (pos x) = x
moment_of factor (negsuc x) = suc x / factor

-- the magnetic energy of a formula unit, in µJ/mol: R*T * ln (1 + beta) * g, times the scale of the ratios
unfoldable pub magnetic_at : ℕ → ℕ → ℕ → ℕ → ℤ → ℤ → ℤ
magnetic_at t scale factor p4 curie moment =
    int_div_euclid (energy_of_g t (moment_of factor curie) p4 *ℤ pos (scale * log_between (moment_of factor moment))) (pos 10000000000000000)
