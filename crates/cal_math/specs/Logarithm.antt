-- The integer logarithm, in units of 10^-15, by the series of ln (i / (i - 1)):
--   L(1) = 0,  L(n) = sum over i = 2 .. n of sum over odd m of floor (2 * 10^15 / (m * (2 * i - 1)^m)).
-- A summand is 0 from m = 31 on, since 31 * 3^31 is above 2 * 10^15, so fifteen odd numbers suffice.
use Rattle.std.specs.Prelude.{ℕ, ◌+◌, ◌-◌, ◌*◌, ◌/◌, ◌%◌, ◌^◌}
use Rattle.cal_math.specs.Sums.{sum_below}

-- the summand of the odd number m at i
unfoldable pub log_summand : ℕ → ℕ → ℕ
log_summand i m = 2000000000000000 / (m * (2 * i - 1) ^ m)

-- the logarithm of i / (i - 1)
unfoldable pub log_step : ℕ → ℕ
log_step i = sum_below 15 (λ j. log_summand i (2 * j + 1))

-- the logarithm of n
unfoldable pub log_of : ℕ → ℕ
log_of n = sum_below (n - 1) (λ k. log_step (k + 2))

-- the logarithm of 1 + micro / 10^6, linear between the thousandths
unfoldable pub log_between : ℕ → ℕ
log_between micro =
    let q = micro / 1000 in
    log_of (1000 + q) - log_of 1000 + (log_of (1001 + q) - log_of (1000 + q)) * (micro % 1000) / 1000
