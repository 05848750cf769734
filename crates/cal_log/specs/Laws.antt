-- Laws of the logarithm: it rises, and it is bounded, by 10^15 / (i - 1) for the step at i.
use Rattle.std.proofs.Common.{◌≡◌, ℕ, zero, suc, ◌+◌, ◌-◌, ◌*◌, ◌/◌, ◌%◌, ◌^◌, ◌<◌, ◌≤◌, sym, ap, ◌∙◌, arith, lit≤, inl, inr}
use Rattle.std.proofs.Math.Nat.{div-div-eq-div-mul, mul_comm, mul-div-le, mul-le-mul_left, div-le_self, pow-suc}
use Rattle.std.proofs.lemmas.Bool.{cases_lt}
use Rattle.std.proofs.lemmas.Nat.{le-div, pow_pos}
use Rattle.cal_math.specs.Sums.{sum_below}
use Rattle.cal_math.specs.Logarithm.{log_of, log_step, log_summand, log_between}
use Rattle.cal_log.specs.Series.{log_step-le}

pub log_of-step : (n : ℕ) → log_of (n + 2) ≡ log_of (n + 1) + log_step (n + 2)
unfolding log_of
log_of-step n = ap (λ k. sum_below k (λ k. log_step (k + 2))) (one n) ∙ ap (λ s. s + log_step (n + 2)) (ap (λ k. sum_below k (λ k. log_step (k + 2))) (sym (none n)))
  where
    one : (n : ℕ) → n + 2 - 1 ≡ suc n
    one n = omega arith

    none : (n : ℕ) → n + 1 - 1 ≡ n
    none n = omega arith

log_of-next : (n : ℕ) → log_of n ≤ log_of (suc n)
unfolding log_of
log_of-next zero = lit≤ tt
log_of-next (suc n) = omega (arith, log_of-step n, ap log_of (at_one n), ap log_of (at_two n))
  where
    at_one : (n : ℕ) → n + 1 ≡ suc n
    at_one n = omega arith

    at_two : (n : ℕ) → n + 2 ≡ suc (suc n)
    at_two n = omega arith

log_of-more : (n d : ℕ) → log_of n ≤ log_of (n + d)
log_of-more n zero = omega (arith, ap log_of (at_zero n))
  where
    at_zero : (n : ℕ) → n + 0 ≡ n
    at_zero n = omega arith
log_of-more n (suc d) = omega (arith, log_of-more n d, log_of-next (n + d), ap log_of (at_suc n d))
  where
    at_suc : (n d : ℕ) → n + suc d ≡ suc (n + d)
    at_suc n d = omega arith

-- the logarithm does not fall
pub log_of-le : (m n : ℕ) → m ≤ n → log_of m ≤ log_of n
log_of-le m n h = omega (arith, log_of-more m (n - m), ap log_of (rest m n h))
  where
    rest : (m n : ℕ) → m ≤ n → m + (n - m) ≡ n
    rest m n h = omega arith

-- 10^15 times the sum of 1 / k below n, each rounded down
abbrev pub harmonic : ℕ → ℕ
harmonic n = sum_below n (λ k. 1000000000000000 / k)

-- the logarithm rises by no more than that sum
pub log_of-harmonic : (n d : ℕ) → log_of (n + 1 + d) + harmonic (n + 1) ≤ log_of (n + 1) + harmonic (n + 1 + d)
log_of-harmonic n zero = omega (arith, ap log_of (at_zero n), ap harmonic (at_zero n))
  where
    at_zero : (n : ℕ) → n + 1 + 0 ≡ n + 1
    at_zero n = omega arith
log_of-harmonic n (suc d) =
    omega (
      arith,
      log_of-harmonic n d,
      ap log_of (at_suc n d),
      ap log_of (at_one n d),
      ap harmonic (suc_is n d),
      log_of-step (n + d),
      log_step-le (n + 1 + d) (omega arith),
      ap log_step (at_step n d),
    )
  where
    at_suc : (n d : ℕ) → n + 1 + suc d ≡ n + d + 2
    at_suc n d = omega arith

    at_one : (n d : ℕ) → n + d + 1 ≡ n + 1 + d
    at_one n d = omega arith

    suc_is : (n d : ℕ) → n + 1 + suc d ≡ suc (n + 1 + d)
    suc_is n d = omega arith

    at_step : (n d : ℕ) → n + 1 + d + 1 ≡ n + d + 2
    at_step n d = omega arith

-- the sum from n below 2n falls with n
harmonic_falls : (n : ℕ) → 1 ≤ n → harmonic (2 * (n + 1)) + harmonic n ≤ harmonic (2 * n) + harmonic (n + 1)
harmonic_falls n one =
    omega (
      arith,
      ap harmonic (twice_is n),
      ap harmonic (suc_is n),
      div-div-eq-div-mul 1000000000000000 n 2,
      ap (λ k. 1000000000000000 / k) (mul_comm 2 n),
      mul-div-le (1000000000000000 / n) 2,
      falls (2 * n) (omega arith),
    )
  where
    twice_is : (n : ℕ) → 2 * (n + 1) ≡ suc (suc (2 * n))
    twice_is n = omega arith

    suc_is : (n : ℕ) → n + 1 ≡ suc n
    suc_is n = omega arith

    more : (k q : ℕ) → suc k * q ≡ q * k + q
    more k q = omega arith

    falls : (k : ℕ) → 1 ≤ k → 1000000000000000 / suc k ≤ 1000000000000000 / k
    falls k one = le-div _ _ k one (omega (arith, mul-div-le 1000000000000000 (suc k), more k (1000000000000000 / suc k)))

harmonic_doubles : (d : ℕ) → harmonic (2 * (8 + d)) + harmonic 8 ≤ harmonic 16 + harmonic (8 + d)
harmonic_doubles zero = lit≤ tt
harmonic_doubles (suc d) =
    omega (arith, harmonic_doubles d, harmonic_falls (8 + d) (omega arith), ap harmonic (suc_is d), ap (λ e. harmonic (2 * e)) (suc_is d))
  where
    suc_is : (d : ℕ) → 8 + suc d ≡ 8 + d + 1
    suc_is d = omega arith

-- From 8 on a doubled number has a logarithm that is greater by at most 7254 * 10^11.
pub log_of-double : (n : ℕ) → 8 ≤ n → log_of (2 * n) ≤ log_of n + 725400000000000
log_of-double n h =
    omega (
      arith,
      log_of-harmonic (n - 1) n,
      ap log_of (before n h),
      ap harmonic (before n h),
      ap log_of (twice n h),
      ap harmonic (twice n h),
      harmonic_doubles (n - 8),
      ap harmonic (eight n h),
      ap (λ e. harmonic (2 * e)) (eight n h),
      few,
    )
  where
    before : (n : ℕ) → 8 ≤ n → n - 1 + 1 ≡ n
    before n h = omega arith

    twice : (n : ℕ) → 8 ≤ n → n - 1 + 1 + n ≡ 2 * n
    twice n h = omega arith

    eight : (n : ℕ) → 8 ≤ n → 8 + (n - 8) ≡ n
    eight n h = omega arith

    few : harmonic 16 ≤ harmonic 8 + 725400000000000
    few = lit≤ tt

-- a logarithm after k doublings
log_of-doubles : (k n : ℕ) → 8 ≤ n → log_of (n * 2 ^ k) ≤ log_of n + k * 725400000000000
log_of-doubles zero n h = omega (arith, ap log_of (none n))
  where
    none : (n : ℕ) → n * 2 ^ 0 ≡ n
    none n = omega arith
log_of-doubles (suc k) n h =
    omega (arith, log_of-doubles k n h, log_of-double (n * 2 ^ k) (large k n h), ap log_of (next k n))
  where
    large : (k n : ℕ) → 8 ≤ n → 8 ≤ n * 2 ^ k
    large k n h = omega (arith, mul-le-mul_left n (pow_pos k))

    next : (k n : ℕ) → n * 2 ^ suc k ≡ 2 * (n * 2 ^ k)
    next k n = ap (λ p. n * p) (pow-suc 2 k) ∙ omega arith

log_of-8 : log_of 8 ≤ 2079441541679850
unfolding log_of log_step log_summand
log_of-8 = lit≤ tt

pub log_of-1000 : log_of 1000 ≤ 7216000000000000
log_of-1000 = omega (arith, log_of-8, log_of-doubles 7 8 (lit≤ tt), log_of-le 1000 1024 (lit≤ tt))

pub log_of-501001 : log_of 501001 ≤ log_of 1000 + 9800000000000000
log_of-501001 = omega (arith, log_of-doubles 9 1000 (lit≤ tt), log_of-le 501001 512000 (lit≤ tt))

pub log_of-600000 : log_of 600000 < 1000000000000000000
log_of-600000 = omega (arith, log_of-1000, log_of-doubles 10 1000 (lit≤ tt), log_of-le 600000 1024000 (lit≤ tt))

-- the linear rule, between the logarithms at its ends
between-low : (micro : ℕ) → log_of (1000 + micro / 1000) ≤ log_of 1000 + log_between micro
unfolding log_between
between-low micro = omega (arith, log_of-le 1000 (1000 + micro / 1000) (omega arith))

between-high : (micro : ℕ) → log_of 1000 + log_between micro ≤ log_of (1001 + micro / 1000)
unfolding log_between
between-high micro =
    let q : ℕ = micro / 1000 in
    let rise : ℕ = log_of (1001 + q) - log_of (1000 + q) in
    let share : rise * (micro % 1000) ≤ rise * 1000 = mul-le-mul_left rise (omega arith) in
    omega (arith, log_of-le 1000 (1000 + q) (omega arith), log_of-le (1000 + q) (1001 + q) (omega arith), share)

-- it does not fall
pub log_between-le : (m n : ℕ) → m ≤ n → log_between m ≤ log_between n
unfolding log_between
log_between-le m n h =
    elim (cases_lt (m / 1000) (n / 1000)) [
      | inl less ↦ omega (arith, between-high m, between-low n, log_of-le (1001 + m / 1000) (1000 + n / 1000) (omega arith))
      | inr most ↦ same m n h (omega arith)
    ]
  where
    share : (rise a b : ℕ) → a ≤ b → rise * a / 1000 ≤ rise * b / 1000
    share rise a b h = le-div _ _ 1000 (lit≤ tt) (omega (arith, mul-le-mul_left rise h))

    same : (m n : ℕ) → m ≤ n → m / 1000 ≡ n / 1000 → log_between m ≤ log_between n
    same m n h e = rw e (omega (arith, share (log_of (1001 + n / 1000) - log_of (1000 + n / 1000)) (m % 1000) (n % 1000) (omega arith)))

-- a thousandth more adds at most 10^15
pub log_of-rise : (n : ℕ) → 1 ≤ n → log_of (n + 1) ≤ log_of n + 1000000000000000
log_of-rise n one =
    omega (arith, log_of-step (n - 1), ap log_of (this n one), ap log_of (next n one), ap log_step (next n one), log_step-le n one, div-le_self 1000000000000000 n)
  where
    this : (n : ℕ) → 1 ≤ n → n - 1 + 1 ≡ n
    this n one = omega arith

    next : (n : ℕ) → 1 ≤ n → n - 1 + 2 ≡ n + 1
    next n one = omega arith
