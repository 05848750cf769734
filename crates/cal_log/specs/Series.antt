-- The series of a step of the logarithm: it ends, and it is at most 10^15 / (i - 1).
use Rattle.std.proofs.Common.{◌≡◌, ℕ, zero, suc, ◌+◌, ◌-◌, ◌*◌, ◌/◌, ◌^◌, ◌<◌, ◌≤◌, refl, sym, ap, ◌∙◌, arith, lit≤}
use Rattle.std.proofs.Math.Nat.{mul_comm, mul-div-le, div-le_self, div-div-eq-div-mul, div-mul-le_self, div-eq_of_lt, pow-suc, one-le-pow, pow-le-pow_left, mul-le-mul_left}
use Rattle.std.proofs.lemmas.Nat.{le-div}
use Rattle.cal_math.specs.Sums.{sum_below}
use Rattle.cal_math.specs.Logarithm.{log_summand, log_step}

-- what is left of twice the unit after m divisions by x
abbrev pub left_of : ℕ → ℕ → ℕ
left_of x m = 2000000000000000 / x ^ m

-- the summand of the odd number m at x = 2i - 1
abbrev pub term : ℕ → ℕ → ℕ
term x m = 2000000000000000 / (m * x ^ m)

-- the first k summands
abbrev pub terms : ℕ → ℕ → ℕ
terms x k = sum_below k (λ j. term x (2 * j + 1))

pub left_next : (x m : ℕ) → left_of x (m + 1) ≡ left_of x m / x
left_next x m =
    ap (λ e. left_of x e) step ∙ ap (λ p. 2000000000000000 / p) (pow-suc x m) ∙ sym (div-div-eq-div-mul 2000000000000000 (x ^ m) x)
  where
    step : m + 1 ≡ suc m
    step = omega arith

pub left_falls : (x m : ℕ) → left_of x (m + 1) ≤ left_of x m
left_falls x m = rw (left_next x m) (div-le_self (left_of x m) x)

pub left_square : (x m : ℕ) → left_of x (m + 2) ≡ left_of x m / (x * x)
left_square x m =
    ap (λ e. left_of x e) two ∙ left_next x (m + 1) ∙ ap (λ n. n / x) (left_next x m) ∙ div-div-eq-div-mul (left_of x m) x x
  where
    two : m + 2 ≡ m + 1 + 1
    two = omega arith

pub term-is : (x m : ℕ) → term x m ≡ left_of x m / m
term-is x m =
    ap (λ p. 2000000000000000 / p) (mul_comm m (x ^ m)) ∙ sym (div-div-eq-div-mul 2000000000000000 (x ^ m) m)

pub term-le : (x m : ℕ) → term x m ≤ left_of x m
term-le x m = rw (term-is x m) (div-le_self (left_of x m) m)

-- (x - 1) times the first k summands, and what is left, are at most twice the unit
pub terms_bounded : (x e k : ℕ) → x ≡ e + 1 → e * terms x k + left_of x (2 * k) ≤ 2000000000000000
terms_bounded x e zero h = omega (arith, div-le_self 2000000000000000 (x ^ 0))
terms_bounded x e (suc k) h =
    let before : e * terms x k + left_of x (2 * k) ≤ 2000000000000000 = terms_bounded x e k h in
    let place : 2 * suc k ≡ 2 * k + 1 + 1 = omega arith in
    let small : e * term x (2 * k + 1) ≤ e * left_of x (2 * k + 1) = mul-le-mul_left e (term-le x (2 * k + 1)) in
    let down : x * left_of x (2 * k + 1) ≤ left_of x (2 * k) = rw (left_next x (2 * k)) (mul-div-le (left_of x (2 * k)) x) in
    let times : x * left_of x (2 * k + 1) ≡ e * left_of x (2 * k + 1) + left_of x (2 * k + 1) = ap (λ y. y * left_of x (2 * k + 1)) h ∙ spread e (left_of x (2 * k + 1)) in
    let apart : e * (terms x k + term x (2 * k + 1)) ≡ e * terms x k + e * term x (2 * k + 1) = spread_sum e (terms x k) (term x (2 * k + 1)) in
    let last : left_of x (2 * k + 1 + 1) ≤ left_of x (2 * k + 1) = left_falls x (2 * k + 1) in
    rw (place) (omega (arith, before, small, down, times, apart, last))
  where
    spread : (e n : ℕ) → (e + 1) * n ≡ e * n + n
    spread e n = omega arith

    spread_sum : (e m n : ℕ) → e * (m + n) ≡ e * m + e * n
    spread_sum e m n = omega arith

pub terms-le : (x k : ℕ) → 2 ≤ x → terms x k ≤ 2000000000000000
terms-le x k h =
    let e : ℕ = x - 1 in
    let x_is : x ≡ e + 1 = omega arith in
    let one : 1 ≤ e = omega arith in
    let bound : e * terms x k + left_of x (2 * k) ≤ 2000000000000000 = terms_bounded x e k x_is in
    let more : 1 * terms x k ≤ e * terms x k = more_of 1 e (terms x k) one in
    omega (arith, bound, more)
  where
    more_of : (a b n : ℕ) → a ≤ b → a * n ≤ b * n
    more_of a b n h = omega (arith, mul-le-mul_left n h)

pub left_falls_on : (x m d : ℕ) → left_of x (m + d) ≤ left_of x m
left_falls_on x m zero = omega (arith, ap (λ e. left_of x e) (at_zero m))
  where
    at_zero : (m : ℕ) → m + 0 ≡ m
    at_zero m = omega arith
left_falls_on x m (suc d) = omega (arith, left_falls_on x m d, left_falls x (m + d), ap (λ e. left_of x e) (at_suc m d))
  where
    at_suc : (m d : ℕ) → m + suc d ≡ m + d + 1
    at_suc m d = omega arith

-- once a summand and all further ones are 0, so is their sum
terms_end : (x k d : ℕ) → ((j : ℕ) → term x (2 * (k + j) + 1) ≡ 0) → terms x (k + d) ≡ terms x k
terms_end x k zero h = ap (λ e. terms x e) (at_zero k)
  where
    at_zero : (k : ℕ) → k + 0 ≡ k
    at_zero k = omega arith
terms_end x k (suc d) h = ap (λ e. terms x e) (at_suc k d) ∙ omega (arith, terms_end x k d h, h d)
  where
    at_suc : (k d : ℕ) → k + suc d ≡ suc (k + d)
    at_suc k d = omega arith

at_twice : (k d : ℕ) → 2 * (k + d) + 1 ≡ 2 * k + 1 + 2 * d
at_twice k d = omega arith

-- where nothing is left, all further summands are 0
pub terms_without_rest : (x k d : ℕ) → left_of x (2 * k + 1) ≡ 0 → terms x (k + d) ≡ terms x k
terms_without_rest x k d h =
    terms_end x k d (λ j. omega (arith, h, term-le x (2 * (k + j) + 1), left_falls_on x (2 * k + 1) (2 * j), ap (λ e. left_of x e) (at_twice k j)))

left_at : (x m : ℕ) → 3 ≤ x → left_of x m ≤ left_of 3 m
left_at x m h =
    le-div _ _ (3 ^ m) (three m) (omega (arith, mul-le-mul_left (left_of x m) (pow-le-pow_left h m), div-mul-le_self 2000000000000000 (x ^ m)))
  where
    three : (m : ℕ) → 0 < 3 ^ m
    three m = one-le-pow m 3 (lit≤ tt)

-- nothing is left at the number 33, and too little for a summand from 31 on
pub left_33 : (x : ℕ) → 3 ≤ x → left_of x 33 ≡ 0
left_33 x h = omega (arith, left_at x 33 h)

late : (x j : ℕ) → 3 ≤ x → term x (2 * (15 + j) + 1) ≡ 0
late x j h =
    let m : ℕ = 2 * (15 + j) + 1 in
    let small : left_of x m < m = omega (arith, left_at x 31 h, left_falls_on x 31 (2 * j), ap (λ e. left_of x e) (at_twice 15 j)) in
    term-is x m ∙ div-eq_of_lt small

pub terms_after : (x d : ℕ) → 3 ≤ x → terms x (15 + d) ≡ terms x 15
terms_after x d h = terms_end x 15 d (λ j. late x j h)

-- the series of i = h + 1 is at most 10^15 / h
pub log_step-le : (h : ℕ) → 1 ≤ h → log_step (h + 1) ≤ 1000000000000000 / h
unfolding log_step log_summand
log_step-le h one =
    let x_is : 2 * (h + 1) - 1 ≡ 2 * h + 1 = omega arith in
    let bound : (2 * h) * terms (2 * h + 1) 15 + left_of (2 * h + 1) 30 ≤ 2000000000000000 = terms_bounded (2 * h + 1) (2 * h) 15 refl in
    le-div _ _ h one (rw x_is (half _ h bound))
  where
    half : (s h : ℕ) → (2 * h) * s + left_of (2 * h + 1) 30 ≤ 2000000000000000 → s * h ≤ 1000000000000000
    half s h k = omega arith

-- the series of a step may be taken as far as one likes beyond its fifteenth summand
pub log_step-longer : (i k : ℕ) → 2 ≤ i → 15 ≤ k → sum_below k (λ j. log_summand i (2 * j + 1)) ≡ log_step i
unfolding log_step log_summand
log_step-longer i k two many = ap (λ e. terms (2 * i - 1) e) (rest k many) ∙ terms_after (2 * i - 1) (k - 15) (omega arith)
  where
    rest : (k : ℕ) → 15 ≤ k → k ≡ 15 + (k - 15)
    rest k many = omega arith
