-- A product of n numbers is at most the power of their mean.
use Rattle.std.proofs.Common.{◌≡◌, ℕ, zero, suc, ◌+◌, ◌-◌, ◌*◌, ◌^◌, ◌≤◌, arith, inl, inr}
use Rattle.std.proofs.lemmas.Nat.{mul-pow}
use Rattle.std.proofs.lemmas.Bool.{cases_lt}
use Rattle.std.proofs.Math.Nat.{mul-le-mul_left, le_of_mul-le-mul_left, pow-suc, pow-zero, pow-le-pow_left, one-le-pow}
use Rattle.cal_math.specs.Sums.{sum_below}
use Rattle.lp_laws.proofs.Pigeon.{product_of}

square : (a t : ℕ) → 2 * (a * t) ≤ t * t + a * a
square a t = elim (cases_lt a t) [ inl lt ↦ above a (t - a) t (omega arith) | inr le ↦ below t (a - t) a (omega arith) ]
  where
    above : (a k t : ℕ) → t ≡ a + k → 2 * (a * t) ≤ t * t + a * a
    above a k t e = rw e (omega arith)

    below : (t k a : ℕ) → a ≡ t + k → 2 * (a * t) ≤ t * t + a * a
    below t k a e = rw e (omega arith)

tangent_step : (n p X a t : ℕ) → suc n * (p * t) ≤ X + n * (p * a) → suc (suc n) * (p * a * t) ≤ X * t + suc n * (p * a * a)
tangent_step n p X a t h = omega (arith, mul-le-mul_left t h, mul-le-mul_left (suc n * p) (square a t))

-- Bernoulli's inequality for t over a
pub tangent : (n a t : ℕ) → suc n * (a ^ n * t) ≤ t ^ suc n + n * a ^ suc n
tangent zero a t = rw (pow-suc t 0, pow-zero a, pow-zero t) (omega arith)
tangent (suc n) a t =
    rw (pow-suc t (suc n), pow-suc a (suc n), pow-suc a n)
    (tangent_step n (a ^ n) (t ^ suc n) a t (rw (pow-suc a n) at (tangent n a t)))

mean_step : (n u s v y S x P : ℕ) → 1 ≤ n → 1 ≤ v → suc n * (u * s * (n * (S + x))) ≤ v * n * y + n * (u * s * (suc n * S)) → v * P ≤ s →
    u * suc n * (P * x) ≤ y
mean_step n u s v y S x P some more h k =
    let first : n * (suc n * (u * s * x)) ≤ n * (v * y) = omega (arith, h) in
    let second : suc n * (u * s * x) ≤ v * y = le_of_mul-le-mul_left {k = n} first some in
    let third : v * (u * suc n * (P * x)) ≤ v * y = omega (arith, second, mul-le-mul_left (suc n * u * x) k) in
    le_of_mul-le-mul_left {k = v} third more

-- a product of n numbers is at most the power of their mean
pub power_mean : (n : ℕ) (f : ℕ → ℕ) → n ^ n * product_of n f ≤ sum_below n f ^ n
power_mean zero f = omega arith
power_mean (suc zero) f = rw (pow-suc 1 0, pow-suc (sum_below 1 f) 0, pow-zero 1, pow-zero (sum_below 1 f)) (omega arith)
power_mean (suc (suc n)) f =
    let m : ℕ = suc n in
    let S : ℕ = sum_below (suc n) f in
    let x : ℕ = f (suc n) in
    rw (pow-suc (suc (suc n)) (suc n))
    (mean_step (suc n) (suc (suc n) ^ suc n) (S ^ suc n) (suc n ^ suc n) ((S + x) ^ suc (suc n)) S x (product_of (suc n) f) (omega arith) (one-le-pow (suc n) (suc n) (omega arith))
    (rw (mul-pow (suc (suc n)) S (suc n), mul-pow (suc n) (S + x) (suc (suc n)), pow-suc (suc n) (suc n), pow-suc (suc (suc n) * S) (suc n), mul-pow (suc (suc n)) S (suc n)) at (tangent (suc n) (suc (suc n) * S) (suc n * (S + x))))
    (power_mean (suc n) f))

-- numbers whose sum is at most n times w
pub product-le : (n w : ℕ) (f : ℕ → ℕ) → sum_below n f ≤ n * w → product_of n f ≤ w ^ n
product-le zero w f h = omega (arith, pow-zero w)
product-le (suc n) w f h =
    let less : sum_below (suc n) f ^ suc n ≤ (suc n * w) ^ suc n = pow-le-pow_left h (suc n) in
    let power : (suc n * w) ^ suc n ≡ suc n ^ suc n * w ^ suc n = mul-pow (suc n) w (suc n) in
    let both : suc n ^ suc n * product_of (suc n) f ≤ suc n ^ suc n * w ^ suc n = omega (arith, power_mean (suc n) f, less, power) in
    le_of_mul-le-mul_left {k = suc n ^ suc n} both (one-le-pow (suc n) (suc n) (omega arith))
