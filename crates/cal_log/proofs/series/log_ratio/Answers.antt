use Rattle.std.proofs.Common.{◌≡◌, ℕ, suc, ◌+◌, ◌-◌, ◌*◌, ◌/◌, ◌^◌, ◌≤◌, ap, sym, ◌∙◌, arith, refl, inl, inr}
use Rattle.std.proofs.Math.Nat.{pow-zero, pow-suc}
use Rattle.std.proofs.lemmas.Bool.{cases_lt}
use Rattle.cal_math.specs.Logarithm.{log_step, log_summand}
use Rattle.cal_log.specs.Series.{left_of, terms, term-is, terms-le, left_square, left_33, terms_without_rest, terms_after}
use Rattle.cal_log.proofs.series.log_ratio.Goals as goal

first_power : (x : ℕ) → x ^ 1 ≡ x
first_power x = omega (arith, pow-suc x 0, ap (λ p. p * x) (pow-zero x))

pub series-init : goal.series-init
series-init c = record {
  few = omega arith;
  left = ap (λ p. 2000000000000000 / p) (sym (first_power (2 * c.args.i - 1)));
  so_far = refl;
}

-- one more summand
next_sum : (x k sum power : ℕ) → sum ≡ terms x k → power ≡ left_of x (2 * k + 1) → sum + power / (2 * k + 1) ≡ terms x (k + 1)
next_sum x k sum power h p = omega (arith, h, ap (λ n. n / (2 * k + 1)) p, term-is x (2 * k + 1), ap (λ e. terms x e) (at_suc k))
  where
    at_suc : (k : ℕ) → k + 1 ≡ suc k
    at_suc k = omega arith

next_left : (x k power : ℕ) → power ≡ left_of x (2 * k + 1) → power / (x * x) ≡ left_of x (2 * (k + 1) + 1)
next_left x k power p = ap (λ n. n / (x * x)) p ∙ sym (left_square x (2 * k + 1)) ∙ ap (λ e. left_of x e) (at_two k)
  where
    at_two : (k : ℕ) → 2 * k + 1 + 2 ≡ 2 * (k + 1) + 1
    at_two k = omega arith

few_of : (x k power : ℕ) → 3 ≤ x → k ≤ 16 → power ≡ left_of x (2 * k + 1) → 1 ≤ power → k + 1 ≤ 16
few_of x k power h few p one =
    elim (cases_lt k 16) [
      | inl less ↦ omega arith
      | inr most ↦ absurd (omega (arith, p, left_33 x h, ap (λ e. left_of x (2 * e + 1)) (sixteen k few most)))
    ]
  where
    sixteen : (k : ℕ) → k ≤ 16 → 16 ≤ k → k ≡ 16
    sixteen k few most = omega arith

pub overflow_add-sum : goal.overflow_add-sum
overflow_add-sum c =
    let x : ℕ = 2 * c.args.i - 1 in
    let next : c.series.sum + c.series.power / (2 * c.series.terms + 1) ≡ terms x (c.series.terms + 1) = next_sum x _ _ _ c.series.invariant.so_far c.series.invariant.left in
    let bound : terms x (c.series.terms + 1) ≤ 2000000000000000 = terms-le x (c.series.terms + 1) (omega arith) in
    omega (arith, next, bound, c.summand-sum.ensures)

pub series-smaller : goal.series-smaller
series-smaller c =
    let few : c.series.terms + 1 ≤ 16 = few_of (2 * c.args.i - 1) c.series.terms c.series.power (omega arith) (omega arith) c.series.invariant.left (omega arith) in
    omega arith

pub series-preserved : goal.series-preserved
series-preserved c = record {
  few = few_of (2 * c.args.i - 1) c.series.terms c.series.power (omega arith) (omega arith) c.series.invariant.left (omega arith);
  left = c.divided-power.ensures ∙ next_left _ _ _ c.series.invariant.left;
  so_far = ap (λ n. c.series.sum + n) c.summand-sum.ensures ∙ next_sum _ _ _ _ c.series.invariant.so_far c.series.invariant.left;
}

whole : (x k : ℕ) → 3 ≤ x → k ≤ 16 → left_of x (2 * k + 1) ≡ 0 → terms x k ≡ terms x 15
whole x k h few ends = sym (terms_without_rest x k (16 - k) ends) ∙ ap (λ e. terms x e) (sixteen k few) ∙ terms_after x 1 h
  where
    sixteen : (k : ℕ) → k ≤ 16 → k + (16 - k) ≡ 15 + 1
    sixteen k few = omega arith

pub returns : goal.returns
unfolding log_step log_summand
returns c =
    let none : left_of (2 * c.args.i - 1) (2 * c.series.terms + 1) ≡ 0 = omega (arith, c.series.invariant.left) in
    c.series.invariant.so_far ∙ whole (2 * c.args.i - 1) c.series.terms (omega arith) (omega arith) none
