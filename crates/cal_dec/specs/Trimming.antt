-- The digits above 18: none below 10^18, and else one more than a tenth has.
use Rattle.std.proofs.Common.{◌≡◌, ◌≢◌, ℕ, zero, suc, ◌+◌, ◌-◌, ◌*◌, ◌/◌, ◌%◌, ◌^◌, ◌<◌, ◌≤◌, ◌∷◌, [], length, refl, sym, ap, subst, ◌∙◌, arith, inl, inr, length-append}
use Rattle.std.proofs.Math.Nat.{le_refl, lt-div-mul-add, div-one, div-le_self, mul_comm, div-div-eq-div-mul, pow-zero, pow-suc, pow-le-pow_right}
use Rattle.std.proofs.lemmas.Bool.{cases_lt}
use Rattle.std.proofs.lemmas.Nat.{le-div, div_below, mul-le, pow-add}
use Rattle.std.proofs.lemmas.Int.{ints}
use Rattle.std.specs.Prelude.{ℤ, pos, negsuc, ◌+ℤ◌, neg_ℤ, unsigned_abs}
use Rattle.std.proofs.lemmas.Fmt.{decimal_is_IsNumeral_wide, decimal_step_wide, length-decimal-le_wide}
use Rattle.std.proofs.lemmas.Int.Digits.{digits_value-lt}
use Rattle.std.specs.Fmt.{decimal}
use Rattle.cal_dec.specs.Tens.{ten-pow-pos, ten-pow-le}
use Rattle.cal_dec.specs.Decimals.{digits_over, trimmed}

below_length : (n : ℕ) → n < 10 ^ 64 → n < 10 ^ length (decimal n)
below_length n h =
    let is = decimal_is_IsNumeral_wide n h in
    subst (λ (m : ℕ). m < 10 ^ length (decimal n)) is.1 (digits_value-lt 10 (decimal n) is.0.1)

pub length-decimal-lt : (k n : ℕ) → 10 ^ k ≤ n → n < 10 ^ 64 → k < length (decimal n)
length-decimal-lt k n h small =
    elim (cases_lt k (length (decimal n))) [
      | inl less ↦ less
      | inr most ↦ absurd (omega (arith, below_length n small, pow-le-pow_right {n = 10} (omega arith) most))
    ]

pub digits_over_small : (n : ℕ) → n < 10 ^ 18 → digits_over n ≡ 0
unfolding digits_over
digits_over_small n h = omega (arith, length-decimal-le_wide 18 n (omega arith) h (omega arith))

pub digits_over_large : (n : ℕ) → 10 ^ 18 ≤ n → n < 10 ^ 64 → digits_over n ≡ digits_over (n / 10) + 1
unfolding digits_over
digits_over_large n h small =
    omega (arith, ap length (decimal_step_wide n (omega arith) small), length-append (decimal (n / 10)) ((48 + n % 10) ∷ []), length-decimal-lt 17 (n / 10) (omega arith) (omega arith))

pub digits_over-le : (k n : ℕ) → n < 10 ^ (18 + k) → n < 10 ^ 64 → digits_over n ≤ k
unfolding digits_over
digits_over-le k n h small = omega (arith, length-decimal-le_wide (18 + k) n (omega arith) h small)

pub tenth_of : (n k : ℕ) → n / 10 ^ k / 10 ≡ n / 10 ^ (k + 1)
tenth_of n k = div-div-eq-div-mul n (10 ^ k) 10 ∙ ap (λ p. n / p) (sym (pow-suc 10 k) ∙ ap (λ e. 10 ^ e) (next k))
  where
    next : (k : ℕ) → suc k ≡ k + 1
    next k = omega arith

-- the digits that are left begin with the first digit of the number
pub first_digit : (n : ℕ) → 0 < n → n < 10 ^ 64 → 10 ^ digits_over n ≤ n
unfolding digits_over
first_digit n above small =
    elim (cases_lt n (10 ^ (length (decimal n) - 18))) [
      | inl less ↦ below (length (decimal n) - 18) refl less
      | inr most ↦ most
    ]
  where
    below : (k : ℕ) → length (decimal n) - 18 ≡ k → n < 10 ^ k → 10 ^ k ≤ n
    below zero e less = absurd (omega (arith, ap (λ p. p) (pow-zero 10)))
    below (suc k) e less = absurd (omega (arith, length-decimal-le_wide (suc k) n (omega arith) less small))

above_of : (n : ℕ) → pos n ≢ pos 0 → 0 < n
above_of zero h = absurd (h refl)
above_of (suc n) h = omega arith

pub trimmed_not_zero : (m e : ℤ) → unsigned_abs m < 10 ^ 64 → m ≢ pos 0 → (trimmed m e).mantissa ≢ pos 0
unfolding trimmed
trimmed_not_zero (pos n) e small not_zero z =
    let above : 0 < n = above_of n not_zero in
    absurd (omega (arith, ints, z, le-div 1 n (10 ^ digits_over n) (ten-pow-pos (digits_over n)) (omega (arith, first_digit n above small))))
trimmed_not_zero (negsuc n) e small not_zero z =
    absurd (omega (arith, ints, z, le-div 1 (suc n) (10 ^ digits_over (suc n)) (ten-pow-pos (digits_over (suc n))) (omega (arith, first_digit (suc n) (omega arith) small))))

pub trimmed_exponent : (m e : ℤ) (k : ℕ) → unsigned_abs m < 10 ^ (18 + k) → unsigned_abs m < 10 ^ 64 → unsigned_abs (trimmed m e).exponent ≤ unsigned_abs e + k
unfolding trimmed
trimmed_exponent m e k h small = omega (arith, ints, digits_over-le k (unsigned_abs m) h small)

+ℤ-zero : (e : ℤ) → e +ℤ pos 0 ≡ e
+ℤ-zero e = omega (arith, ints)

-- a number of at most 18 digits stays as it is
pub trimmed_small : (m e : ℤ) → unsigned_abs m < 10 ^ 18 → trimmed m e ≡ record { mantissa = m; exponent = e }
unfolding trimmed
trimmed_small (pos n) e h = rw (digits_over_small n h) (ap (λ q. record { mantissa = pos q; exponent = e +ℤ pos 0 }) (div-one n) ∙ ap (λ x. record { mantissa = pos n; exponent = x }) (+ℤ-zero e))
trimmed_small (negsuc n) e h = rw (digits_over_small (suc n) h) (ap (λ q. record { mantissa = neg_ℤ (pos q); exponent = e +ℤ pos 0 }) (div-one (suc n)) ∙ ap (λ x. record { mantissa = negsuc n; exponent = x }) (+ℤ-zero e))

ten-pow-add : (j k : ℕ) → 10 ^ (j + k) ≡ 10 ^ j * 10 ^ k
ten-pow-add j k = pow-add 10 j k

-- as many digits are dropped as bring the number below 10^18, and no more
pub digits_over-enough : (n : ℕ) → n < 10 ^ 64 → n / 10 ^ digits_over n < 10 ^ 18
unfolding digits_over
digits_over-enough n small =
    let k : ℕ = length (decimal n) - 18 in
    div_below n (10 ^ k) (10 ^ 18) (ten-pow-pos k) (omega (arith, below_length n small, ten-pow-le (length (decimal n)) (18 + k) (omega arith), ten-pow-add 18 k))

pub digits_over-least : (n j : ℕ) → n < 10 ^ 64 → n / 10 ^ j < 10 ^ 18 → digits_over n ≤ j
digits_over-least n j small below = digits_over-le j n (omega (arith, ten-pow-add 18 j, lt-div-mul-add {a = n} {b = 10 ^ j} (ten-pow-pos j), mul-le (n / 10 ^ j + 1) (10 ^ j) (10 ^ 18) (10 ^ j) (omega arith) (le_refl (10 ^ j)))) small

-- m is a number's first digits, at most 18, and k counts the further ones
pub record IsFirst (number m k : ℕ) : Type 0 where
  pub magnitude : m ≡ number / 10 ^ digits_over number
  pub dropped : k ≡ digits_over number

-- where digits are dropped, 18 are left
eighteen_left : (n : ℕ) → 0 < digits_over n → n < 10 ^ 64 → 10 ^ 17 ≤ n / 10 ^ digits_over n
unfolding digits_over
eighteen_left n some small =
    let k : ℕ = length (decimal n) - 18 in
    elim (cases_lt n (10 ^ (17 + k))) [
      | inl less ↦ absurd (omega (arith, length-decimal-le_wide (17 + k) n (omega arith) less small))
      | inr most ↦ le-div (10 ^ 17) n (10 ^ k) (ten-pow-pos k) (omega (arith, most, ten-pow-add 17 k))
    ]

-- a further digit is kept while there are fewer than 18
pub IsFirst-kept : (n m k d : ℕ) → n < 10 ^ 64 → d < 10 → m < 10 ^ 17 → IsFirst n m k → IsFirst (n * 10 + d) (m * 10 + d) k
IsFirst-kept n m k d small digit few is =
    elim (cases_lt 0 (digits_over n)) [
      | inl some ↦ absurd (omega (arith, eighteen_left n some small, is.magnitude))
      | inr none ↦
          let zero_over : digits_over n ≡ 0 = omega arith in
          let same : m ≡ n = is.magnitude ∙ ap (λ j. n / 10 ^ j) zero_over ∙ div-one n in
          let none_still : digits_over (n * 10 + d) ≡ 0 = digits_over_small (n * 10 + d) (omega (arith, same)) in
          record {
            magnitude = ap (λ m. m * 10 + d) same ∙ sym (ap (λ j. (n * 10 + d) / 10 ^ j) none_still ∙ div-one (n * 10 + d));
            dropped = is.dropped ∙ zero_over ∙ sym none_still;
          }
    ]

-- and dropped after that
pub IsFirst-dropped : (n m k d : ℕ) → n * 10 + d < 10 ^ 64 → d < 10 → 10 ^ 17 ≤ m → IsFirst n m k → IsFirst (n * 10 + d) m (k + 1)
IsFirst-dropped n m k d small digit many is =
    let tenth : (n * 10 + d) / 10 ≡ n = omega arith in
    let large : 10 ^ 18 ≤ n * 10 + d = omega (arith, is.magnitude, div-le_self n (10 ^ digits_over n)) in
    let one_more : digits_over (n * 10 + d) ≡ digits_over n + 1 = digits_over_large (n * 10 + d) large small ∙ ap (λ n. digits_over n + 1) tenth in
    record {
      magnitude = is.magnitude ∙ ap (λ q. q / 10 ^ digits_over n) (sym tenth) ∙ later (n * 10 + d) (digits_over n) ∙ ap (λ j. (n * 10 + d) / 10 ^ j) (sym one_more);
      dropped = ap (λ k. k + 1) is.dropped ∙ sym one_more;
    }
  where
    next : (j : ℕ) → suc j ≡ j + 1
    next j = omega arith

    later : (v j : ℕ) → v / 10 / 10 ^ j ≡ v / 10 ^ (j + 1)
    later v j = div-div-eq-div-mul v 10 (10 ^ j) ∙ ap (λ p. v / p) (mul_comm 10 (10 ^ j) ∙ sym (pow-suc 10 j) ∙ ap (λ e. 10 ^ e) (next j))
