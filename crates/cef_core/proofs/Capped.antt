-- numbers within their limits
use Rattle.std.proofs.Common.{◌≡◌, ℕ, zero, suc, ◌+◌, ◌*◌, ◌/◌, ◌-◌, mul_comm, add-zero, add-suc, pow-suc, ◌^◌, ◌≤◌, ◌<◌, leb, Option, Some, None, refl, sym, ap, ◌∙◌, arith, add-one, true, false, cond, Bool}
use Rattle.std.specs.Prelude.{nat_le}
use Rattle.std.proofs.Math.Nat.{pow-le-pow_right, mul-div_cancel_left}
use Rattle.std.proofs.lemmas.Grind.{pow_more}
use Rattle.std.proofs.lemmas.Bool.Decides.{nat_tests}
use Rattle.cef_core.specs.Capped.{within}
use Rattle.cef_core.specs.Points.{number_of}
use Rattle.cef_core.proofs.Counting.{one_more_site, number_of-le, number_of-zero, number_of-both, number_of-none}

pub within-yes : (limit n : ℕ) → n ≤ limit → within limit n ≡ Some n
within-yes limit n h = grind (arith, nat_tests)

pub within-no : (limit n : ℕ) → limit < n → within limit n ≡ None
within-no limit n h = grind (arith, nat_tests)

pub within-some : (limit n m : ℕ) → within limit n ≡ Some m → (m ≡ n) × (n ≤ limit)
within-some limit n m h = by_test (nat_le n limit) refl h
  where
    by_test : (b : Bool) → nat_le n limit ≡ b → cond b (Some n) None ≡ Some m → (m ≡ n) × (n ≤ limit)
    by_test true e h = (cc, grind (arith, nat_tests))
    by_test false e h = cc

pub within-none : (limit n : ℕ) → within limit n ≡ None → limit < n
within-none limit n h = by_test (nat_le n limit) refl h
  where
    by_test : (b : Bool) → nat_le n limit ≡ b → cond b (Some n) None ≡ None → limit < n
    by_test true e h = cc
    by_test false e h = grind (arith, nat_tests)

-- once above the limit, a power stays there
pub power-above : (base i exponent limit : ℕ) → 1 ≤ limit → limit < base ^ i → i ≤ exponent → limit < base ^ exponent
power-above zero zero exponent limit one above le = omega (arith, above)
power-above zero (suc i) exponent limit one above le =
    let none : 0 ^ suc i ≡ 0 = rw pow-suc (omega arith) in
    absurd (omega (arith, none, above))
power-above (suc base) i exponent limit one above le = omega (arith, above, pow-le-pow_right {n = suc base} (omega arith) {i = i} {j = exponent} le)

-- one more site: the number of lists by a quotient without a rest
pub next_number : (n total : ℕ) → 1 ≤ n → number_of n total * (total + n) / n ≡ number_of (n + 1) total
next_number n total some =
    let e : number_of n total * (total + n) ≡ n * number_of (suc n) total = mul_comm (number_of n total) (total + n) ∙ sym (one_more_site n total) in
    rw (e, add-one) (mul-div_cancel_left (number_of (suc n) total) some)

number_of-more : (n k total : ℕ) → number_of n total ≤ number_of (n + k) total
number_of-more n zero total = rw add-zero (omega arith)
number_of-more n (suc k) total = rw add-suc (omega (arith, number_of-more n k total, number_of-le (n + k) total))

-- no fewer with more sites
pub number_of-rises : (n m total : ℕ) → n ≤ m → number_of n total ≤ number_of m total
number_of-rises n m total h =
    let e : n + (m - n) ≡ m = omega arith in
    omega (arith, number_of-more n (m - n) total, ap (λ (j : ℕ). number_of j total) e)

pub number_of-one : (total : ℕ) → number_of 1 total ≡ 1
number_of-one zero = number_of-zero 1
number_of-one (suc total) = omega (arith, number_of-both 0 total, number_of-none total, number_of-one total)

-- one more factor that is within the limit
pub power-next : (limit base i power next : ℕ) → power ≡ base ^ i → Some next ≡ within limit (power * base) → (next ≡ base ^ (i + 1)) × (next ≤ limit)
power-next limit base i power next powered is =
    let both = within-some limit (power * base) next (sym is) in
    (both.0 ∙ rw powered (sym (pow_more base i)), omega (arith, both.0, both.1))

-- one more factor that is not
pub power-none : (limit base i exponent power : ℕ) → 1 ≤ limit → i < exponent → power ≡ base ^ i → None ≡ within limit (power * base) → None ≡ within limit (base ^ exponent)
power-none limit base i exponent power one more powered is =
    let above : limit < power * base = within-none limit (power * base) (sym is) in
    let e : base ^ (i + 1) ≡ power * base = rw powered (pow_more base i) in
    sym (within-no limit (base ^ exponent) (power-above base (i + 1) exponent limit one (omega (arith, e, above)) (omega (arith, more))))

pub power-all : (limit base i exponent power : ℕ) → i ≡ exponent → power ≡ base ^ i → power ≤ limit → Some power ≡ within limit (base ^ exponent)
power-all limit base i exponent power all powered small =
    let e : power ≡ base ^ exponent = powered ∙ ap (λ (j : ℕ). base ^ j) all in
    ap Some e ∙ sym (within-yes limit (base ^ exponent) (omega (arith, e, small)))
