-- The least common multiple, from the greatest common divisor.
use Rattle.std.proofs.Common.{◌≡◌, ℕ, ◌*◌, ◌/◌, ◌≤◌, arith, ap, sym, ◌∙◌, subst}
use Rattle.std.specs.Int.{◌∣◌, IsGcd}
use Rattle.std.proofs.Math.Nat.{dvd-mul_right, mul-le-mul_right}
use Rattle.cal_math.proofs.Divisors.{dvd_from, times_quotient, factor_above, rest_divides}
use Rattle.cal_whole.specs.Divisors.{IsLeastMultiple}

pub IsLeastMultiple-from_gcd : (a b g : ℕ) → 1 ≤ a → 1 ≤ b → IsGcd b a g → IsLeastMultiple a b (a * (b / g))
IsLeastMultiple-from_gcd a b g a_above b_above is =
    let a_is : a ≡ g * (a / g) = times_quotient g a is.1 in
    let b_is : b ≡ g * (b / g) = times_quotient g b is.0 in
    let r : ℕ = b / g in
    let r_above : 1 ≤ r = factor_above r b b_above (dvd_from r b g (b_is ∙ omega arith)) in
    record {
      above = omega (arith, mul-le-mul_right r a_above, r_above);
      first = dvd-mul_right a r;
      second = dvd_from b (a * r) (a / g) (ap (λ (v : ℕ). v * r) a_is ∙ omega arith ∙ ap (λ (v : ℕ). v * (a / g)) (sym b_is));
      least = λ h first second.
          let t : ℕ = h / a in
          let h_is : h ≡ a * t = times_quotient a h first in
          let rest : r ∣ t = rest_divides b a g t b_above is (subst (λ (v : ℕ). b ∣ v) (h_is ∙ omega arith) second) in
          dvd_from (a * r) h (t / r) (h_is ∙ ap (λ (v : ℕ). a * v) (times_quotient r t rest) ∙ omega arith);
    }
