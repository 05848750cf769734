-- A ratio in lowest terms, from the greatest common divisor.
use Rattle.std.proofs.Common.{◌≡◌, ℕ, ◌*◌, ◌/◌, ◌≤◌, arith, ap, sym, ◌∙◌}
use Rattle.std.specs.Int.{IsGcd}
use Rattle.std.proofs.lemmas.Nat.Gcd.{le_of_dvd}
use Rattle.cal_math.proofs.Divisors.{dvd_from, times_quotient, factor_above, rest_divides}
use Rattle.lp_core.specs.Weights.{IsLowest}
use Rattle.lp_core.specs.declared.weight.Fraction.{Fraction}

pub IsLowest-from_gcd : (above below g : ℕ) (fraction : Fraction) → 1 ≤ below → IsGcd below above g → fraction.numerator ≡ above / g → fraction.denominator ≡ below / g → IsLowest above below fraction
IsLowest-from_gcd above below g fraction some is n_is d_is =
    let above_is : above ≡ g * (above / g) = times_quotient g above is.1 in
    let below_is : below ≡ g * (below / g) = times_quotient g below is.0 in
    let n : ℕ = above / g in
    let d : ℕ = below / g in
    rw (n_is, d_is) (record {
      exact = ap (λ (v : ℕ). n * v) below_is ∙ omega arith ∙ ap (λ (v : ℕ). v * d) (sym above_is);
      positive = factor_above d below some (dvd_from d below g (below_is ∙ omega arith));
      most = le_of_dvd some (dvd_from d below g (below_is ∙ omega arith));
      lowest = λ h divides. rest_divides below above g h some is divides;
    })
