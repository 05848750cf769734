-- Ideal mixing on the sites.
use Rattle.std.specs.Prelude.{ℕ, ◌-◌, ◌*◌, ◌/◌, List, [], ◌∷◌, ℤ, pos, ◌+ℤ◌, neg_ℤ}
use Rattle.cal_limits.specs.declared.TheConstants.{GAS_CONSTANT}
use Rattle.cal_math.specs.Logarithm.{log_of}

-- The energy of mixing of k of N parts of a site, in µJ per mol of formula units, at t hundredths of a kelvin and the ratio a:
--   h(k) = - floor (831451 * t * a * k * (L(N) - L(k)) / (N * 10^16)), and h(0) = 0.
unfoldable pub mixing_at : ℕ → ℕ → ℕ → ℕ → ℤ
mixing_at t n a k = neg_ℤ (pos (GAS_CONSTANT * t * a * k * (log_of n - log_of k) / (n * 10000000000000000)))

abbrev pub mixing_of_counts : ℕ → ℕ → ℕ → List ℕ → ℤ
mixing_of_counts t n a [] = pos 0
mixing_of_counts t n a (k ∷ counts) = mixing_at t n a k +ℤ mixing_of_counts t n a counts

-- the sum over all sites
abbrev pub mixing_over : ℕ → ℕ → List ℕ → List (List ℕ) → ℤ
mixing_over t n (a ∷ ratios) (counts ∷ more) = mixing_of_counts t n a counts +ℤ mixing_over t n ratios more
mixing_over t n [] more = pos 0
mixing_over t n (a ∷ ratios) [] = pos 0
