-- The products of the rows of a basis with combinations of its columns.
use Rattle.std.proofs.Common.{◌≡◌, ℕ, ◌<◌, ap, sym, ◌∙◌}
use Rattle.std.specs.Prelude.{ℤ, ◌*ℤ◌}
use Rattle.cal_math.specs.Vectors.{sum_to, dot}
use Rattle.cal_math.proofs.Products.{times_zero}
use Rattle.cal_math.proofs.Vectors.{sum-one, dot-combined}
use Rattle.lp_laws.specs.Bases.{IsBasis}

-- a row's product with a combination of the columns of its basis
pub dot_basis : (n m : ℕ) (columns rows : ℕ → ℕ → ℤ) (own a : ℕ → ℤ) → IsBasis n m columns rows own → (l : ℕ) → l < m →
    dot n (rows l) (λ c. sum_to m (λ j. a j *ℤ columns j c)) ≡ a l *ℤ own l
dot_basis n m columns rows own a basis l lt =
    dot-combined n m (rows l) a columns
    ∙ sum-one m l (λ j. a j *ℤ dot n (rows l) (columns j)) lt (λ j less ne. ap (λ (z : ℤ). a j *ℤ z) (basis.kills l j lt less (λ e. ne (sym e))) ∙ times_zero (a j))
    ∙ ap (λ (z : ℤ). a l *ℤ z) (basis.owns l lt)
