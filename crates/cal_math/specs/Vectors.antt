-- Whole vectors as functions of the component, their sums and products, and lists of whole numbers as vectors.
use Rattle.std.specs.Prelude.{ℕ, zero, suc, List, slice_index_or}
use Rattle.std.specs.Prelude.{ℤ, pos, ◌+ℤ◌, ◌*ℤ◌}

-- the number at c, and 0 past the end
abbrev pub at : List ℤ → ℕ → ℤ
at numbers c = slice_index_or numbers c (pos 0)

-- f 0 + f 1 + .. + f (n - 1)
abbrev pub sum_to : ℕ → (ℕ → ℤ) → ℤ
sum_to zero f = pos 0
sum_to (suc n) f = sum_to n f +ℤ f n

-- the product of a row with a column of n components: r 0 * x 0 + .. + r (n - 1) * x (n - 1)
unfoldable pub dot : ℕ → (ℕ → ℤ) → (ℕ → ℤ) → ℤ
dot n r x = sum_to n (λ c. r c *ℤ x c)
