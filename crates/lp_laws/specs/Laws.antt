-- What an exchange keeps, that a basis has one list of primitive rows, and where the units stand.
use Rattle.std.specs.Prelude.{◌≡◌, ℕ, ◌<◌}
use Rattle.std.specs.Prelude.{ℤ}
use Rattle.lp_laws.specs.Bases.{IsBasis, IsPrimitive, IsExchange}

-- the columns after an exchange are a basis again, with the rows that the exchange makes
abbrev pub ExchangeKeepsBasis : Type 0
ExchangeKeepsBasis = (n m i : ℕ) (columns rows : ℕ → ℕ → ℤ) (own new : ℕ →
    ℤ) (turn : ℤ) (columns' rows' : ℕ → ℕ → ℤ) (own' : ℕ → ℤ) → i < m →
    IsBasis n m columns rows own → IsExchange n m i columns rows own new turn columns' rows' own' →
    IsBasis n m columns' rows' own'

-- columns determine their primitive rows and the rows' own products
abbrev pub RowsAreUnique : Type 0
RowsAreUnique = (n m : ℕ) (columns rows : ℕ → ℕ → ℤ) (own : ℕ → ℤ) (rows' : ℕ → ℕ → ℤ) (own' : ℕ →
    ℤ) →
    IsBasis n m columns rows own → IsBasis n m columns rows' own' →
    (j : ℕ) → j < m → IsPrimitive n (rows j) → IsPrimitive n (rows' j) → (own' j ≡ own j)
    × ((c : ℕ) → c < n → rows' j c ≡ rows j c)
