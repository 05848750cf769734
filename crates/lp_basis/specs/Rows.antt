-- Lists of whole numbers as vectors, and when their products fit 128 bits.
use Rattle.std.specs.Prelude.{◌≡◌, ℕ, ◌*◌, ◌<◌, ◌≤◌, ◌^◌, List, length}
use Rattle.std.specs.Prelude.{ℤ, pos, ◌≤ℤ◌, unsigned_abs}
use Rattle.cal_math.specs.Vectors.{at, sum_to}

-- a row of magnitudes at most m meets a column of numbers of at least 0 whose sum is at most w
pub record FitsProduct (m w : ℕ) (row column : List ℤ) : Type 0 where
  pub sized : length row ≡ length column
  pub row_small : (c : ℕ) → unsigned_abs (at row c) ≤ m
  pub least : (c : ℕ) → pos 0 ≤ℤ at column c
  pub sum : sum_to (length row) (at column) ≤ℤ pos w
  pub room : m * w < 2 ^ 126

-- multiples, by numbers of magnitudes at most r, of rows of magnitudes at most m
pub record FitsMixed (m r : ℕ) (p : ℤ) (row : List ℤ) (q : ℤ) (other : List ℤ) : Type 0 where
  pub row_small : (c : ℕ) → unsigned_abs (at row c) ≤ m
  pub other_small : (c : ℕ) → unsigned_abs (at other c) ≤ m
  pub p_small : unsigned_abs p ≤ r
  pub q_small : unsigned_abs q ≤ r
  pub room : r * m < 2 ^ 126
