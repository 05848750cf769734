-- Lists of whole numbers in lexicographic order.
use Rattle.std.specs.Prelude.{◌≡◌, ℕ, ◌<◌, ℤ, pos, ◌≤ℤ◌}

-- of the first `size` numbers the first that is not 0 is above 0
pub record IsLexAbove (size : ℕ) (f : ℕ → ℤ) : Type 0 where
  pub place : ℕ
  pub within : place < size
  pub zeros : (c : ℕ) → c < place → f c ≡ pos 0
  pub above : pos 1 ≤ℤ f place
