-- Common multiples.
use Rattle.std.specs.Prelude.{ℕ, ◌≤◌}
use Rattle.std.specs.Int.{◌∣◌}

-- the least common multiple of two numbers: above 0, and a divisor of every other
pub record IsLeastMultiple (a b multiple : ℕ) : Type 0 where
  pub above : 1 ≤ multiple
  pub first : a ∣ multiple
  pub second : b ∣ multiple
  pub least : (h : ℕ) → a ∣ h → b ∣ h → multiple ∣ h
