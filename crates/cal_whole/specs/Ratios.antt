-- What an answer says of two numbers.
use Rattle.std.specs.Prelude.{◌≡◌, ℕ, ◌<◌, ℤ, ◌<ℤ◌}
use Rattle.std.specs.declared.cmp.Ordering.{Ordering}
use Rattle.std.specs.Ordering.{MatchOrdering}

-- Less where x < y, Equal where x = y, Greater where y < x
abbrev pub IsOrdered : Ordering → ℕ → ℕ → Type 0
IsOrdered o x y = MatchOrdering o (x < y) (x ≡ y) (y < x)

-- and that of numbers with signs
abbrev pub IsOrderedSigned : Ordering → ℤ → ℤ → Type 0
IsOrderedSigned o x y = MatchOrdering o (x <ℤ y) (x ≡ y) (y <ℤ x)
