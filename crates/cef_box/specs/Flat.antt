-- Rows of ranges that are kept one behind the other: all lows and all highs, with the place behind each row.
use Rattle.std.specs.Prelude.{◌≡◌, ℕ, ◌+◌, ◌-◌, List, [], ◌∷◌, take, drop, length, true}
use Rattle.cef_core.specs.Sublattices.{are_ends}
use Rattle.cef_box.specs.declared.range.Range.{Range}

-- the range from each low to the high at its place
abbrev pub ranges : List ℕ → List ℕ → List Range
ranges [] highs = []
ranges (low ∷ lows) [] = []
ranges (low ∷ lows) (high ∷ highs) = record { low = low; high = high } ∷ ranges lows highs

-- the rows that end at these places of lists that begin at the place from
abbrev pub rows_of : ℕ → List ℕ → List ℕ → List ℕ → List (List Range)
rows_of from [] lows highs = []
rows_of from (end ∷ ends) lows highs =
    ranges (take (end - from) lows) (take (end - from) highs) ∷ rows_of end ends (drop (end - from) lows) (drop (end - from) highs)

-- the lows and the highs of a box are as many as the last place says
pub record AreFlat (from : ℕ) (ends lows highs : List ℕ) : Type 0 where
  pub ends_is : are_ends from ends (from + length lows) ≡ true
  pub same : length lows ≡ length highs
