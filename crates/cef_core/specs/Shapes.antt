-- How many sites each sublattice has.
use Rattle.std.specs.Prelude.{ℕ, List, length, map, sum}

-- how many sites each sublattice of a phase, of counts or of a box has
abbrev pub shape : {X : Type 0} → List (List X) → List ℕ
shape rows = map length rows

-- how many sites there are
abbrev pub places : {X : Type 0} → List (List X) → ℕ
places rows = sum (shape rows)
