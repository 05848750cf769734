-- What amounts of the components are worth.
use Rattle.std.specs.Prelude.{ℕ, List, length, ℤ}
use Rattle.cal_math.specs.Vectors.{at, dot}

-- at these potentials: the sum of potential times amount
abbrev pub worth : List ℤ → (ℕ → ℤ) → ℤ
worth potentials amounts = dot (length potentials) (at potentials) amounts
