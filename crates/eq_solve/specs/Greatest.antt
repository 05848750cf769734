-- Lists with one constituent alone on each sublattice, and the one of the greatest value.
use Rattle.std.specs.Prelude.{◌≡◌, ℕ, zero, suc, ◌<◌, List, [], ◌∷◌, length, replicate, Option, Some, None, ℤ, pos, ◌≤ℤ◌, slice_index_or}
use Rattle.cal_math.specs.Vectors.{at}

-- the value of a unit of the constituent
abbrev pub site_value : List ℤ → Option ℕ → ℤ
site_value v None = pos 0
site_value v (Some c) = at v c

-- the place of a constituent of the greatest value
pub record IsBest (v : List ℤ) (sites : List (Option ℕ)) (place : ℕ) : Type 0 where
  pub within : place < length sites
  pub most : (k : ℕ) (d : Option ℕ) → k < length sites → site_value v (slice_index_or sites k d) ≤ℤ site_value v (slice_index_or sites place d)

-- n at the place and 0 elsewhere, of a sublattice of so many sites
abbrev pub alone : ℕ → ℕ → ℕ → List ℕ
alone n place zero = []
alone n zero (suc size) = n ∷ replicate size 0
alone n (suc place) (suc size) = 0 ∷ alone n place size

-- a constituent of the greatest value alone on each sublattice
abbrev pub AreBest : ℕ → List ℤ → List (List (Option ℕ)) → List (List ℕ) → Type 0
AreBest n v [] [] = Unit {0}
AreBest n v (sites ∷ rest) (counts ∷ more) = ((place : ℕ) × IsBest v sites place × (counts ≡ alone n place (length sites))) × AreBest n v rest more
AreBest n v [] (counts ∷ more) = ⊥
AreBest n v (sites ∷ rest) [] = ⊥
