-- The order of constitutions.
use Rattle.std.specs.Prelude.{◌≡◌, ℕ, ◌<◌, ◌⊎◌, List, [], ◌∷◌}

-- the first count that differs is less
abbrev pub AreLess : List ℕ → List ℕ → Type 0
AreLess [] counts = ⊥
AreLess (j ∷ less) [] = ⊥
AreLess (j ∷ less) (k ∷ counts) = (j < k) ⊎ ((j ≡ k) × AreLess less counts)
