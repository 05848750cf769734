-- Boxes of counts: a range for each site, and the lists of counts in them.
use Rattle.std.specs.Prelude.{◌≡◌, ℕ, ◌≤◌, List, [], ◌∷◌, map, sum}
use Rattle.cef_box.specs.declared.range.Range.{Range}

-- the lows and the highs, as lists of counts
abbrev pub lows_of : List (List Range) → List (List ℕ)
lows_of box = map (λ row. map (λ (r : Range). r.low) row) box

abbrev pub highs_of : List (List Range) → List (List ℕ)
highs_of box = map (λ row. map (λ (r : Range). r.high) row) box

-- each count lies in its range
abbrev pub AllWithin : List Range → List ℕ → Type 0
AllWithin [] [] = Unit {0}
AllWithin (r ∷ row) (k ∷ counts) = (r.low ≤ k) × (k ≤ r.high) × AllWithin row counts
AllWithin [] (k ∷ counts) = ⊥
AllWithin (r ∷ row) [] = ⊥

-- and together they add to n
pub record IsInRow (n : ℕ) (row : List Range) (counts : List ℕ) : Type 0 where
  pub within : AllWithin row counts
  pub adds : sum counts ≡ n

-- A member of a box on the lattice n: such counts for each sublattice.
abbrev pub IsMember : ℕ → List (List Range) → List (List ℕ) → Type 0
IsMember n [] [] = Unit {0}
IsMember n (row ∷ rows) (counts ∷ site) = IsInRow n row counts × IsMember n rows site
IsMember n [] (counts ∷ site) = ⊥
IsMember n (row ∷ rows) [] = ⊥

-- no low is above its high, and no high above n
abbrev pub IsRange : ℕ → Range → Type 0
IsRange n r = (r.low ≤ r.high) × (r.high ≤ n)

-- the counts of each site are those of its low and of its high: the box has one list at most
abbrev pub IsSingle : List (List Range) → Type 0
IsSingle box = lows_of box ≡ highs_of box
