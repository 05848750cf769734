-- Which boxes have members, and tightened boxes.
use Rattle.std.specs.Prelude.{◌≡◌, ℕ, ◌+◌, ◌-◌, ◌≤◌, min, max, List, [], ◌∷◌, Some, slice_get, length, map, replicate}
use Rattle.cef_core.specs.declared.phase.PhaseAt.{PhaseAt}
use Rattle.cef_box.specs.declared.range.Range.{Range}
use Rattle.cef_box.specs.Boxes.{IsInRow, IsMember}

-- the sums of the lows and of the highs of a row
abbrev pub lows : List Range → ℕ
lows [] = 0
lows (r ∷ row) = r.low + lows row

abbrev pub highs : List Range → ℕ
highs [] = 0
highs (r ∷ row) = r.high + highs row

-- no low is above its high
abbrev pub IsOrdered : List Range → Type 0
IsOrdered [] = Unit {0}
IsOrdered (r ∷ row) = (r.low ≤ r.high) × IsOrdered row

-- A row is not empty: no low is above its high, and n lies from the sum of the lows to that of the highs.
pub record HasList (n : ℕ) (row : List Range) : Type 0 where
  pub ordered : IsOrdered row
  pub not_above : lows row ≤ n
  pub not_below : n ≤ highs row

-- A box is not empty.
abbrev pub HasSite : ℕ → List (List Range) → Type 0
HasSite n [] = Unit {0}
HasSite n (row ∷ rows) = HasList n row × HasSite n rows

-- each range is the set of values that the lists of the row take there
abbrev pub IsTight : ℕ → List Range → Type 0
IsTight n row = (i : ℕ) (r : Range) (v : ℕ) → slice_get row i ≡ Some r → r.low ≤ v → v ≤ r.high →
    (counts : List ℕ) × (IsInRow n row counts) × (slice_get counts i ≡ Some v)

abbrev pub IsTightBox : ℕ → List (List Range) → Type 0
IsTightBox n [] = Unit {0}
IsTightBox n (row ∷ rows) = IsTight n row × IsTightBox n rows

-- tightened: each low is at least what the other highs leave, each high at most what the other lows leave
abbrev pub tight_range : ℕ → ℕ → ℕ → Range → Range
tight_range n low_sum high_sum r = record { low = max r.low (n - (high_sum - r.high)); high = min r.high (n - (low_sum - r.low)) }

abbrev pub tightened_by : ℕ → ℕ → ℕ → List Range → List Range
tightened_by n low_sum high_sum [] = []
tightened_by n low_sum high_sum (r ∷ row) = tight_range n low_sum high_sum r ∷ tightened_by n low_sum high_sum row

abbrev pub tightened : ℕ → List Range → List Range
tightened n row = tightened_by n (lows row) (highs row) row

abbrev pub tightened_box : ℕ → List (List Range) → List (List Range)
tightened_box n [] = []
tightened_box n (row ∷ rows) = tightened n row ∷ tightened_box n rows

-- The second box is the first with each range cut to the values that members take there: both have the same members.
pub record IsTightened (n : ℕ) (box cut : List (List Range)) : Type 0 where
  pub has_site : HasSite n cut
  pub tight : IsTightBox n cut
  pub keeps : (site : List (List ℕ)) → IsMember n box site → IsMember n cut site
  pub adds_none : (site : List (List ℕ)) → IsMember n cut site → IsMember n box site

-- the range from 0 to n for each site
abbrev pub all_ranges : {X : Type 0} → ℕ → List (List X) → List (List Range)
all_ranges n sites = map (λ row. replicate (length row) (record { low = 0; high = n })) sites

-- the tightened box of all lists of counts of a phase
abbrev pub full_box : PhaseAt → List (List Range)
full_box phase = tightened_box phase.lattice (all_ranges phase.lattice phase.sites)
