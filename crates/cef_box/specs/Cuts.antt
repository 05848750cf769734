-- The two parts of a box that is cut at a place.
use Rattle.std.specs.Prelude.{◌≡◌, ℕ, zero, suc, ◌+◌, ◌-◌, ◌≤◌, ◌<◌, List, [], ◌∷◌, Option, Some, None, slice_get, cond, ltb, length, ◌⊎◌}
use Rattle.cef_box.specs.declared.range.Range.{Range}
use Rattle.cef_box.specs.Boxes.{IsMember}
use Rattle.cef_box.specs.Tight.{HasSite, tightened_box}

-- the range of a place: places count on over the sublattices
abbrev pub range_at : List (List Range) → ℕ → Option Range
range_at [] p = None
range_at (row ∷ rows) p = cond (ltb p (length row)) (slice_get row p) (range_at rows (p - length row))

-- place i of the row has another range
abbrev pub placed : ℕ → Range → List Range → List Range
placed i s [] = []
placed zero s (r ∷ row) = s ∷ row
placed (suc i) s (r ∷ row) = r ∷ placed i s row

-- the place of the box has another range
abbrev pub placed_in : ℕ → Range → List (List Range) → List (List Range)
placed_in p s [] = []
placed_in p s (row ∷ rows) = cond (ltb p (length row)) (placed p s row ∷ rows) (row ∷ placed_in (p - length row) s rows)

-- a range up to a cut, and above it
abbrev pub left_range : ℕ → Range → Range
left_range cut r = record { low = r.low; high = cut }

abbrev pub right_range : ℕ → Range → Range
right_range cut r = record { low = cut + 1; high = r.high }

-- the range of the place can be cut there
pub record IsCuttable (box : List (List Range)) (place cut : ℕ) : Type 0 where
  pub range : Range
  pub range_is : range_at box place ≡ Some range
  pub low : range.low ≤ cut
  pub high : cut < range.high

-- the two parts at a place, tightened
pub record IsCut (n : ℕ) (box : List (List Range)) (place cut : ℕ) (left right : List (List Range)) : Type 0 where
  pub range : Range
  pub range_is : range_at box place ≡ Some range
  pub low : range.low ≤ cut
  pub high : cut < range.high
  pub left_is : left ≡ tightened_box n (placed_in place (left_range cut range) box)
  pub right_is : right ≡ tightened_box n (placed_in place (right_range cut range) box)

-- together the two parts have the members of the box, none in common, and neither is empty
pub record ArePartsOf (n : ℕ) (box left right : List (List Range)) : Type 0 where
  pub covers : (site : List (List ℕ)) → IsMember n box site → IsMember n left site ⊎ IsMember n right site
  pub in_left : (site : List (List ℕ)) → IsMember n left site → IsMember n box site
  pub in_right : (site : List (List ℕ)) → IsMember n right site → IsMember n box site
  pub apart : (site : List (List ℕ)) → IsMember n left site → IsMember n right site → ⊥
  pub left_has : HasSite n left
  pub right_has : HasSite n right

-- the first place of the greatest width in a row
pub record IsWidestInRow (row : List Range) (place : ℕ) (range : Range) : Type 0 where
  pub range_is : slice_get row place ≡ Some range
  pub most : (p : ℕ) (r : Range) → slice_get row p ≡ Some r → r.high - r.low ≤ range.high - range.low
  pub first : (p : ℕ) (r : Range) → slice_get row p ≡ Some r → p < place → r.high - r.low < range.high - range.low

-- the first place of the greatest width
pub record IsWidest (box : List (List Range)) (place : ℕ) (range : Range) : Type 0 where
  pub range_is : range_at box place ≡ Some range
  pub most : (p : ℕ) (r : Range) → range_at box p ≡ Some r → r.high - r.low ≤ range.high - range.low
  pub first : (p : ℕ) (r : Range) → range_at box p ≡ Some r → p < place → r.high - r.low < range.high - range.low
