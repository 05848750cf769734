-- Boxes whose lows are their highs, and the widest range of the others.
use Rattle.std.proofs.Common.{◌≡◌, ℕ, zero, suc, ◌+◌, ◌-◌, ◌≤◌, ◌<◌, List, [], ◌∷◌, length, map, refl, arith, inl, inr, Some, slice_get}
use Rattle.std.proofs.lemmas.Bool.{cases_lt, lt-ltb, le-ltb}
use Rattle.cef_box.specs.declared.range.Range.{Range}
use Rattle.cef_box.specs.Boxes.{AllWithin, IsMember, IsSingle, lows_of, highs_of}
use Rattle.cef_box.specs.Corners.{corner_site}
use Rattle.cef_box.specs.Cuts.{IsWidest, range_at}
use Rattle.cef_box.specs.Tight.{IsOrdered, HasSite}
use Rattle.cef_box.proofs.Tightened.{corner_member, HasSite-from_member}

-- ---- one list

count_of : (a b : ℕ) (xs ys : List ℕ) → a ∷ xs ≡ b ∷ ys → a ≡ b
count_of a b xs ys e = cc

counts_of : (a b : ℕ) (xs ys : List ℕ) → a ∷ xs ≡ b ∷ ys → xs ≡ ys
counts_of a b xs ys e = cc

row_of : (a b : List ℕ) (xs ys : List (List ℕ)) → a ∷ xs ≡ b ∷ ys → a ≡ b
row_of a b xs ys e = cc

rows_behind : (a b : List ℕ) (xs ys : List (List ℕ)) → a ∷ xs ≡ b ∷ ys → xs ≡ ys
rows_behind a b xs ys e = cc

row_same : (row : List Range) (a b : List ℕ) → map (λ (r : Range). r.low) row ≡ map (λ (r : Range). r.high) row → AllWithin row a → AllWithin row b → a ≡ b
row_same [] [] [] s h k = refl
row_same [] (x ∷ a) b s h k = absurd h
row_same [] [] (x ∷ b) s h k = absurd k
row_same (r ∷ row) [] b s h k = absurd h
row_same (r ∷ row) (x ∷ a) [] s h k = absurd k
row_same (r ∷ row) (x ∷ a) (y ∷ b) s h k =
    let one : r.low ≡ r.high = count_of _ _ _ _ s in
    let first : x ≡ y = omega (arith, one, h.0, h.1, k.0, k.1) in
    let rest : a ≡ b = row_same row a b (counts_of _ _ _ _ s) h.2 k.2 in
    cc

single_same : (n : ℕ) (box : List (List Range)) (a b : List (List ℕ)) → lows_of box ≡ highs_of box → IsMember n box a → IsMember n box b → a ≡ b
single_same n [] [] [] s h k = refl
single_same n [] (x ∷ a) b s h k = absurd h
single_same n [] [] (x ∷ b) s h k = absurd k
single_same n (row ∷ box) [] b s h k = absurd h
single_same n (row ∷ box) (x ∷ a) [] s h k = absurd k
single_same n (row ∷ box) (x ∷ a) (y ∷ b) s h k =
    let first : x ≡ y = row_same row x y (row_of _ _ _ _ s) h.0.within k.0.within in
    let rest : a ≡ b = single_same n box a b (rows_behind _ _ _ _ s) h.1 k.1 in
    cc

pub single_corner : (n : ℕ) (box : List (List Range)) (site : List (List ℕ)) → IsSingle box → IsMember n box site → site ≡ corner_site n box
single_corner n box site s h = single_same n box site (corner_site n box) s h (corner_member n box (HasSite-from_member n box site h))

-- ---- where no range has several values, the box is single

pub slice_get_below : (row : List Range) (p : ℕ) (r : Range) → slice_get row p ≡ Some r → p < length row
slice_get_below [] p r e = absurd cc
slice_get_below (s ∷ row) zero r e = omega arith
slice_get_below (s ∷ row) (suc p) r e = omega (arith, slice_get_below row p r e)

at_first : (row : List Range) (rows : List (List Range)) (p : ℕ) (r : Range) → slice_get row p ≡ Some r → range_at (row ∷ rows) p ≡ Some r
at_first row rows p r e = rw (lt-ltb p (length row) (slice_get_below row p r e)) e

at_later : (row : List Range) (rows : List (List Range)) (p : ℕ) (r : Range) → range_at rows p ≡ Some r → range_at (row ∷ rows) (length row + p) ≡ Some r
at_later row rows p r e =
    let shift : (length row + p) - length row ≡ p = omega arith in
    rw (le-ltb (length row + p) (length row) (omega arith), shift) e

row_narrow : (row : List Range) → IsOrdered row → ((p : ℕ) (r : Range) → slice_get row p ≡ Some r → r.high ≤ r.low) → map (λ (r : Range). r.low) row ≡ map (λ (r : Range). r.high) row
row_narrow [] o h = refl
row_narrow (r ∷ row) o h =
    let one : r.low ≡ r.high = omega (arith, o.0, h 0 r refl) in
    rw (one, row_narrow row o.1 (λ p s e. h (suc p) s e)) refl

box_narrow : (n : ℕ) (box : List (List Range)) → HasSite n box → ((p : ℕ) (r : Range) → range_at box p ≡ Some r → r.high ≤ r.low) → lows_of box ≡ highs_of box
box_narrow n [] has h = refl
box_narrow n (row ∷ rows) has h =
    let first = row_narrow row has.0.ordered (λ p r e. h p r (at_first row rows p r e)) in
    let rest = box_narrow n rows has.1 (λ p r e. h (length row + p) r (at_later row rows p r e)) in
    rw (first, rest) refl

pub widest_wide : (n : ℕ) (box : List (List Range)) (place : ℕ) (range : Range) → HasSite n box → (IsSingle box → ⊥) → IsWidest box place range → range.low < range.high
widest_wide n box place range has several widest =
    elim (cases_lt range.low range.high) [
      | inl lt ↦ lt
      | inr le ↦ absurd (several (box_narrow n box has (λ p r e. omega (arith, widest.most p r e, le))))
    ]

pub ruleset single = (single_corner, widest_wide)
