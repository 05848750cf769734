-- The first of the widest ranges.
use Rattle.std.proofs.Common.{◌≡◌, ℕ, zero, suc, ◌+◌, ◌-◌, ◌≤◌, ◌<◌, List, [], ◌∷◌, length, refl, arith, ap, sym, ◌∙◌, subst, inl, inr, Option, Some, None, slice_get}
use Rattle.std.proofs.lemmas.Bool.{cases_lt}
use Rattle.cef_core.specs.Shapes.{places}
use Rattle.cef_box.specs.declared.range.Range.{Range}
use Rattle.cef_box.specs.Cuts.{IsWidestInRow, IsWidest, range_at}
use Rattle.cef_box.specs.Flat.{ranges, rows_of, AreFlat}
use Rattle.cef_box.proofs.Flats.{length-ranges}
use Rattle.cef_box.proofs.Shapes.{places-rows_of}
use Rattle.cef_box.proofs.Places.{ranges-get, range_at-rows_of, range_at-within}
use Rattle.cef_box.proofs.Singles.{slice_get_below}

same_range : (r s : Range) → Some r ≡ Some s → r ≡ s
same_range r s e = cc

-- ---- rows

pub wide_one : (row : List Range) (r : Range) → row ≡ [] → IsWidestInRow (r ∷ row) 0 r
wide_one row r e = rw e (record { range_is = refl; most = most; first = λ p s is lt. absurd (omega arith) })
  where
    most : (p : ℕ) (s : Range) → slice_get (r ∷ []) p ≡ Some s → s.high - s.low ≤ r.high - r.low
    most zero s is = let same : r ≡ s = same_range r s is in subst (λ (t : Range). t.high - t.low ≤ r.high - r.low) same (omega arith)
    most (suc p) s is = absurd cc

pub wide_first : (row : List Range) (r s : Range) (p : ℕ) → IsWidestInRow row p s → s.high - s.low ≤ r.high - r.low → IsWidestInRow (r ∷ row) 0 r
wide_first row r s p h less = record { range_is = refl; most = most; first = λ p s is lt. absurd (omega arith) }
  where
    most : (p : ℕ) (s : Range) → slice_get (r ∷ row) p ≡ Some s → s.high - s.low ≤ r.high - r.low
    most zero t is = let same : r ≡ t = same_range r t is in subst (λ (t : Range). t.high - t.low ≤ r.high - r.low) same (omega arith)
    most (suc p) t is = omega (arith, h.most p t is)

pub wide_later : (row : List Range) (r s : Range) (p : ℕ) → IsWidestInRow row p s → r.high - r.low < s.high - s.low → IsWidestInRow (r ∷ row) (suc p) s
wide_later row r s p h less = record { range_is = h.range_is; most = most; first = first }
  where
    most : (q : ℕ) (t : Range) → slice_get (r ∷ row) q ≡ Some t → t.high - t.low ≤ s.high - s.low
    most zero t is = let same : r ≡ t = same_range r t is in subst (λ (t : Range). t.high - t.low ≤ s.high - s.low) same (omega arith)
    most (suc q) t is = h.most q t is

    first : (q : ℕ) (t : Range) → slice_get (r ∷ row) q ≡ Some t → q < suc p → t.high - t.low < s.high - s.low
    first zero t is lt = let same : r ≡ t = same_range r t is in subst (λ (t : Range). t.high - t.low < s.high - s.low) same less
    first (suc q) t is lt = h.first q t is (omega arith)

-- ---- the steps of the code, over lows and highs

pub take_one : (low high rest_low rest_high : List ℕ) (l h : ℕ) → low ≡ l ∷ rest_low → high ≡ h ∷ rest_high → rest_low ≡ [] → IsWidestInRow (ranges low high) 0 (record { low = l; high = h })
take_one low high rest_low rest_high l h a b e = rw (a, b) (wide_one (ranges rest_low rest_high) (record { low = l; high = h }) (ap (λ (xs : List ℕ). ranges xs rest_high) e))

pub take_first : (low high rest_low rest_high : List ℕ) (l h p : ℕ) (s : Range) → low ≡ l ∷ rest_low → high ≡ h ∷ rest_high → IsWidestInRow (ranges rest_low rest_high) p s → s.high - s.low ≤ h - l → IsWidestInRow (ranges low high) 0 (record { low = l; high = h })
take_first low high rest_low rest_high l h p s a b w less = rw (a, b) (wide_first (ranges rest_low rest_high) (record { low = l; high = h }) s p w less)

pub take_later : (low high rest_low rest_high : List ℕ) (l h p q : ℕ) (s : Range) → low ≡ l ∷ rest_low → high ≡ h ∷ rest_high → IsWidestInRow (ranges rest_low rest_high) p s → h - l < s.high - s.low → q ≡ p + 1 → IsWidestInRow (ranges low high) q s
take_later low high rest_low rest_high l h p q s a b w less e =
    let shift : q ≡ suc p = omega arith in
    rw (a, b, shift) (wide_later (ranges rest_low rest_high) (record { low = l; high = h }) s p w less)

pub ruleset wide_rows = (take_one, take_first, take_later)

-- ---- boxes

no_range : (o : Option Range) → ((r : Range) → o ≡ Some r → ⊥) → o ≡ None
no_range None f = refl
no_range (Some r) f = absurd (f r refl)

-- the range of a place of the box is that of the ranges of all sites
range_at-flat : (ends low high : List ℕ) (p : ℕ) → AreFlat 0 ends low high → range_at (rows_of 0 ends low high) p ≡ slice_get (ranges low high) p
range_at-flat ends low high p h =
    elim (cases_lt p (length low)) [
      | inl a ↦ range_at-rows_of 0 ends low high p h a ∙ sym (ranges-get low high p a (omega (arith, h.same)))
      | inr b ↦ no_range (range_at (rows_of 0 ends low high) p) (λ r e. past_box b r e) ∙ sym (no_range (slice_get (ranges low high) p) (λ r e. past_row b r e))
    ]
  where
    past_box : length low ≤ p → (r : Range) → range_at (rows_of 0 ends low high) p ≡ Some r → ⊥
    past_box b r e = omega (arith, range_at-within (rows_of 0 ends low high) p r e, places-rows_of 0 ends low high h)

    past_row : length low ≤ p → (r : Range) → slice_get (ranges low high) p ≡ Some r → ⊥
    past_row b r e = omega (arith, slice_get_below (ranges low high) p r e, length-ranges low high h.same)

pub widest_flat : (ends low high : List ℕ) (box : List (List Range)) (p : ℕ) (r : Range) → AreFlat 0 ends low high → rows_of 0 ends low high ≡ box → IsWidestInRow (ranges low high) p r → IsWidest box p r
widest_flat ends low high box p r flat e w = rw (← e) (record {
  range_is = range_at-flat ends low high p flat ∙ w.range_is;
  most = λ q s is. w.most q s (sym (range_at-flat ends low high q flat) ∙ is);
  first = λ q s is lt. w.first q s (sym (range_at-flat ends low high q flat) ∙ is) lt;
})

pub no_places : (ends low high : List ℕ) (box : List (List Range)) → AreFlat 0 ends low high → rows_of 0 ends low high ≡ box → low ≡ [] → places box ≡ 0
no_places ends low high box flat e none = rw (← e) (places-rows_of 0 ends low high flat ∙ ap length none)

pub ruleset wide_boxes = (widest_flat, no_places)
