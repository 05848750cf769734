-- What tightening, the corner and a cut do to the lists of one sublattice.
use Rattle.std.proofs.Common.{◌≡◌, ℕ, zero, suc, ◌+◌, ◌-◌, ◌≤◌, ◌<◌, List, [], ◌∷◌, refl, arith, ap, sym, ◌∙◌, subst, inl, inr, Some, slice_get}
use Rattle.std.specs.Prelude.{min, max, sum, ◌⊎◌}
use Rattle.std.proofs.lemmas.Bool.{cases_lt}
use Rattle.std.proofs.lemmas.List.Sums.{sum_by-cons}
use Rattle.cef_box.specs.declared.range.Range.{Range}
use Rattle.cef_box.specs.Boxes.{AllWithin, IsInRow}
use Rattle.cef_box.specs.Tight.{lows, highs, IsOrdered, HasList, IsTight, tight_range, tightened_by, tightened}
use Rattle.cef_box.specs.Corners.{raised, corner}
use Rattle.cef_box.specs.Cuts.{placed, left_range, right_range}

pub sum-cons : (k : ℕ) (counts : List ℕ) → sum (k ∷ counts) ≡ k + sum counts
sum-cons k counts = sum_by-cons (λ (x : ℕ). x) k counts

-- ---- what a list in a row says of it

pub within_bounds : (row : List Range) (counts : List ℕ) → AllWithin row counts → IsOrdered row × (lows row ≤ sum counts) × (sum counts ≤ highs row)
within_bounds [] [] h = (tt, omega arith, omega arith)
within_bounds (r ∷ row) (k ∷ counts) h =
    let rest = within_bounds row counts h.2 in
    ((omega (arith, h.0, h.1), rest.0), omega (arith, h.0, rest.1, sum-cons k counts), omega (arith, h.1, rest.2, sum-cons k counts))
within_bounds [] (k ∷ counts) h = absurd h
within_bounds (r ∷ row) [] h = absurd h

pub HasList-from_list : (n : ℕ) (row : List Range) (counts : List ℕ) → IsInRow n row counts → HasList n row
HasList-from_list n row counts h =
    let b = within_bounds row counts h.within in
    record { ordered = b.0; not_above = omega (arith, b.1, h.adds); not_below = omega (arith, b.2, h.adds) }

-- ---- the corner

pub raised_within : (spare : ℕ) (row : List Range) → IsOrdered row → AllWithin row (raised spare row)
raised_within spare [] h = tt
raised_within spare (r ∷ row) h = (omega arith, omega (arith, h.0), raised_within (spare - min (r.high - r.low) spare) row h.1)

pub raised_sum : (spare : ℕ) (row : List Range) → IsOrdered row → lows row + spare ≤ highs row → sum (raised spare row) ≡ lows row + spare
raised_sum spare [] h k = omega arith
raised_sum spare (r ∷ row) h k = omega (arith, sum-cons (r.low + min (r.high - r.low) spare) (raised (spare - min (r.high - r.low) spare) row), h.0, lows_below row h.1, raised_sum (spare - min (r.high - r.low) spare) row h.1 (omega (arith, h.0, lows_below row h.1)))
  where
    lows_below : (row : List Range) → IsOrdered row → lows row ≤ highs row
    lows_below [] h = omega arith
    lows_below (r ∷ row) h = omega (arith, h.0, lows_below row h.1)

pub corner_in : (n : ℕ) (row : List Range) → HasList n row → IsInRow n row (corner n row)
corner_in n row h = record {
  within = raised_within (n - lows row) row h.ordered;
  adds = omega (arith, h.not_above, h.not_below, raised_sum (n - lows row) row h.ordered (omega (arith, h.not_above, h.not_below)));
}

-- ---- one place with another range

pub record Placed (i : ℕ) (s : Range) (row : List Range) (r : Range) : Type 0 where
  pub low_part : r.low ≤ lows row
  pub high_part : r.high ≤ highs row
  pub low_sum : lows (placed i s row) + r.low ≡ lows row + s.low
  pub high_sum : highs (placed i s row) + r.high ≡ highs row + s.high
  pub ordered : s.low ≤ s.high → IsOrdered row → IsOrdered (placed i s row)
  pub members : r.low ≤ s.low → s.high ≤ r.high → (counts : List ℕ) → AllWithin (placed i s row) counts → AllWithin row counts
  pub at_place : (counts : List ℕ) → AllWithin (placed i s row) counts → (k : ℕ) × (slice_get counts i ≡ Some k) × (s.low ≤ k) × (k ≤ s.high)
  pub others : (counts : List ℕ) (k : ℕ) → AllWithin row counts → slice_get counts i ≡ Some k → s.low ≤ k → k ≤ s.high → AllWithin (placed i s row) counts
  pub values : (counts : List ℕ) → AllWithin row counts → (k : ℕ) × (slice_get counts i ≡ Some k) × (r.low ≤ k) × (k ≤ r.high)

some_range : (r s : Range) → Some r ≡ Some s → r ≡ s
some_range r s e = cc

some_count : (r s : ℕ) → Some r ≡ Some s → r ≡ s
some_count r s e = cc

placed_after : (i : ℕ) (s q : Range) (row : List Range) (r : Range) → Placed i s row r → Placed (suc i) s (q ∷ row) r
placed_after i s q row r rest = record {
  low_part = omega (arith, rest.low_part);
  high_part = omega (arith, rest.high_part);
  low_sum = omega (arith, rest.low_sum);
  high_sum = omega (arith, rest.high_sum);
  ordered = λ k h. (h.0, rest.ordered k h.1);
  members = members;
  at_place = at_place;
  others = others;
  values = values;
}
  where
    members : r.low ≤ s.low → s.high ≤ r.high → (counts : List ℕ) → AllWithin (q ∷ placed i s row) counts → AllWithin (q ∷ row) counts
    members a b [] h = absurd h
    members a b (k ∷ counts) h = (h.0, h.1, rest.members a b counts h.2)

    at_place : (counts : List ℕ) → AllWithin (q ∷ placed i s row) counts → (k : ℕ) × (slice_get counts (suc i) ≡ Some k) × (s.low ≤ k) × (k ≤ s.high)
    at_place [] h = absurd h
    at_place (k ∷ counts) h = rest.at_place counts h.2

    values : (counts : List ℕ) → AllWithin (q ∷ row) counts → (k : ℕ) × (slice_get counts (suc i) ≡ Some k) × (r.low ≤ k) × (k ≤ r.high)
    values [] h = absurd h
    values (k ∷ counts) h = rest.values counts h.2

    others : (counts : List ℕ) (k : ℕ) → AllWithin (q ∷ row) counts → slice_get counts (suc i) ≡ Some k → s.low ≤ k → k ≤ s.high → AllWithin (q ∷ placed i s row) counts
    others [] k h e a b = absurd h
    others (l ∷ counts) k h e a b = (h.0, h.1, rest.others counts k h.2 e a b)

pub placed_is : (i : ℕ) (s : Range) (row : List Range) (r : Range) → slice_get row i ≡ Some r → Placed i s row r
placed_is i s [] r e = absurd cc
placed_is zero s (q ∷ row) r e =
    let same : q ≡ r = some_range q r e in
    subst (λ (r : Range). Placed zero s (q ∷ row) r) same (record {
      low_part = omega arith;
      high_part = omega arith;
      low_sum = omega arith;
      high_sum = omega arith;
      ordered = λ k h. (k, h.1);
      members = members;
      at_place = at_place;
      others = others;
      values = values;
    })
  where
    members : q.low ≤ s.low → s.high ≤ q.high → (counts : List ℕ) → AllWithin (s ∷ row) counts → AllWithin (q ∷ row) counts
    members a b [] h = absurd h
    members a b (k ∷ counts) h = (omega (arith, h.0), omega (arith, h.1), h.2)

    at_place : (counts : List ℕ) → AllWithin (s ∷ row) counts → (k : ℕ) × (slice_get counts zero ≡ Some k) × (s.low ≤ k) × (k ≤ s.high)
    at_place [] h = absurd h
    at_place (k ∷ counts) h = (k, refl, h.0, h.1)

    values : (counts : List ℕ) → AllWithin (q ∷ row) counts → (k : ℕ) × (slice_get counts zero ≡ Some k) × (q.low ≤ k) × (k ≤ q.high)
    values [] h = absurd h
    values (k ∷ counts) h = (k, refl, h.0, h.1)

    others : (counts : List ℕ) (k : ℕ) → AllWithin (q ∷ row) counts → slice_get counts zero ≡ Some k → s.low ≤ k → k ≤ s.high → AllWithin (s ∷ row) counts
    others [] k h e a b = absurd h
    others (l ∷ counts) k h e a b =
        let same : l ≡ k = some_count l k e in
        (omega arith, omega arith, h.2)
placed_is (suc i) s (q ∷ row) r e = placed_after i s q row r (placed_is i s row r e)

-- ---- tightening

drops_by : (n low_sum high_sum : ℕ) (row : List Range) (counts : List ℕ) → AllWithin (tightened_by n low_sum high_sum row) counts → AllWithin row counts
drops_by n l h [] counts w = w
drops_by n l h (r ∷ row) [] w = absurd w
drops_by n l h (r ∷ row) (k ∷ counts) w = (omega (arith, w.0), omega (arith, w.1), drops_by n l h row counts w.2)

keeps_by : (n low_sum high_sum low_front high_front front : ℕ) (row : List Range) (counts : List ℕ) → AllWithin row counts → low_front ≤ front → front ≤ high_front →
    n ≡ front + sum counts → low_sum ≡ low_front + lows row → high_sum ≡ high_front + highs row → AllWithin (tightened_by n low_sum high_sum row) counts
keeps_by n l h lf hf f [] counts w a b en el eh = w
keeps_by n l h lf hf f (r ∷ row) [] w a b en el eh = absurd w
keeps_by n l h lf hf f (r ∷ row) (k ∷ counts) w a b en el eh =
    let bounds = within_bounds row counts w.2 in
    let more : sum (k ∷ counts) ≡ k + sum counts = sum-cons k counts in
    let low = bounds.1 in
    let high = bounds.2 in
    let first = w.0 in
    let second = w.1 in
    (omega arith, omega arith, keeps_by n l h (lf + r.low) (hf + r.high) (f + k) row counts w.2 (omega arith) (omega arith) (omega arith) (omega arith) (omega arith))

-- a row and its tightened row have the same lists
pub tightened_keeps : (n : ℕ) (row : List Range) (counts : List ℕ) → IsInRow n row counts → IsInRow n (tightened n row) counts
tightened_keeps n row counts h = record {
  within = keeps_by n (lows row) (highs row) 0 0 0 row counts h.within (omega arith) (omega arith) (omega (arith, h.adds)) (omega arith) (omega arith);
  adds = h.adds;
}

pub tightened_drops : (n : ℕ) (row : List Range) (counts : List ℕ) → IsInRow n (tightened n row) counts → IsInRow n row counts
tightened_drops n row counts h = record { within = drops_by n (lows row) (highs row) row counts h.within; adds = h.adds }

tight_at : (n low_sum high_sum : ℕ) (row : List Range) (i : ℕ) (t : Range) → slice_get (tightened_by n low_sum high_sum row) i ≡ Some t → (r : Range) × (slice_get row i ≡ Some r) × (tight_range n low_sum high_sum r ≡ t)
tight_at n l h [] i t e = absurd cc
tight_at n l h (r ∷ row) zero t e = (r, refl, some_range (tight_range n l h r) t e)
tight_at n l h (r ∷ row) (suc i) t e = tight_at n l h row i t e

one_value : ℕ → Range
one_value v = record { low = v; high = v }

-- the value v at place i, within the tightened range, is taken by a list of the row
taken : (n : ℕ) (row : List Range) → HasList n row → (i : ℕ) (r : Range) (v : ℕ) → slice_get row i ≡ Some r → max r.low (n - (highs row - r.high)) ≤ v → v ≤ min r.high (n - (lows row - r.low)) →
    (counts : List ℕ) × (IsInRow n row counts) × (slice_get counts i ≡ Some v)
unfolding one_value
taken n row has i r v e above below =
    let p = placed_is i (one_value v) row r e in
    let ls : lows (placed i (one_value v) row) + r.low ≡ lows row + v = p.low_sum in
    let hs : highs (placed i (one_value v) row) + r.high ≡ highs row + v = p.high_sum in
    let lp = p.low_part in
    let hp = p.high_part in
    let na = has.not_above in
    let nb = has.not_below in
    let has_pinned : HasList n (placed i (one_value v) row) = record { ordered = p.ordered (omega arith) has.ordered; not_above = omega arith; not_below = omega arith } in
    let member = corner_in n (placed i (one_value v) row) has_pinned in
    let spot = p.at_place (corner n (placed i (one_value v) row)) member.within in (
      corner n (placed i (one_value v) row),
      record { within = p.members (omega arith) (omega arith) _ member.within; adds = member.adds },
      spot.1 ∙ ap (λ (x : ℕ). Some x) (same_value v spot.0 spot.2 spot.3),
    )
  where
    same_value : (v k : ℕ) → v ≤ k → k ≤ v → k ≡ v
    same_value v k p q = omega arith

-- each range of the tightened row is the set of values that the row's lists take there
pub tightened_tight : (n : ℕ) (row : List Range) → HasList n row → IsTight n (tightened n row)
tightened_tight n row has i t v e above below =
    let found = tight_at n (lows row) (highs row) row i t e in
    let up : max found.0.low (n - (highs row - found.0.high)) ≤ v = subst (λ (s : Range). s.low ≤ v) (sym found.2) above in
    let down : v ≤ min found.0.high (n - (lows row - found.0.low)) = subst (λ (s : Range). v ≤ s.high) (sym found.2) below in
    let list = taken n row has i found.0 v found.1 up down in
    (list.0, tightened_keeps n row list.0 list.1, list.2)

-- ---- a cut

-- the parts of a row have together its lists, and none in common
pub cut_covers : (n i cut : ℕ) (row : List Range) (r : Range) (counts : List ℕ) → slice_get row i ≡ Some r → IsInRow n row counts →
    IsInRow n (placed i (left_range cut r) row) counts ⊎ IsInRow n (placed i (right_range cut r) row) counts
cut_covers n i cut row r counts e h =
    let left = placed_is i (left_range cut r) row r e in
    let right = placed_is i (right_range cut r) row r e in
    let spot = left.values counts h.within in
    elim (cases_lt cut spot.0) [
      | inl above ↦ inr (record { within = right.others counts spot.0 h.within spot.1 (omega arith) spot.3; adds = h.adds })
      | inr below ↦ inl (record { within = left.others counts spot.0 h.within spot.1 spot.2 (omega arith); adds = h.adds })
    ]

pub cut_left : (n i cut : ℕ) (row : List Range) (r : Range) (counts : List ℕ) → slice_get row i ≡ Some r → cut ≤ r.high → IsInRow n (placed i (left_range cut r) row) counts → IsInRow n row counts
cut_left n i cut row r counts e fits h = record { within = (placed_is i (left_range cut r) row r e).members (omega arith) (omega arith) counts h.within; adds = h.adds }

pub cut_right : (n i cut : ℕ) (row : List Range) (r : Range) (counts : List ℕ) → slice_get row i ≡ Some r → r.low ≤ cut → IsInRow n (placed i (right_range cut r) row) counts → IsInRow n row counts
cut_right n i cut row r counts e fits h = record { within = (placed_is i (right_range cut r) row r e).members (omega arith) (omega arith) counts h.within; adds = h.adds }

pub cut_apart : (n i cut : ℕ) (row : List Range) (r : Range) (counts : List ℕ) → slice_get row i ≡ Some r →
    IsInRow n (placed i (left_range cut r) row) counts → IsInRow n (placed i (right_range cut r) row) counts → ⊥
cut_apart n i cut row r counts e h k =
    let a = (placed_is i (left_range cut r) row r e).at_place counts h.within in
    let b = (placed_is i (right_range cut r) row r e).at_place counts k.within in
    let same : a.0 ≡ b.0 = some_count a.0 b.0 (sym a.1 ∙ b.1) in
    let low = a.3 in
    let high = b.2 in
    omega arith

-- of a tight row neither part is empty
pub cut_left_has : (n i cut : ℕ) (row : List Range) (r : Range) → slice_get row i ≡ Some r → IsTight n row → r.low ≤ cut → cut ≤ r.high → HasList n (placed i (left_range cut r) row)
cut_left_has n i cut row r e tight a b =
    let list = tight i r r.low e (omega arith) (omega arith) in
    HasList-from_list n _ list.0 (record { within = (placed_is i (left_range cut r) row r e).others list.0 r.low list.1.within list.2 (omega arith) (omega arith); adds = list.1.adds })

pub cut_right_has : (n i cut : ℕ) (row : List Range) (r : Range) → slice_get row i ≡ Some r → IsTight n row → r.low ≤ cut → cut < r.high → HasList n (placed i (right_range cut r) row)
cut_right_has n i cut row r e tight a b =
    let list = tight i r r.high e (omega arith) (omega arith) in
    HasList-from_list n _ list.0 (record { within = (placed_is i (right_range cut r) row r e).others list.0 r.high list.1.within list.2 (omega arith) (omega arith); adds = list.1.adds })

-- ---- a tight row stays as it is

pub ordered_at : (row : List Range) (i : ℕ) (r : Range) → IsOrdered row → slice_get row i ≡ Some r → r.low ≤ r.high
ordered_at [] i r h e = absurd cc
ordered_at (q ∷ row) zero r h e = subst (λ (s : Range). s.low ≤ s.high) (some_range q r e) h.0
ordered_at (q ∷ row) (suc i) r h e = ordered_at row i r h.1 e

at_tight : (n low_sum high_sum : ℕ) (row : List Range) (i : ℕ) (r : Range) → slice_get row i ≡ Some r → slice_get (tightened_by n low_sum high_sum row) i ≡ Some (tight_range n low_sum high_sum r)
at_tight n l h [] i r e = absurd cc
at_tight n l h (q ∷ row) zero r e = ap (λ (s : Range). Some (tight_range n l h s)) (some_range q r e)
at_tight n l h (q ∷ row) (suc i) r e = at_tight n l h row i r e

-- a value that a list takes at a place lies in the tightened range there
taken_within : (n : ℕ) (row : List Range) (i : ℕ) (r : Range) (v : ℕ) (counts : List ℕ) → slice_get row i ≡ Some r → IsInRow n row counts → slice_get counts i ≡ Some v →
    (max r.low (n - (highs row - r.high)) ≤ v) × (v ≤ min r.high (n - (lows row - r.low)))
taken_within n row i r v counts e h k =
    let there = at_tight n (lows row) (highs row) row i r e in
    let value = (placed_is i r (tightened n row) (tight_range n (lows row) (highs row) r) there).values counts (tightened_keeps n row counts h).within in
    let same : value.0 ≡ v = some_count value.0 v (sym value.1 ∙ k) in
    let above = value.2 in
    let below = value.3 in
    (omega arith, omega arith)

same_range : (r : Range) (low high : ℕ) → low ≡ r.low → high ≡ r.high → record { low = low; high = high } ≡ r
same_range r low high a b = rw (a, b) refl

stays_by : (n low_sum high_sum : ℕ) (row : List Range) → ((i : ℕ) (r : Range) → slice_get row i ≡ Some r → tight_range n low_sum high_sum r ≡ r) → tightened_by n low_sum high_sum row ≡ row
stays_by n l h [] f = refl
stays_by n l h (r ∷ row) f =
    let first : tight_range n l h r ≡ r = f zero r refl in
    let rest : tightened_by n l h row ≡ row = stays_by n l h row (λ i q e. f (suc i) q e) in
    rw (first, rest) refl

pub tight_stays : (n : ℕ) (row : List Range) → HasList n row → IsTight n row → tightened n row ≡ row
tight_stays n row has tight = stays_by n (lows row) (highs row) row stays
  where
    stays : (i : ℕ) (r : Range) → slice_get row i ≡ Some r → tight_range n (lows row) (highs row) r ≡ r
    stays i r e =
        let up = ordered_at row i r has.ordered e in
        let least = tight i r r.low e (omega arith) up in
        let most = tight i r r.high e up (omega arith) in
        let a = taken_within n row i r r.low least.0 e least.1 least.2 in
        let b = taken_within n row i r r.high most.0 e most.1 most.2 in
        let above = a.0 in
        let below = b.1 in
        same_range r _ _ (omega arith) (omega arith)
