-- Rows of ranges that are kept flat: their sums, and another range at a place.
use Rattle.std.proofs.Common.{◌≡◌, ℕ, zero, suc, ◌-◌, ◌≤◌, ◌<◌, List, [], ◌∷◌, length, take, drop, ◌++◌, refl, arith, ap, sym, ◌∙◌}
use Rattle.std.specs.Prelude.{sum, slice_set}
use Rattle.std.proofs.lemmas.Bool.{lt-ltb, le-ltb}
use Rattle.std.proofs.lemmas.List.{length-take-le}
use Rattle.cef_box.specs.declared.range.Range.{Range}
use Rattle.cef_box.specs.Tight.{lows, highs, tightened, tightened_box, IsTightBox, HasSite}
use Rattle.cef_box.specs.Cuts.{placed, placed_in}
use Rattle.cef_box.specs.Flat.{ranges, rows_of, AreFlat}
use Rattle.cef_box.proofs.Rows.{sum-cons, tight_stays}
use Rattle.cef_box.proofs.Tightened.{tight_box_stays}
use Rattle.cef_box.proofs.Flats.{flat-low-le, flat-high-le, rows_of-joined, length-ranges}

pub lows-ranges : (low high : List ℕ) → length low ≡ length high → lows (ranges low high) ≡ sum low
lows-ranges [] high e = refl
lows-ranges (l ∷ low) [] e = absurd (omega arith)
lows-ranges (l ∷ low) (h ∷ high) e = omega (arith, sum-cons l low, lows-ranges low high (omega arith))

pub highs-ranges : (low high : List ℕ) → length low ≡ length high → highs (ranges low high) ≡ sum high
highs-ranges [] [] e = refl
highs-ranges [] (h ∷ high) e = absurd (omega arith)
highs-ranges (l ∷ low) [] e = absurd (omega arith)
highs-ranges (l ∷ low) (h ∷ high) e = omega (arith, sum-cons h high, highs-ranges low high (omega arith))

pub ranges-set : (p : ℕ) (other : Range) (low high : List ℕ) → p < length low → p < length high → ranges (slice_set low p other.low) (slice_set high p other.high) ≡ placed p other (ranges low high)
ranges-set p other [] high a b = absurd (omega arith)
ranges-set p other (l ∷ low) [] a b = absurd (omega arith)
ranges-set zero other (l ∷ low) (h ∷ high) a b = refl
ranges-set (suc p) other (l ∷ low) (h ∷ high) a b = ap (λ (row : List Range). record { low = l; high = h } ∷ row) (ranges-set p other low high (omega arith) (omega arith))

pub ruleset sums = (lows-ranges, highs-ranges)

pub ruleset placing = (ranges-set)

pub placed_in-here : (p : ℕ) (s : Range) (row : List Range) (rows : List (List Range)) → p < length row → placed_in p s (row ∷ rows) ≡ placed p s row ∷ rows
placed_in-here p s row rows lt = rw (lt-ltb p (length row) lt) refl

pub placed_in-on : (p : ℕ) (s : Range) (row : List Range) (rows : List (List Range)) → length row ≤ p → placed_in p s (row ∷ rows) ≡ row ∷ placed_in (p - length row) s rows
placed_in-on p s row rows le = rw (le-ltb p (length row) le) refl

-- the row of the place has another range and is tightened
pub other_here : (n at : ℕ) (other : Range) (from end : ℕ) (ends low high low_row high_row low_rest high_rest : List ℕ) → AreFlat from (end ∷ ends) low high →
    IsTightBox n (rows_of from (end ∷ ends) low high) → HasSite n (rows_of from (end ∷ ends) low high) → at < end - from →
    low_rest ≡ drop (end - from) low → high_rest ≡ drop (end - from) high → length low_row ≡ end - from → length high_row ≡ end - from →
    ranges low_row high_row ≡ tightened n (placed at other (ranges (take (end - from) low) (take (end - from) high))) →
    rows_of from (end ∷ ends) (low_row ++ low_rest) (high_row ++ high_rest) ≡ tightened_box n (placed_in at other (rows_of from (end ∷ ends) low high))
other_here n at other from end ends low high low_row high_row low_rest high_rest flat tight has lt el eh a b e =
    let la = length-take-le (end - from) low (flat-low-le from end ends low high flat) in
    let ha = length-take-le (end - from) high (flat-high-le from end ends low high flat) in
    let row = length-ranges (take (end - from) low) (take (end - from) high) (la ∙ sym ha) in
    let here = placed_in-here at other (ranges (take (end - from) low) (take (end - from) high)) (rows_of end ends (drop (end - from) low) (drop (end - from) high)) (omega arith) in
    let rest = tight_box_stays n (rows_of end ends (drop (end - from) low) (drop (end - from) high)) has.1 tight.1 in
    rows_of-joined from end ends low_row low_rest high_row high_rest a b ∙ rw (here, el, eh, e, rest) refl

-- a row before that of the place stays as it is
pub other_on : (n at : ℕ) (other : Range) (from end : ℕ) (ends low high low_row high_row low_rest high_rest : List ℕ) → AreFlat from (end ∷ ends) low high →
    IsTightBox n (rows_of from (end ∷ ends) low high) → HasSite n (rows_of from (end ∷ ends) low high) → end - from ≤ at →
    low_row ≡ take (end - from) low → high_row ≡ take (end - from) high →
    rows_of end ends low_rest high_rest ≡ tightened_box n (placed_in (at - (end - from)) other (rows_of end ends (drop (end - from) low) (drop (end - from) high))) →
    rows_of from (end ∷ ends) (low_row ++ low_rest) (high_row ++ high_rest) ≡ tightened_box n (placed_in at other (rows_of from (end ∷ ends) low high))
other_on n at other from end ends low high low_row high_row low_rest high_rest flat tight has le el eh e =
    let la = length-take-le (end - from) low (flat-low-le from end ends low high flat) in
    let ha = length-take-le (end - from) high (flat-high-le from end ends low high flat) in
    let row = length-ranges (take (end - from) low) (take (end - from) high) (la ∙ sym ha) ∙ la in
    let on = placed_in-on at other (ranges (take (end - from) low) (take (end - from) high)) (rows_of end ends (drop (end - from) low) (drop (end - from) high)) (omega (arith, row)) in
    let first = tight_stays n (ranges (take (end - from) low) (take (end - from) high)) has.0 tight.0 in
    rows_of-joined from end ends low_row low_rest high_row high_rest (ap length el ∙ la) (ap length eh ∙ ha) ∙ rw (on, row, el, eh, e, first) refl

pub ruleset placing_in = (placed_in-here, placed_in-on, other_here, other_on)
