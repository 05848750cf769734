-- The places of boxes that are kept flat: boxes of one shape, and the range of a place.
use Rattle.std.proofs.Common.{◌≡◌, ℕ, zero, suc, ◌+◌, ◌-◌, ◌<◌, List, [], ◌∷◌, length, take, drop, refl, arith, ap, sym, inl, inr, ◌∙◌, true, false, Bool, Some, Option, cond, ltb, slice_get, slice_index}
use Rattle.std.specs.Prelude.{nat_le}
use Rattle.std.specs.List.{refill}
use Rattle.std.proofs.lemmas.Bool.{leb-true, lt-ltb, le-ltb, eqb-true, cases_lt}
use Rattle.std.proofs.lemmas.List.{length-drop, length-take-le, get_or-take, get_or-drop}
use Rattle.cef_core.specs.Shapes.{shape, places}
use Rattle.cef_core.specs.Sublattices.{are_ends}
use Rattle.cef_core.proofs.Parts.{both}
use Rattle.cef_core.proofs.Written.{widths, refill-same}
use Rattle.cef_box.specs.declared.range.Range.{Range}
use Rattle.cef_box.specs.Cuts.{range_at}
use Rattle.cef_box.specs.Flat.{ranges, rows_of, AreFlat}
use Rattle.cef_box.proofs.Rows.{sum-cons}
use Rattle.cef_box.proofs.Flats.{flat-low-le, flat-high-le, flat-rest, length-ranges}
use Rattle.cef_box.proofs.Shapes.{head_is, tail_is, shape-rows_of, places-rows_of}

-- places that do not fall are known by the widths between them
pub same_ends : (from : ℕ) (a b : List ℕ) (m n : ℕ) → are_ends from a m ≡ true → are_ends from b n ≡ true → widths from a ≡ widths from b → (a ≡ b) × (m ≡ n)
same_ends from [] [] m n h k e = (refl, omega (arith, eqb-true from m h, eqb-true from n k))
same_ends from [] (y ∷ b) m n h k e = absurd cc
same_ends from (x ∷ a) [] m n h k e = absurd cc
same_ends from (x ∷ a) (y ∷ b) m n h k e =
    let p = both (nat_le from x) (are_ends x a m) h in
    let q = both (nat_le from y) (are_ends y b n) k in
    let first : x ≡ y = omega (arith, leb-true from x p.0, leb-true from y q.0, head_is _ _ _ _ e) in
    let here : are_ends x b n ≡ true = rw first q.1 in
    let behind : widths x a ≡ widths x b = tail_is _ _ _ _ e ∙ ap (λ (z : ℕ). widths z b) (sym first) in
    let rest = same_ends x a b m n p.1 here behind in
    (rw (first, rest.0) refl, rest.1)

-- ---- two boxes of one shape

pub record AreAlike (a b : List ℕ) (low low_b : List ℕ) : Type 0 where
  pub ends : a ≡ b
  pub lengths : length low ≡ length low_b

pub boxes_alike : (a low high b low_b high_b : List ℕ) → AreFlat 0 a low high → AreFlat 0 b low_b high_b → shape (rows_of 0 a low high) ≡ shape (rows_of 0 b low_b high_b) → AreAlike a b low low_b
boxes_alike a low high b low_b high_b h k e =
    let both = same_ends 0 a b (0 + length low) (0 + length low_b) h.ends_is k.ends_is (sym (shape-rows_of 0 a low high h) ∙ (e ∙ shape-rows_of 0 b low_b high_b k)) in
    record { ends = both.0; lengths = omega (arith, both.1) }

-- ---- the range of a place

pub ranges-get : (low high : List ℕ) (p : ℕ) → p < length low → p < length high → slice_get (ranges low high) p ≡ Some (record { low = slice_index low p; high = slice_index high p })
ranges-get [] high p a b = absurd (omega arith)
ranges-get (l ∷ low) [] p a b = absurd (omega arith)
ranges-get (l ∷ low) (h ∷ high) zero a b = refl
ranges-get (l ∷ low) (h ∷ high) (suc p) a b = ranges-get low high p (omega arith) (omega arith)

chosen-here : (b : Bool) (x y z : Option Range) → b ≡ true → x ≡ z → cond b x y ≡ z
chosen-here true x y z e f = f
chosen-here false x y z e f = absurd cc

chosen-on : (b : Bool) (x y z : Option Range) → b ≡ false → y ≡ z → cond b x y ≡ z
chosen-on true x y z e f = absurd cc
chosen-on false x y z e f = f

pub range_at-rows_of : (from : ℕ) (ends lows highs : List ℕ) (p : ℕ) → AreFlat from ends lows highs → p < length lows → range_at (rows_of from ends lows highs) p ≡ Some (record { low = slice_index lows p; high = slice_index highs p })
range_at-rows_of from [] lows highs p h lt = absurd (omega (arith, eqb-true from (from + length lows) h.ends_is))
range_at-rows_of from (end ∷ ends) lows highs p h lt =
    let width : ℕ = end - from in
    let la : length (take width lows) ≡ width = length-take-le width lows (flat-low-le from end ends lows highs h) in
    let ha : length (take width highs) ≡ width = length-take-le width highs (flat-high-le from end ends lows highs h) in
    let first : length (ranges (take width lows) (take width highs)) ≡ width = length-ranges (take width lows) (take width highs) (la ∙ sym ha) ∙ la in
    elim (cases_lt p width) [
      | inl a ↦
          let low_is = get_or-take width lows p 0 a in
          let high_is = get_or-take width highs p 0 a in
          chosen-here _ _ _ _ (lt-ltb p _ (omega (arith, first))) (ranges-get (take width lows) (take width highs) p (omega (arith, la)) (omega (arith, ha)) ∙ rw (low_is, high_is) refl)
      | inr a ↦
          let moved : width + (p - width) ≡ p = omega arith in
          let low_is = get_or-drop width lows (p - width) 0 ∙ ap (λ (i : ℕ). slice_index lows i) moved in
          let high_is = get_or-drop width highs (p - width) 0 ∙ ap (λ (i : ℕ). slice_index highs i) moved in
          let rest = range_at-rows_of end ends (drop width lows) (drop width highs) (p - width) (flat-rest from end ends lows highs h) (omega (arith, length-drop width lows)) in
          chosen-on _ _ _ _ (le-ltb p _ (omega (arith, first))) (ap (λ (w : ℕ). range_at (rows_of end ends (drop width lows) (drop width highs)) (p - w)) first ∙ (rest ∙ rw (low_is, high_is) refl))
    ]

pub rows_of-refilled : (n m : ℕ) (xs ys ws vs ends ends_b low_b high_b : List ℕ) → ends ≡ ends_b → ws ≡ low_b → vs ≡ high_b → length ws ≡ n → length vs ≡ m →
    rows_of 0 ends (refill n xs ws) (refill m ys vs) ≡ rows_of 0 ends_b low_b high_b
rows_of-refilled n m xs ys ws vs ends ends_b low_b high_b e a b k l = rw (refill-same n xs ws k, refill-same m ys vs l, e, a, b) refl

-- ---- a place with a range

pub range_at-within : (box : List (List Range)) (p : ℕ) (r : Range) → range_at box p ≡ Some r → p < places box
range_at-within [] p r e = absurd cc
range_at-within (row ∷ box) p r e =
    elim (cases_lt p (length row)) [
      | inl a ↦ omega (arith, sum-cons (length row) (shape box))
      | inr a ↦ omega (arith, sum-cons (length row) (shape box), range_at-within box (p - length row) r (sym (chosen-on (ltb p (length row)) (slice_get row p) (range_at box (p - length row)) _ (le-ltb p (length row) a) refl) ∙ e))
    ]

pub ruleset boxes = (boxes_alike)

pub ruleset at_place = (places-rows_of, range_at-rows_of)
