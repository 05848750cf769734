-- What the shape of flat rows says of the places behind them, and the counts of all rows as one list.
use Rattle.std.proofs.Common.{◌≡◌, ℕ, zero, suc, ◌+◌, ◌-◌, List, [], ◌∷◌, length, take, drop, refl, arith, ap, sym, ◌∙◌, true, Some, slice_get, map}
use Rattle.std.specs.List.{concat}
use Rattle.std.proofs.lemmas.Bool.{eqb-true}
use Rattle.std.proofs.lemmas.List.{length-drop, length-take-le, length-append}
use Rattle.std.proofs.lemmas.List.Sums.{sum_by-cons}
use Rattle.std.specs.Prelude.{sum}
use Rattle.cef_box.specs.declared.range.Range.{Range}
use Rattle.cef_core.specs.Shapes.{shape, places}
use Rattle.cef_box.specs.Boxes.{lows_of, highs_of}
use Rattle.cef_box.specs.Flat.{ranges, rows_of, AreFlat}
use Rattle.cef_core.specs.Sublattices.{are_ends, parts_of}
use Rattle.cef_core.proofs.Flats.{counts_flat}
use Rattle.cef_box.proofs.Flats.{flat-low-le, flat-high-le, flat-rest, length-ranges, parts_of-joined}

-- how many places each row has
abbrev pub widths : ℕ → List ℕ → List ℕ
widths from [] = []
widths from (end ∷ ends) = (end - from) ∷ widths end ends

pub shape-rows_of : (from : ℕ) (ends lows highs : List ℕ) → AreFlat from ends lows highs → shape (rows_of from ends lows highs) ≡ widths from ends
shape-rows_of from [] lows highs h = refl
shape-rows_of from (end ∷ ends) lows highs h =
    let la = length-take-le (end - from) lows (flat-low-le from end ends lows highs h) in
    let ha = length-take-le (end - from) highs (flat-high-le from end ends lows highs h) in
    let first = length-ranges (take (end - from) lows) (take (end - from) highs) (la ∙ sym ha) ∙ la in
    rw (first, shape-rows_of end ends (drop (end - from) lows) (drop (end - from) highs) (flat-rest from end ends lows highs h)) refl

pub head_is : (a b : ℕ) (xs ys : List ℕ) → a ∷ xs ≡ b ∷ ys → a ≡ b
head_is a b xs ys e = cc

pub tail_is : (a b : ℕ) (xs ys : List ℕ) → a ∷ xs ≡ b ∷ ys → xs ≡ ys
tail_is a b xs ys e = cc

pub parts_of-concat : (from : ℕ) (ends : List ℕ) (site : List (List ℕ)) → shape site ≡ widths from ends → parts_of from ends (concat site) ≡ site
parts_of-concat from [] [] e = refl
parts_of-concat from [] (row ∷ site) e = absurd cc
parts_of-concat from (end ∷ ends) [] e = absurd cc
parts_of-concat from (end ∷ ends) (row ∷ site) e =
    let first : length row ≡ end - from = head_is _ _ _ _ e in
    rw (parts_of-joined from end ends row (concat site) first) (ap (λ (rest : List (List ℕ)). row ∷ rest) (parts_of-concat end ends site (tail_is _ _ _ _ e)))

-- counts of the shape of a box: its places cut them as they are cut
pub site_alike : (ends low high : List ℕ) (site : List (List ℕ)) → AreFlat 0 ends low high → shape site ≡ shape (rows_of 0 ends low high) → parts_of 0 ends (concat site) ≡ site
site_alike ends low high site h e = parts_of-concat 0 ends site (e ∙ shape-rows_of 0 ends low high h)

pub places-rows_of : (from : ℕ) (ends lows highs : List ℕ) → AreFlat from ends lows highs → places (rows_of from ends lows highs) ≡ length lows
places-rows_of from [] lows highs h = omega (arith, eqb-true from (from + length lows) h.ends_is)
places-rows_of from (end ∷ ends) lows highs h =
    let la = length-take-le (end - from) lows (flat-low-le from end ends lows highs h) in
    let ha = length-take-le (end - from) highs (flat-high-le from end ends lows highs h) in
    let first = length-ranges (take (end - from) lows) (take (end - from) highs) (la ∙ sym ha) ∙ la in
    let rest = places-rows_of end ends (drop (end - from) lows) (drop (end - from) highs) (flat-rest from end ends lows highs h) in
    let more = sum_by-cons (λ (x : ℕ). x) (length (ranges (take (end - from) lows) (take (end - from) highs))) (shape (rows_of end ends (drop (end - from) lows) (drop (end - from) highs))) in
    omega (arith, first, rest, more, length-drop (end - from) lows, flat-low-le from end ends lows highs h)

pub concat_places : (site : List (List ℕ)) → length (concat site) ≡ places site
concat_places [] = refl
concat_places (row ∷ site) = omega (arith, length-append row (concat site), concat_places site, sum_by-cons (λ (x : ℕ). x) (length row) (shape site))

pub counts_alike : (ends low high : List ℕ) (site : List (List ℕ)) → AreFlat 0 ends low high → shape site ≡ shape (rows_of 0 ends low high) → length (concat site) ≡ length low
counts_alike ends low high site h e = concat_places site ∙ ap sum e ∙ places-rows_of 0 ends low high h

pub ruleset shapes = (site_alike, counts_alike, places-rows_of)

some_list : (a b : List ℕ) → Some a ≡ Some b → a ≡ b
some_list a b e = cc

-- the row of a place, from its lows and its highs
pub row-of_parts : (from : ℕ) (ends low high : List ℕ) (place : ℕ) (l h : List ℕ) → slice_get (parts_of from ends low) place ≡ Some l → slice_get (parts_of from ends high) place ≡ Some h → slice_get (rows_of from ends low high) place ≡ Some (ranges l h)
row-of_parts from [] low high place l h a b = absurd cc
row-of_parts from (end ∷ ends) low high zero l h a b =
    let x : take (end - from) low ≡ l = some_list _ _ a in
    let y : take (end - from) high ≡ h = some_list _ _ b in
    rw (x, y) refl
row-of_parts from (end ∷ ends) low high (suc place) l h a b = row-of_parts end ends (drop (end - from) low) (drop (end - from) high) place l h a b

pub length-rows_of : (from : ℕ) (ends low high : List ℕ) → length (rows_of from ends low high) ≡ length ends
length-rows_of from [] low high = refl
length-rows_of from (end ∷ ends) low high = omega (arith, length-rows_of end ends (drop (end - from) low) (drop (end - from) high))

pub high_ends : (ends low high : List ℕ) → AreFlat 0 ends low high → are_ends 0 ends (length high) ≡ true
high_ends ends low high h = let same : length high ≡ 0 + length low = omega (arith, h.same) in rw same h.ends_is

pub ruleset rows = (row-of_parts, length-rows_of, high_ends)

-- the lows and the highs of all rows

lows-ranges : (low high : List ℕ) → length low ≡ length high → map (λ (r : Range). r.low) (ranges low high) ≡ low
lows-ranges [] high e = refl
lows-ranges (l ∷ low) [] e = absurd (omega arith)
lows-ranges (l ∷ low) (h ∷ high) e = ap (λ (xs : List ℕ). l ∷ xs) (lows-ranges low high (omega arith))

highs-ranges : (low high : List ℕ) → length low ≡ length high → map (λ (r : Range). r.high) (ranges low high) ≡ high
highs-ranges [] [] e = refl
highs-ranges [] (h ∷ high) e = absurd (omega arith)
highs-ranges (l ∷ low) [] e = absurd (omega arith)
highs-ranges (l ∷ low) (h ∷ high) e = ap (λ (xs : List ℕ). h ∷ xs) (highs-ranges low high (omega arith))

lows-rows_of : (from : ℕ) (ends low high : List ℕ) → AreFlat from ends low high → lows_of (rows_of from ends low high) ≡ parts_of from ends low
lows-rows_of from [] low high h = refl
lows-rows_of from (end ∷ ends) low high h =
    let la = length-take-le (end - from) low (flat-low-le from end ends low high h) in
    let ha = length-take-le (end - from) high (flat-high-le from end ends low high h) in
    rw (lows-ranges (take (end - from) low) (take (end - from) high) (la ∙ sym ha), lows-rows_of end ends (drop (end - from) low) (drop (end - from) high) (flat-rest from end ends low high h)) refl

highs-rows_of : (from : ℕ) (ends low high : List ℕ) → AreFlat from ends low high → highs_of (rows_of from ends low high) ≡ parts_of from ends high
highs-rows_of from [] low high h = refl
highs-rows_of from (end ∷ ends) low high h =
    let la = length-take-le (end - from) low (flat-low-le from end ends low high h) in
    let ha = length-take-le (end - from) high (flat-high-le from end ends low high h) in
    rw (highs-ranges (take (end - from) low) (take (end - from) high) (la ∙ sym ha), highs-rows_of end ends (drop (end - from) low) (drop (end - from) high) (flat-rest from end ends low high h)) refl

pub lows_flat : (ends low high : List ℕ) → AreFlat 0 ends low high → concat (lows_of (rows_of 0 ends low high)) ≡ low
lows_flat ends low high h = rw (lows-rows_of 0 ends low high h) (counts_flat ends low (omega-ends ends low h.ends_is))
  where
    omega-ends : (ends low : List ℕ) → are_ends 0 ends (0 + length low) ≡ true → are_ends 0 ends (length low) ≡ true
    omega-ends ends low h = let e : 0 + length low ≡ length low = omega arith in rw (← e) h

pub highs_flat : (ends low high : List ℕ) → AreFlat 0 ends low high → concat (highs_of (rows_of 0 ends low high)) ≡ high
highs_flat ends low high h = rw (highs-rows_of 0 ends low high h) (counts_flat ends high (high_ends ends low high h))

pub ruleset flattened = (lows_flat, highs_flat)
