-- Counts of a site that become the lows of a box, raised in order.
use Rattle.std.proofs.Common.{◌≡◌, ℕ, suc, ◌+◌, ◌-◌, ◌≤◌, List, [], ◌∷◌, length, take, drop, ◌++◌, refl, arith, ap, sym, ◌∙◌, append_assoc, subst}
use Rattle.std.specs.Prelude.{min, slice_set}
use Rattle.std.specs.List.{concat}
use Rattle.std.proofs.lemmas.List.{length-append, length-take-le, take-append-drop, append-nil, drop-set-lt, length-set, take_all}
use Rattle.std.proofs.lemmas.Grind.{take-set_at}
use Rattle.std.proofs.Math.Seq.{take-append_seam}
use Rattle.cef_core.specs.Shapes.{shape}
use Rattle.cef_box.specs.declared.range.Range.{Range}
use Rattle.cef_box.specs.Corners.{raised, corner, corner_site}
use Rattle.cef_box.specs.Flat.{ranges, rows_of, AreFlat}
use Rattle.cef_box.specs.Tight.{lows}
use Rattle.cef_box.proofs.Flats.{flat-from-le, flat-low-le, flat-high-le, length-ranges}
use Rattle.cef_box.proofs.Kept.{length-raised, shape-corner_site}
use Rattle.cef_box.proofs.Shapes.{counts_alike}
use Rattle.cef_box.proofs.Joined.{joined_same}

-- ---- one row

pub raise_none : (spare at : ℕ) (low high counts : List ℕ) → low ≡ [] → counts ≡ take at counts ++ (raised spare (ranges low high) ++ drop (at + length low) counts)
raise_none spare at low high counts e =
    let here : at + 0 ≡ at = omega arith in
    rw (e, here) (sym (take-append-drop at counts))

pub raise_first : (spare at more count l h : ℕ) (low high rest_low rest_high before between after : List ℕ) → low ≡ l ∷ rest_low → high ≡ h ∷ rest_high → at + length low ≤ length before →
    more ≡ min (h - l) spare → count ≡ l + more → between ≡ slice_set before at count →
    after ≡ take (at + 1) between ++ (raised (spare - more) (ranges rest_low rest_high) ++ drop (at + 1 + length rest_low) between) →
    after ≡ take at before ++ (raised spare (ranges low high) ++ drop (at + length low) before)
raise_first spare at more count l h low high rest_low rest_high before between after el eh within em ec eb ea =
    let behind : length low ≡ 1 + length rest_low = ap length el ∙ add-one-first (length rest_low) in
    let front : take (at + 1) between ≡ take at before ++ count ∷ [] = ap (take (at + 1)) eb ∙ take-set_at before at (at + 1) count refl (omega (arith, behind)) in
    let back : drop (at + 1 + length rest_low) between ≡ drop (at + length low) before = ap (drop (at + 1 + length rest_low)) eb ∙ (drop-set-lt (at + 1 + length rest_low) before at count (omega arith) ∙ ap (λ (k : ℕ). drop k before) (moved at (length rest_low) (length low) behind)) in
    let counts : raised spare (ranges low high) ≡ count ∷ raised (spare - more) (ranges rest_low rest_high) = rw (el, eh, ec, em) refl in
    ea ∙ rw (front, back, counts) (append_assoc (take at before) (count ∷ []) (raised (spare - more) (ranges rest_low rest_high) ++ drop (at + length low) before))
  where
    add-one-first : (k : ℕ) → suc k ≡ 1 + k
    add-one-first k = omega arith

    moved : (at k m : ℕ) → m ≡ 1 + k → at + 1 + k ≡ at + m
    moved at k m e = omega arith

pub raise_size : (at count : ℕ) (before between after : List (List ℕ)) → concat between ≡ slice_set (concat before) at count → length (concat after) ≡ length (concat between) → length (concat after) ≡ length (concat before)
raise_size at count before between after e f = f ∙ (ap length e ∙ length-set (concat before) at count)

pub ruleset raising = (raise_none, raise_first, raise_size)

-- ---- all rows

pub corner_none : (n from : ℕ) (low high counts : List ℕ) → from + length low ≡ length counts → low ≡ [] → counts ≡ take from counts ++ concat (corner_site n (rows_of from [] low high))
corner_none n from low high counts e none =
    let short : length counts ≤ from = omega (arith, e, ap length none) in
    sym (append-nil (take from counts) ∙ take_all from counts short)

pub corner_first : (n from end at count : ℕ) (ends rest low high low_row high_row low_rest high_rest before between after : List ℕ) → ends ≡ end ∷ rest → AreFlat from ends low high → from + length low ≡ length before →
    at ≡ from → count ≡ end - from → low_row ≡ take count low → high_row ≡ take count high → low_rest ≡ drop count low → high_rest ≡ drop count high →
    between ≡ take at before ++ (corner n (ranges low_row high_row) ++ drop (at + length low_row) before) →
    after ≡ take end between ++ concat (corner_site n (rows_of end rest low_rest high_rest)) →
    after ≡ take from before ++ concat (corner_site n (rows_of from ends low high))
corner_first n from end at count ends rest low high low_row high_row low_rest high_rest before between after e flat within ea ec elr ehr els ehs eb ef =
    let whole : AreFlat from (end ∷ rest) low high = subst (λ (xs : List ℕ). AreFlat from xs low high) e flat in
    let low_is : low_row ≡ take (end - from) low = elr ∙ ap (λ (k : ℕ). take k low) ec in
    let high_is : high_row ≡ take (end - from) high = ehr ∙ ap (λ (k : ℕ). take k high) ec in
    let low_behind : low_rest ≡ drop (end - from) low = els ∙ ap (λ (k : ℕ). drop k low) ec in
    let high_behind : high_rest ≡ drop (end - from) high = ehs ∙ ap (λ (k : ℕ). drop k high) ec in
    let la : length low_row ≡ end - from = ap length low_is ∙ length-take-le (end - from) low (flat-low-le from end rest low high whole) in
    let ha : length high_row ≡ end - from = ap length high_is ∙ length-take-le (end - from) high (flat-high-le from end rest low high whole) in
    let row : List ℕ = corner n (ranges low_row high_row) in
    let row_size : length row ≡ end - from = length-raised (n - lows (ranges low_row high_row)) (ranges low_row high_row) ∙ (length-ranges low_row high_row (la ∙ sym ha) ∙ la) in
    let front_size : length (take from before) ≡ from = length-take-le from before (omega (arith, within)) in
    let size : length (take from before ++ row) ≡ end = omega (arith, length-append (take from before) row, row_size, front_size, flat-from-le from end rest low high whole) in
    let tail : List ℕ = drop (at + length low_row) before in
    let here : between ≡ take from before ++ (row ++ tail) = eb ∙ ap (λ (k : ℕ). take k before ++ (row ++ tail)) ea in
    let joined : between ≡ (take from before ++ row) ++ tail = here ∙ sym (append_assoc (take from before) row tail) in
    let front : take end between ≡ take from before ++ row = ap (take end) joined ∙ (ap (λ (k : ℕ). take k ((take from before ++ row) ++ tail)) (sym size) ∙ take-append_seam (take from before ++ row) tail) in
    let others : List ℕ = concat (corner_site n (rows_of end rest low_rest high_rest)) in
    let all : row ++ others ≡ concat (corner_site n (rows_of from ends low high)) = rw (e, low_is, high_is, low_behind, high_behind) refl in
    ef ∙ (ap (λ (xs : List ℕ). xs ++ others) front ∙ (append_assoc (take from before) row others ∙ ap (λ (xs : List ℕ). take from before ++ xs) all))

pub ruleset cornering = (corner_none)

-- ---- the site

pub corner_same : (n : ℕ) (ends low high counts : List ℕ) (box : List (List Range)) (before site : List (List ℕ)) → rows_of 0 ends low high ≡ box → shape before ≡ shape box → shape site ≡ shape before →
    concat site ≡ take 0 counts ++ concat (corner_site n (rows_of 0 ends low high)) → site ≡ corner_site n box
corner_same n ends low high counts box before site e shaped kept counts_are =
    joined_same site (corner_site n box) (kept ∙ (shaped ∙ sym (shape-corner_site n box))) (counts_are ∙ ap (λ (b : List (List Range)). concat (corner_site n b)) e)

pub all_within : (ends low high : List ℕ) (box : List (List Range)) (site : List (List ℕ)) → AreFlat 0 ends low high → rows_of 0 ends low high ≡ box → shape site ≡ shape box → 0 + length low ≡ length (concat site)
all_within ends low high box site flat e shaped =
    let counts : length (concat site) ≡ length low = counts_alike ends low high site flat (shaped ∙ ap shape (sym e)) in
    omega (arith, counts)

pub ruleset cornered = (corner_same, all_within)
