-- The laws of a parameter's bounds, by its places and its form.
use Rattle.std.proofs.Common.{◌≡◌, ℕ, zero, suc, ◌+◌, ◌*◌, ◌^◌, ◌<◌, ◌≤◌, List, [], ◌∷◌, ◌++◌, length, map, refl, arith, sym, ◌∙◌, slice_index, Bool, true, false}
use Rattle.std.specs.Prelude.{pos, ◌-ℤ◌, ◌*ℤ◌, ◌≤ℤ◌, sum}
use Rattle.std.specs.List.{concat, AllByRecursion}
use Rattle.std.proofs.lemmas.Int.{ints}
use Rattle.std.proofs.lemmas.Nat.{mul-le}
use Rattle.std.proofs.Math.Nat.{one-le-pow}
use Rattle.cef_core.specs.declared.phase.ParamAt.{ParamAt}
use Rattle.cef_box.specs.declared.range.Range.{Range}
use Rattle.cef_core.specs.Shapes.{shape}
use Rattle.cef_box.specs.Boxes.{lows_of, highs_of, AllWithin, IsMember, IsSingle}
use Rattle.cef_core.specs.Parameters.{picked, product_over, interacting, parameter_value, factor_of}
use Rattle.cef_core.specs.Phases.{ArePlaces, AreDistinct, IsOrder}
use Rattle.cef_box.specs.Terms.{IsBetween, AreOne}
use Rattle.cef_term.specs.declared.form.Form.{Form}
use Rattle.cef_term.specs.declared.form.Form.TheVariants.{Plain, Binary, Ternary}
use Rattle.cef_term.specs.Bounds.{value_of, low_of, high_of, least_q, greatest_q, divisor, parameter_low, parameter_high}
use Rattle.cef_term.specs.Kept.{placed, form_of, count_at, product_at, factor_at, least_factor_at, greatest_factor_at, factor_most, least_q_at, greatest_q_at}
use Rattle.cef_term.proofs.Linked.{counted, linked, IsLinked}
use Rattle.cef_term.proofs.Picking.{picked_is, product_over_is, interacting_is, lengths_are, threes, interacting_all, IsWithinThree, AddTo}
use Rattle.cef_term.proofs.Powers.{power_above, power_below}
use Rattle.cef_term.proofs.Sizes.{factor_between, factor_same, ends_same}

-- the places of a parameter, and its form
abbrev pub places_of : List ℕ → ParamAt → List (List ℕ)
places_of widths p = placed 0 widths p.array

abbrev pub form_in : ℕ → List ℕ → ParamAt → Form
form_in n widths p = form_of n p.order p.weighted (interacting (places_of widths p))

-- what is known of a parameter of a phase whose sublattices have so many sites
pub record IsGiven (n : ℕ) (widths : List ℕ) (p : ParamAt) : Type 0 where
  pub some : 1 ≤ n
  pub in_array : ArePlaces widths p.array
  pub distinct : AllByRecursion AreDistinct p.array
  pub order : IsOrder p.order p.weighted (interacting (places_of widths p))

-- K, the factor and the divisor of counts of the shape
pub record IsFlat (n : ℕ) (widths : List ℕ) (p : ParamAt) (low high : List (List ℕ)) : Type 0 where
  pub product : product_over (picked p.array low) ≡ product_at (concat low) (concat (places_of widths p))
  pub lengths : sum (map length (picked p.array low)) ≡ length (concat (places_of widths p))
  pub factor : factor_of n p.order p.weighted (interacting (picked p.array low)) ≡ factor_at (form_in n widths p) (concat low)
  pub den : divisor n p (picked p.array low) ≡ n ^ length (concat (places_of widths p)) * factor_most n (form_in n widths p)
  pub least : least_q n p (picked p.array low) (picked p.array high) ≡ least_q_at (concat (places_of widths p)) (form_in n widths p) (concat low) (concat high)
  pub greatest : greatest_q n p (picked p.array low) (picked p.array high) ≡ greatest_q_at (concat (places_of widths p)) (form_in n widths p) (concat low) (concat high)

pub flat : (n : ℕ) (widths : List ℕ) (p : ParamAt) (low high : List (List ℕ)) → IsGiven n widths p → shape low ≡ widths → shape high ≡ widths → IsFlat n widths p low high
flat n widths p low high given a b =
    let P : List (List ℕ) = places_of widths p in
    let lows : picked p.array low ≡ counted (concat low) P = picked_is [] widths p.array low a given.in_array in
    let highs : picked p.array high ≡ counted (concat high) P = picked_is [] widths p.array high b given.in_array in
    let low_lists : interacting (counted (concat low) P) ≡ counted (concat low) (interacting P) = interacting_is (λ q. count_at (concat low) q) P in
    let high_lists : interacting (counted (concat high) P) ≡ counted (concat high) (interacting P) = interacting_is (λ q. count_at (concat high) q) P in
    let l : IsLinked n p.order p.weighted (interacting P) (concat low) (concat low) (concat high) = linked n p.order p.weighted (interacting P) (concat low) (concat low) (concat high) given.order in
    record {
      product = rw lows (product_over_is (concat low) P);
      lengths = rw lows (lengths_are (concat low) P);
      factor = rw (lows, low_lists) l.factor;
      den = rw (lows, low_lists, lengths_are (concat low) P, l.divisor) refl;
      least = rw (lows, highs, low_lists, high_lists, product_over_is (concat low) P, product_over_is (concat high) P, l.least) refl;
      greatest = rw (lows, highs, low_lists, high_lists, product_over_is (concat low) P, product_over_is (concat high) P, l.greatest) refl;
    }

-- counts between counts
abbrev pub AreBetween : List ℕ → List ℕ → Type 0
AreBetween low counts = (k : ℕ) → count_at low k ≤ count_at counts k

row_between : (row : List Range) (counts : List ℕ) → AllWithin row counts → (k : ℕ) → (slice_index (map (λ (r : Range). r.low) row) k ≤ slice_index counts k) × (slice_index counts k ≤ slice_index (map (λ (r : Range). r.high) row) k)
row_between [] [] h k = (omega arith, omega arith)
row_between [] (c ∷ counts) h k = absurd h
row_between (r ∷ row) [] h k = absurd h
row_between (r ∷ row) (c ∷ counts) h zero = (h.0, h.1)
row_between (r ∷ row) (c ∷ counts) h (suc k) = row_between row counts h.2 k

joined : (a b c d : List ℕ) → length a ≡ length b → AreBetween a b → AreBetween c d → AreBetween (a ++ c) (b ++ d)
joined [] [] c d e h i k = i k
joined [] (y ∷ b) c d e h i k = absurd (omega arith)
joined (x ∷ a) [] c d e h i k = absurd (omega arith)
joined (x ∷ a) (y ∷ b) c d e h i zero = h zero
joined (x ∷ a) (y ∷ b) c d e h i (suc k) = joined a b c d (omega arith) (λ j. h (suc j)) i k

row_lengths : (row : List Range) (counts : List ℕ) → AllWithin row counts → (length (map (λ (r : Range). r.low) row) ≡ length counts) × (length (map (λ (r : Range). r.high) row) ≡ length counts)
row_lengths [] [] h = (refl, refl)
row_lengths [] (c ∷ counts) h = absurd h
row_lengths (r ∷ row) [] h = absurd h
row_lengths (r ∷ row) (c ∷ counts) h = let rest = row_lengths row counts h.2 in (omega (arith, rest.0), omega (arith, rest.1))

pub lows_below : (n : ℕ) (box : List (List Range)) (site : List (List ℕ)) → IsMember n box site → AreBetween (concat (lows_of box)) (concat site)
lows_below n [] [] h k = omega arith
lows_below n [] (counts ∷ site) h k = absurd h
lows_below n (row ∷ box) [] h k = absurd h
lows_below n (row ∷ box) (counts ∷ site) h k = joined (map (λ (r : Range). r.low) row) counts (concat (lows_of box)) (concat site) (row_lengths row counts h.0.within).0 (λ k. (row_between row counts h.0.within k).0) (lows_below n box site h.1) k

pub highs_above : (n : ℕ) (box : List (List Range)) (site : List (List ℕ)) → IsMember n box site → AreBetween (concat site) (concat (highs_of box))
highs_above n [] [] h k = omega arith
highs_above n [] (counts ∷ site) h k = absurd h
highs_above n (row ∷ box) [] h k = absurd h
highs_above n (row ∷ box) (counts ∷ site) h k = joined counts (map (λ (r : Range). r.high) row) (concat site) (concat (highs_of box)) (sym (row_lengths row counts h.0.within).1) (λ k. (row_between row counts h.0.within k).1) (highs_above n box site h.1) k

pub member_adds : (n : ℕ) (box : List (List Range)) (site : List (List ℕ)) → IsMember n box site → AddTo n site
member_adds n [] [] h = tt
member_adds n [] (counts ∷ site) h = absurd h
member_adds n (row ∷ box) [] h = absurd h
member_adds n (row ∷ box) (counts ∷ site) h = (h.0.adds, member_adds n box site h.1)

within_length : (row : List Range) (counts : List ℕ) → AllWithin row counts → length counts ≡ length row
within_length [] [] h = refl
within_length [] (c ∷ counts) h = absurd h
within_length (r ∷ row) [] h = absurd h
within_length (r ∷ row) (c ∷ counts) h = omega (arith, within_length row counts h.2)

pub member_shape : (n : ℕ) (box : List (List Range)) (site : List (List ℕ)) → IsMember n box site → shape site ≡ shape box
member_shape n [] [] h = refl
member_shape n [] (counts ∷ site) h = absurd h
member_shape n (row ∷ box) [] h = absurd h
member_shape n (row ∷ box) (counts ∷ site) h = rw (within_length row counts h.0.within, member_shape n box site h.1) refl

lengths-map : (f : Range → ℕ) (row : List Range) → length (map f row) ≡ length row
lengths-map f [] = refl
lengths-map f (r ∷ row) = omega (arith, lengths-map f row)

pub lows_shape : (box : List (List Range)) → shape (lows_of box) ≡ shape box
lows_shape [] = refl
lows_shape (row ∷ box) = rw (lengths-map (λ (r : Range). r.low) row, lows_shape box) refl

pub highs_shape : (box : List (List Range)) → shape (highs_of box) ≡ shape box
highs_shape [] = refl
highs_shape (row ∷ box) = rw (lengths-map (λ (r : Range). r.high) row, highs_shape box) refl

-- products and factors over counts between counts
product_at-mono : (low counts places : List ℕ) → AreBetween low counts → product_at low places ≤ product_at counts places
product_at-mono low counts [] h = omega arith
product_at-mono low counts (p ∷ places) h = mul-le (count_at low p) (product_at low places) (count_at counts p) (product_at counts places) (h p) (product_at-mono low counts places h)

-- the counts of a ternary form add to n at most
abbrev pub IsWithinForm : ℕ → Form → List ℕ → Type 0
IsWithinForm n Plain c = Unit {0}
IsWithinForm n (Binary i j v) c = Unit {0}
IsWithinForm n (Ternary m o i j) c = (m ≡ n) × (count_at c o + count_at c i + count_at c j ≤ n)

within_form : (n v : ℕ) (w : Bool) (lists : List (List ℕ)) (c : List ℕ) → IsOrder v w lists → AllByRecursion (IsWithinThree n c) lists → IsWithinForm n (form_of n v w lists) c
within_form n v w [] c h a = tt
within_form n zero w ((i ∷ j ∷ []) ∷ []) c h a = tt
within_form n (suc v) w ((i ∷ j ∷ []) ∷ []) c h a = tt
within_form n zero true ((i ∷ j ∷ k ∷ []) ∷ []) c h a = (refl, a.0)
within_form n (suc zero) true ((i ∷ j ∷ k ∷ []) ∷ []) c h a = (refl, omega (arith, a.0))
within_form n (suc (suc v)) true ((i ∷ j ∷ k ∷ []) ∷ []) c h a = (refl, omega (arith, a.0))
within_form n zero false ((i ∷ j ∷ k ∷ []) ∷ []) c h a = tt
within_form n (suc zero) false ((i ∷ j ∷ k ∷ []) ∷ []) c h a = tt
within_form n (suc (suc v)) false ((i ∷ j ∷ k ∷ []) ∷ []) c h a = tt
within_form n v w ((i ∷ j ∷ []) ∷ (k ∷ l ∷ []) ∷ []) c h a = tt
within_form n v w ([] ∷ rest) c h a = absurd h
within_form n v w ((i ∷ []) ∷ rest) c h a = absurd h
within_form n v w ((i ∷ j ∷ []) ∷ [] ∷ rest) c h a = absurd h
within_form n v w ((i ∷ j ∷ []) ∷ (k ∷ []) ∷ rest) c h a = absurd h
within_form n v w ((i ∷ j ∷ []) ∷ (k ∷ l ∷ []) ∷ m ∷ rest) c h a = absurd h
within_form n v w ((i ∷ j ∷ []) ∷ (k ∷ l ∷ m ∷ more) ∷ rest) c h a = absurd h
within_form n v true ((i ∷ j ∷ k ∷ []) ∷ m ∷ rest) c h a = absurd h
within_form n v false ((i ∷ j ∷ k ∷ []) ∷ m ∷ rest) c h a = absurd h
within_form n v true ((i ∷ j ∷ k ∷ l ∷ more) ∷ rest) c h a = absurd h
within_form n v false ((i ∷ j ∷ k ∷ l ∷ more) ∷ rest) c h a = absurd h

factor_ends : (n : ℕ) (form : Form) (low counts high : List ℕ) → AreBetween low counts → AreBetween counts high → IsWithinForm n form counts →
    (least_factor_at form low high ≤ℤ factor_at form counts) × (factor_at form counts ≤ℤ greatest_factor_at form low high)
factor_ends n Plain low counts high a b w = (omega (arith, ints), omega (arith, ints))
factor_ends n (Binary i j v) low counts high a b w =
    let below : (pos (count_at low i) -ℤ pos (count_at high j)) ≤ℤ (pos (count_at counts i) -ℤ pos (count_at counts j)) = omega (arith, ints, a i, b j) in
    let above : (pos (count_at counts i) -ℤ pos (count_at counts j)) ≤ℤ (pos (count_at high i) -ℤ pos (count_at low j)) = omega (arith, ints, b i, a j) in
    (power_above _ _ _ v below above, power_below _ _ _ v below above)
factor_ends n (Ternary m o i j) low counts high a b w =
    (omega (arith, ints, w.0, w.1, a o, b i, b j), omega (arith, ints, a i, a j, b o))

factor_one : (n : ℕ) (form : Form) (counts : List ℕ) → IsWithinForm n form counts → (least_factor_at form counts counts ≡ factor_at form counts) × (greatest_factor_at form counts counts ≡ factor_at form counts)
factor_one n Plain counts w = (refl, refl)
factor_one n (Binary i j v) counts w = ends_same (pos (count_at counts i) -ℤ pos (count_at counts j)) v
factor_one n (Ternary m o i j) counts w = (omega (arith, ints, w.0, w.1), refl)

den_some : (n length most : ℕ) → 1 ≤ n → 1 ≤ most → 0 < n ^ length * most
den_some n length most h k = omega (arith, mul-le 1 1 (n ^ length) most (one-le-pow length n h) k)

-- ---- a parameter's value and bounds by its places and its form

pub value_by_places : (n : ℕ) (widths : List ℕ) (p : ParamAt) (site : List (List ℕ)) (d : ℕ) → IsGiven n widths p → shape site ≡ widths → d ≡ n ^ length (concat (places_of widths p)) * factor_most n (form_in n widths p) →
    parameter_value n p site ≡ value_of p.micro d (pos (product_at (concat site) (concat (places_of widths p))) *ℤ factor_at (form_in n widths p) (concat site))
unfolding parameter_value value_of
value_by_places n widths p site d given e de =
    let f = flat n widths p site site given e e in
    rw (f.product, f.factor, f.den, de) refl

pub low_by_places : (n : ℕ) (widths : List ℕ) (p : ParamAt) (box : List (List Range)) (d : ℕ) → IsGiven n widths p → shape box ≡ widths → d ≡ n ^ length (concat (places_of widths p)) * factor_most n (form_in n widths p) →
    parameter_low n p box ≡ low_of p.micro d (least_q_at (concat (places_of widths p)) (form_in n widths p) (concat (lows_of box)) (concat (highs_of box))) (greatest_q_at (concat (places_of widths p)) (form_in n widths p) (concat (lows_of box)) (concat (highs_of box)))
unfolding parameter_low
low_by_places n widths p box d given e de =
    let f = flat n widths p (lows_of box) (highs_of box) given (lows_shape box ∙ e) (highs_shape box ∙ e) in
    rw (f.den, f.least, f.greatest, de) refl

pub high_by_places : (n : ℕ) (widths : List ℕ) (p : ParamAt) (box : List (List Range)) (d : ℕ) → IsGiven n widths p → shape box ≡ widths → d ≡ n ^ length (concat (places_of widths p)) * factor_most n (form_in n widths p) →
    parameter_high n p box ≡ high_of p.micro d (least_q_at (concat (places_of widths p)) (form_in n widths p) (concat (lows_of box)) (concat (highs_of box))) (greatest_q_at (concat (places_of widths p)) (form_in n widths p) (concat (lows_of box)) (concat (highs_of box)))
unfolding parameter_high
high_by_places n widths p box d given e de =
    let f = flat n widths p (lows_of box) (highs_of box) given (lows_shape box ∙ e) (highs_shape box ∙ e) in
    rw (f.den, f.least, f.greatest, de) refl

member_form : (n : ℕ) (widths : List ℕ) (p : ParamAt) (box : List (List Range)) (site : List (List ℕ)) → IsGiven n widths p → shape box ≡ widths → IsMember n box site → IsWithinForm n (form_in n widths p) (concat site)
member_form n widths p box site given e m =
    within_form n p.order p.weighted (interacting (places_of widths p)) (concat site) given.order
    (interacting_all (IsWithinThree n (concat site)) (places_of widths p) (threes n [] widths p.array site (member_shape n box site m ∙ e) given.in_array given.distinct (member_adds n box site m)))

form_some : (n : ℕ) (form : Form) → 1 ≤ n → 1 ≤ factor_most n form
form_some n Plain h = omega arith
form_some n (Binary i j v) h = one-le-pow v n h
form_some n (Ternary m o i j) h = omega arith

-- each member of a box has a value from the low to the high
pub value_between : (n : ℕ) (widths : List ℕ) (p : ParamAt) (box : List (List Range)) (site : List (List ℕ)) → IsGiven n widths p → shape box ≡ widths → IsMember n box site →
    IsBetween (parameter_low n p box) (parameter_value n p site) (parameter_high n p box)
value_between n widths p box site given e m =
    let d : ℕ = n ^ length (concat (places_of widths p)) * factor_most n (form_in n widths p) in
    let below = lows_below n box site m in
    let above = highs_above n box site m in
    let ends = factor_ends n (form_in n widths p) (concat (lows_of box)) (concat site) (concat (highs_of box)) below above (member_form n widths p box site given e m) in
    rw (value_by_places n widths p site d given (member_shape n box site m ∙ e) refl, low_by_places n widths p box d given e refl, high_by_places n widths p box d given e refl)
    (factor_between p.micro d _ _ _ _ _ _ (den_some n (length (concat (places_of widths p))) (factor_most n (form_in n widths p)) given.some (form_some n (form_in n widths p) given.some))
    (product_at-mono (concat (lows_of box)) (concat site) (concat (places_of widths p)) below)
    (product_at-mono (concat site) (concat (highs_of box)) (concat (places_of widths p)) above)
    ends.0 ends.1)

-- and all three are one where the lows are the highs
single_row : (row : List Range) (counts : List ℕ) → AllWithin row counts → map (λ (r : Range). r.low) row ≡ map (λ (r : Range). r.high) row → map (λ (r : Range). r.low) row ≡ counts
single_row [] [] h e = refl
single_row [] (c ∷ counts) h e = absurd h
single_row (r ∷ row) [] h e = absurd h
single_row (r ∷ row) (c ∷ counts) h e =
    let one : r.low ≡ r.high = head_is _ _ _ _ e in
    let same : r.low ≡ c = omega (arith, one, h.0, h.1) in
    rw (same, single_row row counts h.2 (tail_is _ _ _ _ e)) refl
  where
    head_is : (a b : ℕ) (xs ys : List ℕ) → a ∷ xs ≡ b ∷ ys → a ≡ b
    head_is a b xs ys e = cc

    tail_is : (a b : ℕ) (xs ys : List ℕ) → a ∷ xs ≡ b ∷ ys → xs ≡ ys
    tail_is a b xs ys e = cc

single_site : (n : ℕ) (box : List (List Range)) (site : List (List ℕ)) → IsMember n box site → IsSingle box → lows_of box ≡ site
single_site n [] [] m e = refl
single_site n [] (counts ∷ site) m e = absurd m
single_site n (row ∷ box) [] m e = absurd m
single_site n (row ∷ box) (counts ∷ site) m e = rw (single_row row counts m.0.within (head_is _ _ _ _ e), single_site n box site m.1 (tail_is _ _ _ _ e)) refl
  where
    head_is : (a b : List ℕ) (xs ys : List (List ℕ)) → a ∷ xs ≡ b ∷ ys → a ≡ b
    head_is a b xs ys e = cc

    tail_is : (a b : List ℕ) (xs ys : List (List ℕ)) → a ∷ xs ≡ b ∷ ys → xs ≡ ys
    tail_is a b xs ys e = cc

pub values_same : (n : ℕ) (widths : List ℕ) (p : ParamAt) (box : List (List Range)) (site : List (List ℕ)) → IsGiven n widths p → shape box ≡ widths → IsMember n box site → IsSingle box →
    AreOne (parameter_low n p box) (parameter_value n p site) (parameter_high n p box)
values_same n widths p box site given e m single =
    let d : ℕ = n ^ length (concat (places_of widths p)) * factor_most n (form_in n widths p) in
    let low : lows_of box ≡ site = single_site n box site m single in
    let high : highs_of box ≡ site = sym single ∙ low in
    let ends = factor_one n (form_in n widths p) (concat site) (member_form n widths p box site given e m) in
    let both = factor_same p.micro d (product_at (concat site) (concat (places_of widths p))) (factor_at (form_in n widths p) (concat site)) in
    rw (value_by_places n widths p site d given (member_shape n box site m ∙ e) refl, low_by_places n widths p box d given e refl, high_by_places n widths p box d given e refl, low, high, ends.0, ends.1)
    (record { below = both.0; above = both.1 })
