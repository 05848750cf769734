-- The sublattices of a phase, one by one.
use Rattle.std.proofs.Common.{◌≡◌, ℕ, zero, suc, ◌+◌, ◌-◌, ◌*◌, ◌<◌, ◌≤◌, ◌^◌, List, [], ◌∷◌, Some, length, take, drop, slice_get, arith, refl, ap, subst, sym, ◌∙◌}
use Rattle.std.specs.Prelude.{ℤ, pos, ◌+ℤ◌, unsigned_abs, sum, slice_index_or, FitsSigned}
use Rattle.std.specs.Int.{w128}
use Rattle.std.specs.List.{AllByRecursion}
use Rattle.std.proofs.lemmas.Int.{ints, to_z-of_z}
use Rattle.std.proofs.lemmas.List.{length-drop, length-take-le}
use Rattle.std.proofs.lemmas.List.Sums.{sum_by-cons}
use Rattle.cal_math.specs.Vectors.{at, sum_to}
use Rattle.cal_math.proofs.Vectors.{sum-same}
use Rattle.cef_core.specs.declared.phase.PhaseAt.{PhaseAt}
use Rattle.cef_core.specs.Shapes.{shape, places}
use Rattle.cef_box.specs.declared.range.Range.{Range}
use Rattle.cef_box.specs.Boxes.{IsRange}
use Rattle.cef_box.specs.Flat.{ranges}
use Rattle.cef_box.specs.Terms.{FitsBox, shape_of_phase}
use Rattle.cef_mix.specs.Mixes.{Mixing}
use Rattle.cef_phase.specs.Bounds.{row_part, mixing_in, row_in, IsPlane}
use Rattle.cef_phase.specs.Choosing.{secants, IsFirstGreatest}
use Rattle.cef_phase.specs.declared.row.Row.{Row}
use Rattle.cef_phase.specs.Affine.{sites_to}
use Rattle.cef_phase.specs.Sums.{IsMixed}
use Rattle.cef_phase.specs.Walks.{CanWalk, CanRow, AreSlopes, AreSmall, AreRises, less, slopes_over, part_at, candidates_at}
use Rattle.cef_phase.specs.Walks.{sites_at, slopes_among, part_among, candidates_among, lowered_in, lowered_part, lowered_candidates}
use Rattle.cef_phase.proofs.Bounding.{sum-front}
use Rattle.cef_phase.proofs.Lowering.{length-lower, lower_at, lower_small, slopes_wider}
use Rattle.cef_phase.proofs.Rows.{abs-+ℤ, length-ranges_low, length-ranges_high}
use Rattle.cef_phase.proofs.Slopes.{potentials_small}

-- what stands at a place
row-at : {X : Type 0} (P : X → Type 0) (rows : List (List X)) (s : ℕ) → AllByRecursion (AllByRecursion P) rows →
    AllByRecursion P (slice_index_or rows s [])
row-at P [] s h = tt
row-at P (row ∷ rows) zero h = h.0
row-at P (row ∷ rows) (suc s) h = row-at P rows s h.1

row-given : {X : Type 0} (rows : List (List X)) (s : ℕ) (row : List X) → slice_get rows s ≡ Some row → slice_index_or rows s [] ≡ row
row-given [] s row e = absurd cc
row-given (x ∷ rows) zero row e = cc
row-given (x ∷ rows) (suc s) row e = row-given rows s row e

width-le : {X : Type 0} (rows : List (List X)) (s : ℕ) → length (slice_index_or rows s []) ≤ places rows
width-le [] s = omega arith
width-le (row ∷ rows) zero = omega (arith, sum_by-cons (λ (x : ℕ). x) (length row) (shape rows))
width-le (row ∷ rows) (suc s) = omega (arith, sum_by-cons (λ (x : ℕ). x) (length row) (shape rows), width-le rows s)

shape-length : {X Y : Type 0} (xs : List (List X)) (ys : List (List Y)) → shape xs ≡ shape ys → length xs ≡ length ys
shape-length [] [] e = refl
shape-length [] (y ∷ ys) e = absurd cc
shape-length (x ∷ xs) [] e = absurd cc
shape-length (x ∷ xs) (y ∷ ys) e = let rest : shape xs ≡ shape ys = cc in omega (arith, shape-length xs ys rest)

-- ---- the first sublattices

pub sites_to-le : {X : Type 0} (count : ℕ) (rows : List (List X)) → sites_to count rows ≤ places rows
sites_to-le zero rows = omega arith
sites_to-le (suc count) [] = omega arith
sites_to-le (suc count) (row ∷ rows) = omega (arith, sites_to-le count rows, sum_by-cons (λ (x : ℕ). x) (length row) (shape rows))

sites_to-more : {X : Type 0} (count : ℕ) (rows : List (List X)) →
    sites_to (suc count) rows ≡ sites_to count rows + length (slice_index_or rows count [])
sites_to-more zero [] = refl
sites_to-more zero (row ∷ rows) = omega arith
sites_to-more (suc count) [] = refl
sites_to-more (suc count) (row ∷ rows) = omega (arith, sites_to-more count rows)

sites_to-all : {X : Type 0} (rows : List (List X)) → sites_to (length rows) rows ≡ places rows
sites_to-all [] = refl
sites_to-all (row ∷ rows) = omega (arith, sites_to-all rows, sum_by-cons (λ (x : ℕ). x) (length row) (shape rows))

-- ---- what a walk knows of a place

pub table_there : (limit : ℕ) (phase : PhaseAt) (mix : Mixing) (box : List (List Range)) (slopes : List ℤ) (s : ℕ) →
    CanWalk limit phase mix box slopes → s < length phase.sites → s < length mix.ratios
table_there limit phase mix box slopes s can lt = omega (arith, can.mixed.ratio_each, ap length can.mixed.ratios)

pub row_there : (limit : ℕ) (phase : PhaseAt) (mix : Mixing) (box : List (List Range)) (slopes : List ℤ) (s : ℕ) →
    CanWalk limit phase mix box slopes → s < length phase.sites → s < length box
row_there limit phase mix box slopes s can lt = omega (arith, shape-length box phase.sites can.fits.widths)

pub slopes_there : (limit : ℕ) (phase : PhaseAt) (mix : Mixing) (box : List (List Range)) (slopes : List ℤ) (s from count : ℕ) →
    CanWalk limit phase mix box slopes → s < length phase.sites → from ≡ sites_to s phase.sites →
    count ≡ length (slice_index_or phase.sites s []) → from + count ≤ length slopes
slopes_there limit phase mix box slopes s from count can lt ef ec = omega (arith, ef, ec, can.each, sites_to-more s phase.sites, sites_to-le (suc s) phase.sites)

ranges_there : (limit : ℕ) (phase : PhaseAt) (mix : Mixing) (box : List (List Range)) (slopes : List ℤ) (s : ℕ) (low high : List ℕ) →
    CanWalk limit phase mix box slopes → slice_get box s ≡ Some (ranges low high) →
    AllByRecursion (IsRange mix.lattice) (ranges low high)
ranges_there limit phase mix box slopes s low high can e =
    rw (can.mixed.lattice, ← row-given box s (ranges low high) e) (row-at (IsRange phase.lattice) box s can.fits.ranges)

-- ---- the row of a place

-- a row with the parts of a place
pub record IsRowAt (phase : PhaseAt) (mix : Mixing) (box : List (List Range)) (slopes : List ℤ) (s : ℕ) (row : Row) : Type 0 where
  pub mix_is : row.mix.now ≡ mix
  pub place_is : row.place ≡ s
  pub slopes_is : row.slopes.now ≡ slopes_among phase slopes s
  pub ranges_is : slice_get box s ≡ Some (ranges row.low.now row.high.now)

width-same : {X Y : Type 0} (xs : List (List X)) (ys : List (List Y)) (s : ℕ) → shape xs ≡ shape ys →
    length (slice_index_or xs s []) ≡ length (slice_index_or ys s [])
width-same [] [] s e = refl
width-same [] (y ∷ ys) s e = absurd cc
width-same (x ∷ xs) [] s e = absurd cc
width-same (x ∷ xs) (y ∷ ys) zero e = cc
width-same (x ∷ xs) (y ∷ ys) (suc s) e = let rest : shape xs ≡ shape ys = cc in width-same xs ys s rest

taken-small : (n limit k : ℕ) (slopes : List ℤ) → AreSlopes n limit slopes → AreSlopes n limit (take k slopes)
taken-small n limit zero slopes h = tt
taken-small n limit (suc k) [] h = tt
taken-small n limit (suc k) (m ∷ slopes) h = (h.0, taken-small n limit k slopes h.1)

left-small : (n limit k : ℕ) (slopes : List ℤ) → AreSlopes n limit slopes → AreSlopes n limit (drop k slopes)
left-small n limit zero slopes h = h
left-small n limit (suc k) [] h = tt
left-small n limit (suc k) (m ∷ slopes) h = left-small n limit k slopes h.1

pub among_small : (limit : ℕ) (phase : PhaseAt) (slopes : List ℤ) (s : ℕ) → AreSlopes phase.lattice limit slopes →
    AreSlopes phase.lattice limit (slopes_among phase slopes s)
among_small limit phase slopes s h = taken-small phase.lattice limit (length (sites_at phase s)) (drop (sites_to s phase.sites) slopes) (left-small phase.lattice limit (sites_to s phase.sites) slopes h)

pub length-among : (limit : ℕ) (phase : PhaseAt) (mix : Mixing) (box : List (List Range)) (slopes : List ℤ) (s : ℕ) →
    CanWalk limit phase mix box slopes → s < length phase.sites → length (slopes_among phase slopes s) ≡ length (sites_at phase s)
length-among limit phase mix box slopes s can lt =
    let room = slopes_there limit phase mix box slopes s (sites_to s phase.sites) (length (sites_at phase s)) can lt refl refl in
    length-take-le (length (sites_at phase s)) (drop (sites_to s phase.sites) slopes) (omega (arith, room, length-drop (sites_to s phase.sites) slopes))

pub row_can : (limit : ℕ) (phase : PhaseAt) (mix : Mixing) (box : List (List Range)) (slopes : List ℤ) (s : ℕ) (row : Row) →
    CanWalk limit phase mix box slopes → s < length phase.sites → IsRowAt phase mix box slopes s row → CanRow limit row
row_can limit phase mix box slopes s row can lt is = record {
  mixable = rw is.mix_is can.mixed.mixable;
  place = rw (is.mix_is, is.place_is) (table_there limit phase mix box slopes s can lt);
  slopes = rw (is.mix_is, is.slopes_is, can.mixed.lattice) (among_small limit phase slopes s can.small);
  few = omega (arith, wide, width-le phase.sites s, can.mixed.sites);
  lows = omega (arith, same, length-ranges_low row.low.now row.high.now);
  highs = omega (arith, same, length-ranges_high row.low.now row.high.now);
  each = same;
  within = rw is.mix_is (ranges_there limit phase mix box slopes s row.low.now row.high.now can is.ranges_is);
}
  where
    wide : length row.slopes.now ≡ length (sites_at phase s)
    wide = ap length is.slopes_is ∙ length-among limit phase mix box slopes s can lt

    same : length (ranges row.low.now row.high.now) ≡ length row.slopes.now
    same = ap length (sym (row-given box s _ is.ranges_is)) ∙ width-same box phase.sites s can.fits.widths ∙ sym wide

-- its part and its candidates are those of the place
pub row_part_is : (limit : ℕ) (phase : PhaseAt) (mix : Mixing) (box : List (List Range)) (slopes : List ℤ) (s : ℕ) (row : Row) →
    CanWalk limit phase mix box slopes → IsRowAt phase mix box slopes s row →
    (l : ℤ) → part_at row l ≡ part_among phase slopes box s l
row_part_is limit phase mix box slopes s row can is l =
    rw (is.mix_is, is.place_is, is.slopes_is, can.mixed.t, can.mixed.lattice, can.mixed.ratios, ← row-given box s (ranges row.low.now row.high.now) is.ranges_is) refl

pub row_candidates_are : (limit : ℕ) (phase : PhaseAt) (mix : Mixing) (box : List (List Range)) (slopes : List ℤ) (s : ℕ) (row : Row) →
    CanWalk limit phase mix box slopes → IsRowAt phase mix box slopes s row →
    candidates_at row ≡ candidates_among phase slopes box s
row_candidates_are limit phase mix box slopes s row can is =
    rw (is.mix_is, is.place_is, is.slopes_is, can.mixed.t, can.mixed.lattice, can.mixed.ratios, ← row-given box s (ranges row.low.now row.high.now) is.ranges_is) refl

-- the first greatest of a row's candidates is the chosen one of the place
pub chosen_there : (f g : ℤ → ℤ) (xs ys : List ℤ) (x : ℤ) → ((l : ℤ) → f l ≡ g l) → xs ≡ ys → IsFirstGreatest f xs x → IsFirstGreatest g ys x
chosen_there f g xs ys x same e is = record {
  place = is.place;
  there = rw (← e) is.there;
  greatest = λ i y h. rw (← same y, ← same x) (is.greatest i y (rw e h));
  first = λ i y h lt. rw (← same y, ← same x) (is.first i y (rw e h) lt);
}

-- what a choice asks is more than what a bound asks
pub wider : (limit other : ℕ) (phase : PhaseAt) (mix : Mixing) (box : List (List Range)) (slopes : List ℤ) → limit ≤ other →
    CanWalk limit phase mix box slopes → CanWalk other phase mix box slopes
wider limit other phase mix box slopes le can = record { mixed = can.mixed; fits = can.fits; each = can.each; small = slopes_wider phase.lattice limit other slopes le can.small }

pub walk_wider : (phase : PhaseAt) (mix : Mixing) (box : List (List Range)) (slopes : List ℤ) → CanWalk (2 ^ 116 + 2 ^ 86) phase mix box slopes →
    CanWalk (2 ^ 118) phase mix box slopes
walk_wider phase mix box slopes can = wider (2 ^ 116 + 2 ^ 86) (2 ^ 118) phase mix box slopes (omega arith) can

-- ---- the parts together

pub sum_on : (n count : ℕ) (f : ℕ → ℤ) (a b z : ℤ) → suc n ≡ count → a ≡ sum_to n f → b ≡ f n → z ≡ a +ℤ b → z ≡ sum_to count f
sum_on n count f a b z whole ea eb ez = rw (← whole, ez, ea, eb) refl

-- where the slopes of the last of the first sublattices begin
pub last_from : {X : Type 0} (rows : List (List X)) (count end width : ℕ) → 0 < count → end ≡ sites_to count rows →
    width ≡ length (slice_index_or rows (count - 1) []) → end - width ≡ sites_to (count - 1) rows
last_from rows zero end width some ee ew = absurd (omega arith)
last_from rows (suc count) end width some ee ew =
    let front : suc count - 1 ≡ count = omega arith in
    rw front (omega (arith, ee, rw front at ew, sites_to-more count rows))

pub last_in : {X : Type 0} (rows : List (List X)) (count end width : ℕ) → 0 < count → end ≡ sites_to count rows →
    width ≡ length (slice_index_or rows (count - 1) []) → width ≤ end
last_in rows zero end width some ee ew = absurd (omega arith)
last_in rows (suc count) end width some ee ew =
    let front : suc count - 1 ≡ count = omega arith in
    omega (arith, ee, rw front at ew, sites_to-more count rows)

pub sum_small : (count from end width : ℕ) (a b z : ℤ) → z ≡ a +ℤ b → 0 < count → width ≤ end → from ≡ end - width →
    unsigned_abs a ≤ 2 ^ 119 * from + 2 ^ 117 * (count - 1) → unsigned_abs b ≤ 2 ^ 119 * width + 2 ^ 117 →
    unsigned_abs z ≤ 2 ^ 119 * end + 2 ^ 117 * count
sum_small count from end width a b z e some le ef h g = omega (arith, ap unsigned_abs e, abs-+ℤ a b, ef, h, g)

pub sum_fits : (count from end width : ℕ) (a b : ℤ) → end ≤ 90 → count ≤ 10 → 0 < count → width ≤ end → from ≡ end - width →
    unsigned_abs a ≤ 2 ^ 119 * from + 2 ^ 117 * (count - 1) → unsigned_abs b ≤ 2 ^ 119 * width + 2 ^ 117 →
    FitsSigned w128 (a +ℤ b)
sum_fits count from end width a b few low some le ef h g = omega (arith, ints, abs-+ℤ a b, ef, h, g)

pub multiplier_at : (n limit : ℕ) (multipliers : List ℤ) (s : ℕ) → AllByRecursion (λ l. unsigned_abs l * n ≤ limit) multipliers →
    s < length multipliers → unsigned_abs (at multipliers s) * n ≤ limit
multiplier_at n limit [] s h lt = absurd (omega arith)
multiplier_at n limit (l ∷ multipliers) zero h lt = h.0
multiplier_at n limit (l ∷ multipliers) (suc s) h lt = multiplier_at n limit multipliers s h.1 (omega arith)

pub ruleset rows = (row_there, slopes_there, row_part_is, row_candidates_are, to_z-of_z)

pub ruleset parts = (to_z-of_z)

pub ruleset choices = (walk_wider, chosen_there, to_z-of_z)

pub ruleset sums = (last_from, last_in, to_z-of_z)

-- ---- the multipliers from a place on

pub chosen_on : (phase : PhaseAt) (box : List (List Range)) (slopes : List ℤ) (place : ℕ) (x : ℤ) (out others : List ℤ) → out ≡ x ∷ others →
    IsFirstGreatest (part_among phase slopes box place) (candidates_among phase slopes box place) x →
    ((s : ℕ) → s < length others → IsFirstGreatest (part_among phase slopes box (place + 1 + s)) (candidates_among phase slopes box (place + 1 + s)) (at others s)) →
    (s : ℕ) → s < length out → IsFirstGreatest (part_among phase slopes box (place + s)) (candidates_among phase slopes box (place + s)) (at out s)
chosen_on phase box slopes place x out others e here rest s lt = rw e (by s (rw e at lt))
  where
    by : (s : ℕ) → s < length (x ∷ others) → IsFirstGreatest (part_among phase slopes box (place + s)) (candidates_among phase slopes box (place + s)) (at (x ∷ others) s)
    by zero less = let same : place ≡ place + zero = omega arith in subst (λ (p : ℕ). IsFirstGreatest (part_among phase slopes box p) (candidates_among phase slopes box p) x) same here
    by (suc s) less = let same : place + 1 + s ≡ place + suc s = omega arith in subst (λ (p : ℕ). IsFirstGreatest (part_among phase slopes box p) (candidates_among phase slopes box p) (at others s)) same (rest s (omega arith))

-- and their parts
pub parts_on : (p : ℕ → ℤ → ℤ) (place : ℕ) (x y rest z : ℤ) (out others : List ℤ) → out ≡ x ∷ others → y ≡ p place x →
    rest ≡ sum_to (length others) (λ s. p (place + 1 + s) (at others s)) → z ≡ y +ℤ rest →
    z ≡ sum_to (length out) (λ s. p (place + s) (at out s))
parts_on p place x y rest z out others e ey er ez =
    let same : place ≡ place + 0 = omega arith in
    let front : y ≡ p (place + 0) x = ey ∙ ap (λ (k : ℕ). p k x) same in
    rw (e, ez, front, er) (ap (λ (w : ℤ). p (place + 0) x +ℤ w) (sum-same (length others) _ _ (λ s lt. ap (λ (k : ℕ). p k (at others s)) (next place s))) ∙ sym (sum-front (length others) (λ s. p (place + s) (at (x ∷ others) s))))
  where
    next : (place s : ℕ) → place + 1 + s ≡ place + suc s
    next place s = omega arith

-- their room
pub rest_small : (all from width behind more : ℕ) (a b z : ℤ) → z ≡ a +ℤ b → behind ≡ from + width → behind ≤ all →
    unsigned_abs a ≤ 2 ^ 119 * width + 2 ^ 117 → unsigned_abs b ≤ 2 ^ 119 * (all - behind) + 2 ^ 117 * more →
    unsigned_abs z ≤ 2 ^ 119 * (all - from) + 2 ^ 117 * suc more
rest_small all from width behind more a b z e eb le h g = omega (arith, ap unsigned_abs e, abs-+ℤ a b, eb, h, g)

pub rest_fits : (all from width behind more : ℕ) (a b : ℤ) → all ≤ 90 → more < 10 → behind ≡ from + width → behind ≤ all →
    unsigned_abs a ≤ 2 ^ 119 * width + 2 ^ 117 → unsigned_abs b ≤ 2 ^ 119 * (all - behind) + 2 ^ 117 * more →
    FitsSigned w128 (a +ℤ b)
rest_fits all from width behind more a b few low eb le h g = omega (arith, ints, abs-+ℤ a b, eb, h, g)

pub behind_is : {X : Type 0} (rows : List (List X)) (place from width : ℕ) → from ≡ sites_to place rows →
    width ≡ length (slice_index_or rows place []) → from + width ≡ sites_to (place + 1) rows
behind_is rows place from width ef ew = let next : place + 1 ≡ suc place = omega arith in rw next (omega (arith, ef, ew, sites_to-more place rows))

pub behind_few : (limit : ℕ) (phase : PhaseAt) (mix : Mixing) (box : List (List Range)) (slopes : List ℤ) (s from count : ℕ) →
    CanWalk limit phase mix box slopes → s < length phase.sites → from ≡ sites_to s phase.sites →
    count ≡ length (slice_index_or phase.sites s []) → from + count ≤ 90
behind_few limit phase mix box slopes s from count can lt ef ec = omega (arith, slopes_there limit phase mix box slopes s from count can lt ef ec, can.each, can.mixed.sites)

pub ruleset writing = (chosen_on, behind_is, to_z-of_z)

-- ---- all sublattices

ratios_small : (limit n total : ℕ) (potentials : List ℤ) (ratios : List ℕ) → limit ≤ 2 ^ 117 → 1 ≤ n → sum ratios ≤ total →
    AllByRecursion (λ m. unsigned_abs m * (n * total) ≤ limit) potentials → AllByRecursion (λ ratio. AreSmall ratio potentials) ratios
ratios_small limit n total potentials [] low one le small = tt
ratios_small limit n total potentials (ratio ∷ ratios) low one le small =
    let more : sum (ratio ∷ ratios) ≡ ratio + sum ratios = sum_by-cons (λ (x : ℕ). x) ratio ratios in
    (potentials_small limit n total ratio potentials low one (omega (arith, more, le)) small, ratios_small limit n total potentials ratios low one (omega (arith, more, le)) small)

pub plane_small : (limit : ℕ) (phase : PhaseAt) (mix : Mixing) (potentials : List ℤ) → limit ≤ 2 ^ 117 → IsMixed phase mix →
    IsPlane limit phase potentials → AllByRecursion (λ ratio. AreSmall ratio potentials) phase.ratios
plane_small limit phase mix potentials low mixed plane = ratios_small limit phase.lattice (sum phase.ratios) potentials phase.ratios low (omega (arith, mixed.mixable.some, mixed.lattice)) (omega arith) plane.small

-- the slopes of a plane less others can be walked
pub lower_walk : (limit : ℕ) (phase : PhaseAt) (mix : Mixing) (box : List (List Range)) (potentials old new : List ℤ) → IsMixed phase mix →
    FitsBox (shape_of_phase phase) box → IsPlane limit phase potentials → length old ≡ places phase.sites → AreRises old →
    new ≡ less (slopes_over potentials phase.ratios phase.sites) old → CanWalk (limit + 2 ^ 86) phase mix box new
lower_walk limit phase mix box potentials old new mixed fits plane each rises en = record {
  mixed = mixed;
  fits = fits;
  each = length-lower potentials phase.ratios phase.sites old new mixed.ratio_each each en;
  small = lower_small phase.lattice limit potentials phase.ratios phase.sites old new (omega (arith, mixed.mixable.few, mixed.lattice)) plane.small plane.components rises en;
}

-- what a walk over them gives
lower_among : (phase : PhaseAt) (mix : Mixing) (potentials old new : List ℤ) (s : ℕ) → IsMixed phase mix → length old ≡ places phase.sites →
    new ≡ less (slopes_over potentials phase.ratios phase.sites) old → s < length phase.sites →
    slopes_among phase new s ≡ lowered_in (at old) phase potentials s
lower_among phase mix potentials old new s mixed each en lt = lower_at potentials phase.ratios phase.sites old new s mixed.ratio_each each en lt

pub lower_part : (phase : PhaseAt) (mix : Mixing) (box : List (List Range)) (potentials old new : List ℤ) (s : ℕ) (l : ℤ) → IsMixed phase mix →
    length old ≡ places phase.sites → new ≡ less (slopes_over potentials phase.ratios phase.sites) old → s < length phase.sites →
    part_among phase new box s l ≡ lowered_part (at old) phase potentials box s l
lower_part phase mix box potentials old new s l mixed each en lt =
    ap (λ (slopes : List ℤ). row_part phase.lattice (mixing_in phase s) slopes (row_in box s) l) (lower_among phase mix potentials old new s mixed each en lt)

lower_candidates : (phase : PhaseAt) (mix : Mixing) (box : List (List Range)) (potentials old new : List ℤ) (s : ℕ) → IsMixed phase mix →
    length old ≡ places phase.sites → new ≡ less (slopes_over potentials phase.ratios phase.sites) old → s < length phase.sites →
    candidates_among phase new box s ≡ lowered_candidates (at old) phase potentials box s
lower_candidates phase mix box potentials old new s mixed each en lt =
    ap (λ (slopes : List ℤ). pos 0 ∷ secants (mixing_in phase s) slopes (row_in box s)) (lower_among phase mix potentials old new s mixed each en lt)

pub lower_parts : (phase : PhaseAt) (mix : Mixing) (box : List (List Range)) (potentials old new multipliers : List ℤ) (count : ℕ) →
    IsMixed phase mix → length old ≡ places phase.sites → new ≡ less (slopes_over potentials phase.ratios phase.sites) old →
    count ≤ length phase.sites →
    sum_to count (λ s. part_among phase new box s (at multipliers s)) ≡ sum_to count (λ s. lowered_part (at old) phase potentials box s (at multipliers s))
lower_parts phase mix box potentials old new multipliers count mixed each en le =
    sum-same count (λ s. part_among phase new box s (at multipliers s)) (λ s. lowered_part (at old) phase potentials box s (at multipliers s)) (λ s lt. lower_part phase mix box potentials old new s (at multipliers s) mixed each en (omega (arith, lt, le)))

pub lower_parts_from : (phase : PhaseAt) (mix : Mixing) (box : List (List Range)) (potentials old new multipliers : List ℤ) (count : ℕ) →
    IsMixed phase mix → length old ≡ places phase.sites → new ≡ less (slopes_over potentials phase.ratios phase.sites) old →
    count ≤ length phase.sites →
    sum_to count (λ s. part_among phase new box (0 + s) (at multipliers s)) ≡ sum_to count (λ s. lowered_part (at old) phase potentials box s (at multipliers s))
lower_parts_from phase mix box potentials old new multipliers count mixed each en le =
    sum-same count (λ s. part_among phase new box (0 + s) (at multipliers s)) (λ s. part_among phase new box s (at multipliers s)) (λ s lt. ap (λ (k : ℕ). part_among phase new box k (at multipliers s)) (same s))
    ∙ lower_parts phase mix box potentials old new multipliers count mixed each en le
  where
    same : (s : ℕ) → 0 + s ≡ s
    same s = omega arith

pub lower_chosen : (phase : PhaseAt) (mix : Mixing) (box : List (List Range)) (potentials old new out : List ℤ) → IsMixed phase mix →
    length old ≡ places phase.sites → new ≡ less (slopes_over potentials phase.ratios phase.sites) old → length out ≤ length phase.sites →
    ((s : ℕ) → s < length out → IsFirstGreatest (part_among phase new box (0 + s)) (candidates_among phase new box (0 + s)) (at out s)) →
    (s : ℕ) → s < length out → IsFirstGreatest (lowered_part (at old) phase potentials box s) (lowered_candidates (at old) phase potentials box s) (at out s)
lower_chosen phase mix box potentials old new out mixed each en le chosen s lt =
    let same : 0 + s ≡ s = omega arith in
    let there : s < length phase.sites = omega (arith, lt, le) in
    chosen_there (part_among phase new box s) (lowered_part (at old) phase potentials box s) (candidates_among phase new box s) (lowered_candidates (at old) phase potentials box s) (at out s)
    (λ l. lower_part phase mix box potentials old new s l mixed each en there) (lower_candidates phase mix box potentials old new s mixed each en there)
    (subst (λ (k : ℕ). IsFirstGreatest (part_among phase new box k) (candidates_among phase new box k) (at out s)) same (chosen s lt))

pub whole_small : {X : Type 0} (rows : List (List X)) (count end : ℕ) (x : ℤ) → places rows ≤ 90 → count ≤ 10 → end ≤ places rows →
    unsigned_abs x ≤ 2 ^ 119 * end + 2 ^ 117 * count → unsigned_abs x ≤ 2 ^ 126 - 2 ^ 119
whole_small rows count end x few low le h = omega (arith, h, few, low, le)

pub end_is : {X : Type 0} (rows : List (List X)) (count end : ℕ) → count ≡ length rows → end ≡ places rows → end ≡ sites_to count rows
end_is rows count end ec ee = rw (ec, ee) (sym (sites_to-all rows))

pub ruleset whole = (plane_small, to_z-of_z)
