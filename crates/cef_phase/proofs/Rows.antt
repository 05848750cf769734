-- Room for the parts of a bound, and what is known of a row's sites.
use Rattle.std.proofs.Common.{◌≡◌, ℕ, zero, suc, ◌+◌, ◌-◌, ◌*◌, ◌<◌, ◌≤◌, ◌^◌, List, [], ◌∷◌, length, arith, refl}
use Rattle.std.specs.Prelude.{ℤ, pos, ◌+ℤ◌, ◌*ℤ◌, unsigned_abs, slice_index, FitsSigned}
use Rattle.std.specs.Int.{w128}
use Rattle.std.specs.List.{AllByRecursion}
use Rattle.std.proofs.lemmas.Int.{ints, unsigned_abs-mul, to_z-of_z}
use Rattle.std.proofs.lemmas.Nat.{mul-le}
use Rattle.cal_limits.specs.declared.TheConstants.{MOST_ENERGY}
use Rattle.cef_box.specs.declared.range.Range.{Range}
use Rattle.cef_box.specs.Boxes.{IsRange}
use Rattle.cef_box.specs.Flat.{ranges}
use Rattle.cef_mix.specs.Mixes.{Mixing, height, IsLeastOn}
use Rattle.cef_phase.specs.Bounds.{least_over, sites_part}
use Rattle.cef_phase.specs.declared.row.Row.{Row}
use Rattle.cef_phase.specs.Sums.{IsMixable}
use Rattle.cef_phase.specs.Walks.{CanRow, AreSlopes, FitsRow, mixed_at, mixing_of, ranges_at, part_at}
use Rattle.cef_phase.proofs.Least.{least_over_is}
use Rattle.cef_phase.proofs.Parts.{part_fits, IsPartly_exact, IsPartly_line}
use Rattle.cef_phase.proofs.Sublattices.{count_size}

-- ---- the range of a site

pub length-ranges_low : (low high : List ℕ) → length (ranges low high) ≤ length low
length-ranges_low [] high = omega arith
length-ranges_low (l ∷ low) [] = omega arith
length-ranges_low (l ∷ low) (h ∷ high) = omega (arith, length-ranges_low low high)

pub length-ranges_high : (low high : List ℕ) → length (ranges low high) ≤ length high
length-ranges_high [] high = omega arith
length-ranges_high (l ∷ low) [] = omega arith
length-ranges_high (l ∷ low) (h ∷ high) = omega (arith, length-ranges_high low high)

ordered_at : (n : ℕ) (low high : List ℕ) (site : ℕ) → AllByRecursion (IsRange n) (ranges low high) → site < length (ranges low high) →
    slice_index low site ≤ slice_index high site
ordered_at n [] high site h lt = absurd (omega arith)
ordered_at n (l ∷ low) [] site h lt = absurd (omega arith)
ordered_at n (l ∷ low) (b ∷ high) zero h lt = h.0.0
ordered_at n (l ∷ low) (b ∷ high) (suc site) h lt = ordered_at n low high site h.1 (omega arith)

within_at : (n : ℕ) (low high : List ℕ) (site : ℕ) → AllByRecursion (IsRange n) (ranges low high) → site < length (ranges low high) →
    slice_index high site ≤ n
within_at n [] high site h lt = absurd (omega arith)
within_at n (l ∷ low) [] site h lt = absurd (omega arith)
within_at n (l ∷ low) (b ∷ high) zero h lt = h.0.1
within_at n (l ∷ low) (b ∷ high) (suc site) h lt = within_at n low high site h.1 (omega arith)

pub row_order : (row : Row) (site : ℕ) → CanRow (2 ^ 118) row → site < length row.slopes.now →
    slice_index row.low.now site ≤ slice_index row.high.now site
row_order row site can lt = ordered_at row.mix.now.lattice row.low.now row.high.now site can.within (omega (arith, can.each))

pub row_within : (row : Row) (site : ℕ) → CanRow (2 ^ 118) row → site < length row.slopes.now → slice_index row.high.now site ≤ row.mix.now.lattice
row_within row site can lt = within_at row.mix.now.lattice row.low.now row.high.now site can.within (omega (arith, can.each))

-- ---- room

-- a slope of which n counts are within a limit is within it
pub slope_alone : (m : ℤ) (n limit : ℕ) → 0 < n → unsigned_abs m * n ≤ limit → unsigned_abs m ≤ limit
slope_alone m n limit p h = omega (arith, mul-le (unsigned_abs m) 1 (unsigned_abs m) n (omega arith) p)

pub abs-+ℤ : (a b : ℤ) → unsigned_abs (a +ℤ b) ≤ unsigned_abs a + unsigned_abs b
abs-+ℤ a b = omega (arith, ints)

pub plus_fits : (m : Mixing) (a b : ℤ) → IsMixable m → unsigned_abs a * m.lattice ≤ 2 ^ 118 → unsigned_abs b * m.lattice ≤ 2 ^ 117 →
    FitsSigned w128 (a +ℤ b)
plus_fits m a b mixable h g =
    omega (arith, ints, abs-+ℤ a b, slope_alone a m.lattice (2 ^ 118) mixable.some h, slope_alone b m.lattice (2 ^ 117) mixable.some g)

pub slopes_together : (a b s : ℤ) (n : ℕ) → s ≡ a +ℤ b → unsigned_abs a * n ≤ 2 ^ 118 → unsigned_abs b * n ≤ 2 ^ 117 →
    unsigned_abs s * n ≤ 3 * 2 ^ 117
slopes_together a b s n e h g =
    let most : unsigned_abs s ≤ unsigned_abs a + unsigned_abs b = rw e (abs-+ℤ a b) in
    let times : unsigned_abs s * n ≤ (unsigned_abs a + unsigned_abs b) * n = mul-le (unsigned_abs s) n (unsigned_abs a + unsigned_abs b) n most (omega arith) in
    omega (arith, times, h, g)

-- and within what a table asks
pub slope_fits : (a b s : ℤ) (n : ℕ) → s ≡ a +ℤ b → unsigned_abs a * n ≤ 2 ^ 118 → unsigned_abs b * n ≤ 2 ^ 117 → unsigned_abs s * n ≤ 2 ^ 119
slope_fits a b s n e h g = omega (arith, slopes_together a b s n e h g)

pub least_size : (m : Mixing) (place : ℕ) (s x : ℤ) (low high count : ℕ) → IsMixable m → IsLeastOn (mixed_at m place) s low high count x →
    high ≤ m.lattice → unsigned_abs s * m.lattice ≤ 3 * 2 ^ 117 → unsigned_abs x ≤ 2 ^ 119
least_size m place s x low high count mixable is le slope =
    let energy : unsigned_abs (mixed_at m place count) ≤ MOST_ENERGY = count_size m place count mixable (omega (arith, is.to)) in
    let down : unsigned_abs (s *ℤ pos count) ≤ 3 * 2 ^ 117 = rw (unsigned_abs-mul s (pos count)) (omega (arith, slope, mul-le (unsigned_abs s) count (unsigned_abs s) m.lattice (omega arith) (omega (arith, is.to)))) in
    rw is.reached (omega (arith, ints, energy, down))

pub row_plus_fits : (row : Row) (a b : ℤ) → CanRow (2 ^ 118) row → unsigned_abs a * row.mix.now.lattice ≤ 2 ^ 118 →
    unsigned_abs b * row.mix.now.lattice ≤ 2 ^ 117 → FitsSigned w128 (a +ℤ b)
row_plus_fits row a b can h g = plus_fits row.mix.now a b can.mixable h g

pub ruleset site = (row_order, row_within, row_plus_fits, slopes_together, slope_fits, least_size, to_z-of_z)

-- ---- how large a part is

least_over_size : (m : Mixing) (place : ℕ) (s : ℤ) (r : Range) → IsMixable m → IsRange m.lattice r → unsigned_abs s * m.lattice ≤ 3 * 2 ^ 117 →
    unsigned_abs (least_over (height (mixed_at m place) s) r.low (r.high - r.low)) ≤ 2 ^ 119
least_over_size m place s r mixable range slope =
    let is = least_over_is (height (mixed_at m place) s) r.low (r.high - r.low) in
    let to : is.place ≤ r.high = omega (arith, is.to, range.0) in
    let least : IsLeastOn (mixed_at m place) s r.low r.high is.place (least_over (height (mixed_at m place) s) r.low (r.high - r.low)) = record {
      from = is.from;
      to = to;
      reached = is.reached;
      below = λ k a b. is.below k a (omega (arith, b, range.0));
    } in
    least_size m place s _ r.low r.high is.place mixable least range.1 slope

sites_size : (m : Mixing) (place : ℕ) (l : ℤ) (slopes : List ℤ) (row : List Range) → IsMixable m → AreSlopes m.lattice (2 ^ 118) slopes →
    unsigned_abs l * m.lattice ≤ 2 ^ 117 → AllByRecursion (IsRange m.lattice) row →
    unsigned_abs (sites_part (mixed_at m place) l slopes row) ≤ 2 ^ 119 * length slopes
sites_size m place l [] row mixable small fits within = omega arith
sites_size m place l (s ∷ slopes) [] mixable small fits within = omega arith
sites_size m place l (s ∷ slopes) (r ∷ row) mixable small fits within =
    omega (
      arith,
      abs-+ℤ (least_over (height (mixed_at m place) (s +ℤ l)) r.low (r.high - r.low)) (sites_part (mixed_at m place) l slopes row),
      least_over_size m place (s +ℤ l) r mixable within.0 (slopes_together s l (s +ℤ l) m.lattice refl small.0 fits),
      sites_size m place l slopes row mixable small.1 fits within.1,
    )

pub part_size : (row : Row) (l : ℤ) → CanRow (2 ^ 118) row → FitsRow row l → unsigned_abs (part_at row l) ≤ 2 ^ 119 * length row.slopes.now + 2 ^ 117
part_size row l can fits =
    omega (
      arith,
      abs-+ℤ (l *ℤ pos row.mix.now.lattice) (sites_part (mixing_of row) l row.slopes.now (ranges_at row)),
      unsigned_abs-mul l (pos row.mix.now.lattice),
      fits,
      sites_size row.mix.now row.place l row.slopes.now (ranges_at row) can.mixable can.slopes fits can.within,
    )

pub ruleset row = (part_fits, IsPartly_exact, IsPartly_line, to_z-of_z)
