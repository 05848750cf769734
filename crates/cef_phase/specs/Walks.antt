-- Workings: what a walk over the sublattices of a phase rests on.
use Rattle.std.specs.Prelude.{◌≡◌, ℕ, ◌+◌, ◌*◌, ◌^◌, ◌<◌, ◌≤◌, ◌⊎◌, ℤ, pos, ◌+ℤ◌, ◌-ℤ◌, ◌*ℤ◌, ◌≤ℤ◌, ◌<ℤ◌, unsigned_abs}
use Rattle.std.specs.Prelude.{List, [], ◌∷◌, ◌++◌, Option, take, drop, length, slice_index, slice_index_or}
use Rattle.std.specs.List.{AllByRecursion}
use Rattle.cef_core.specs.declared.phase.PhaseAt.{PhaseAt}
use Rattle.cef_core.specs.Mixing.{mixing_at}
use Rattle.cef_core.specs.Shapes.{places}
use Rattle.cef_box.specs.declared.range.Range.{Range}
use Rattle.cef_box.specs.Boxes.{IsRange}
use Rattle.cef_box.specs.Flat.{ranges}
use Rattle.cef_box.specs.Terms.{FitsBox, shape_of_phase}
use Rattle.cal_math.specs.Vectors.{at, sum_to}
use Rattle.cef_mix.specs.declared.least.Least.{Least}
use Rattle.cef_mix.specs.Mixes.{Mixing, IsLeastOn}
use Rattle.cef_phase.specs.declared.row.Row.{Row}
use Rattle.cef_phase.specs.declared.choose.Best.{Best}
use Rattle.cef_phase.specs.declared.choose.Between.{Between}
use Rattle.cef_phase.specs.declared.part.Part.{Part}
use Rattle.cef_phase.specs.Bounds.{row_part, slopes_of, mixing_in, slopes_in, row_in}
use Rattle.cef_phase.specs.Affine.{lowered, sites_to}
use Rattle.cef_phase.specs.Choosing.{secant, secants, IsFirstGreatest}
use Rattle.cef_phase.specs.Firsts.{IsBest}
use Rattle.cef_phase.specs.Sums.{IsMixable, IsMixed}

-- the energy of mixing of a site of sublattice s
abbrev pub mixed_at : Mixing → ℕ → ℕ → ℤ
mixed_at mix s = mixing_at mix.t mix.lattice (slice_index mix.ratios s)

-- slopes of which n counts are within a limit
abbrev pub AreSlopes : ℕ → ℕ → List ℤ → Type 0
AreSlopes n limit slopes = AllByRecursion (λ m. unsigned_abs m * n ≤ limit) slopes

-- what a row of a walk has: the energy of mixing of its sites, and their ranges
abbrev pub mixing_of : Row → ℕ → ℤ
mixing_of row = mixed_at row.mix.now row.place

abbrev pub ranges_at : Row → List Range
ranges_at row = ranges row.low.now row.high.now

-- its part under a multiplier, and the candidates for the chosen one
abbrev pub part_at : Row → ℤ → ℤ
part_at row = row_part row.mix.now.lattice (mixing_of row) row.slopes.now (ranges_at row)

abbrev pub all_secants : Row → List ℤ
all_secants row = secants (mixing_of row) row.slopes.now (ranges_at row)

abbrev pub candidates_at : Row → List ℤ
candidates_at row = pos 0 ∷ all_secants row

-- the range of a site; the secant of its heights, and the same as a list that is empty where the range is one count
abbrev pub range_of : Row → ℕ → Range
range_of row site = record { low = slice_index row.low.now site; high = slice_index row.high.now site }

abbrev pub secant_of : Row → ℕ → ℤ
secant_of row site = secant (mixing_of row) (at row.slopes.now site) (range_of row site)

abbrev pub secants_of : Row → ℕ → List ℤ
secants_of row site = secants (mixing_of row) (at row.slopes.now site ∷ []) (range_of row site ∷ [])

-- a site whose secant is the first
pub record IsFirstOpen (row : Row) (site : ℕ) : Type 0 where
  pub there : site < length row.slopes.now
  pub wide : (range_of row site).low < (range_of row site).high
  pub first : all_secants row ≡ secant_of row site ∷ secants (mixing_of row) (drop (site + 1) row.slopes.now) (drop (site + 1) (ranges_at row))

-- the least of a site's height less the multiplier's share, over its range
abbrev pub IsSiteLeast : Row → ℕ → ℤ → Least → Type 0
IsSiteLeast row site l least =
    IsLeastOn (mixing_of row) (at row.slopes.now site +ℤ l) (slice_index row.low.now site) (slice_index row.high.now site) least.place least.height

-- the best multiplier so far, with where a better one may lie
abbrev pub IsBestOf : Row → Best → Type 0
IsBestOf row best =
    IsBest row.mix.now.lattice (part_at row) best.multiplier best.part best.between.low best.between.high

-- a multiplier between two others; one where a line through x is higher that rises by n less the counts for each further one
abbrev pub IsInside : Between → ℤ → Type 0
IsInside between l = (between.low <ℤ l) × (l <ℤ between.high)

abbrev pub IsHigher : ℤ → ℕ → ℕ → ℤ → Type 0
IsHigher x n counts l = pos 0 <ℤ ((l -ℤ x) *ℤ (pos n -ℤ pos counts))

-- one outside of two others that have numbers between them; one where that line is lower
abbrev pub IsOutside : Between → ℤ → Type 0
IsOutside between l = (between.low <ℤ between.high) × ((l <ℤ between.low) ⊎ (between.high <ℤ l))

abbrev pub IsLower : ℤ → ℕ → ℕ → ℤ → Type 0
IsLower x n counts l = ((l -ℤ x) *ℤ (pos n -ℤ pos counts)) <ℤ pos 0

-- a row's part is nowhere above the line through a part of it
abbrev pub IsUnderLine : Row → ℤ → Part → Type 0
IsUnderLine row x part =
    (l : ℤ) → part_at row l ≤ℤ (part.height +ℤ (l -ℤ x) *ℤ (pos row.mix.now.lattice -ℤ pos part.counts))

-- a number of which N counts are within 2^117
abbrev pub FitsRow : Row → ℤ → Type 0
FitsRow row l = unsigned_abs l * row.mix.now.lattice ≤ 2 ^ 117

-- potentials whose products with a ratio have room
abbrev pub AreSmall : ℕ → List ℤ → Type 0
AreSmall ratio potentials = AllByRecursion (λ m. unsigned_abs m * ratio ≤ 2 ^ 117) potentials

-- a row with its tables, whose slopes are within a limit
pub record CanRow (limit : ℕ) (row : Row) : Type 0 where
  pub mixable : IsMixable row.mix.now
  pub place : row.place < length row.mix.now.ratios
  pub slopes : AreSlopes row.mix.now.lattice limit row.slopes.now
  pub few : length row.slopes.now ≤ 90
  pub lows : length row.slopes.now ≤ length row.low.now
  pub highs : length row.slopes.now ≤ length row.high.now
  pub each : length (ranges_at row) ≡ length row.slopes.now
  pub within : AllByRecursion (IsRange row.mix.now.lattice) (ranges_at row)

-- ---- the slopes of all sites of a phase in one list

-- those of sublattice s, and how many sites it has
abbrev pub sites_at : PhaseAt → ℕ → List (Option ℕ)
sites_at phase s = slice_index_or phase.sites s []

abbrev pub slopes_among : PhaseAt → List ℤ → ℕ → List ℤ
slopes_among phase slopes s = take (length (sites_at phase s)) (drop (sites_to s phase.sites) slopes)

-- the part of sublattice s with these slopes, and the candidates for its multiplier
abbrev pub part_among : PhaseAt → List ℤ → List (List Range) → ℕ → ℤ → ℤ
part_among phase slopes box s = row_part phase.lattice (mixing_in phase s) (slopes_among phase slopes s) (row_in box s)

abbrev pub candidates_among : PhaseAt → List ℤ → List (List Range) → ℕ → List ℤ
candidates_among phase slopes box s =
    pos 0 ∷ secants (mixing_in phase s) (slopes_among phase slopes s) (row_in box s)

-- a multiplier that is chosen for sublattice s
abbrev pub IsChosenAmong : PhaseAt → List ℤ → List (List Range) → ℕ → ℤ → Type 0
IsChosenAmong phase slopes box s l =
    IsFirstGreatest (part_among phase slopes box s) (candidates_among phase slopes box s) l

-- tables, a box and slopes of a phase
pub record CanWalk (limit : ℕ) (phase : PhaseAt) (mix : Mixing) (box : List (List Range)) (slopes : List ℤ) : Type 0 where
  pub mixed : IsMixed phase mix
  pub fits : FitsBox (shape_of_phase phase) box
  pub each : length slopes ≡ places phase.sites
  pub small : AreSlopes phase.lattice limit slopes

-- ---- the slopes of a plane less others

-- numbers less others
abbrev pub less : List ℤ → List ℤ → List ℤ
less [] others = []
less (m ∷ slopes) [] = []
less (m ∷ slopes) (a ∷ others) = (m -ℤ a) ∷ less slopes others

-- the slopes of the plane of the potentials at the sites of all sublattices
abbrev pub slopes_over : List ℤ → List ℕ → List (List (Option ℕ)) → List ℤ
slopes_over potentials [] rows = []
slopes_over potentials (ratio ∷ ratios) [] = []
slopes_over potentials (ratio ∷ ratios) (row ∷ rows) = slopes_of potentials ratio row ++ slopes_over potentials ratios rows

-- slopes that leave those of a plane their room
abbrev pub AreRises : List ℤ → Type 0
AreRises rises = AllByRecursion (λ a. unsigned_abs a ≤ 2 ^ 75) rises

-- the slopes of sublattice s less others, its part with them, the candidates for its multiplier, and the first parts together
abbrev pub lowered_in : (ℕ → ℤ) → PhaseAt → List ℤ → ℕ → List ℤ
lowered_in rise phase potentials s = lowered rise (sites_to s phase.sites) (slopes_in phase potentials s)

abbrev pub lowered_part : (ℕ → ℤ) → PhaseAt → List ℤ → List (List Range) → ℕ → ℤ → ℤ
lowered_part rise phase potentials box s =
    row_part phase.lattice (mixing_in phase s) (lowered_in rise phase potentials s) (row_in box s)

abbrev pub lowered_candidates : (ℕ → ℤ) → PhaseAt → List ℤ → List (List Range) → ℕ → List ℤ
lowered_candidates rise phase potentials box s =
    pos 0 ∷ secants (mixing_in phase s) (lowered_in rise phase potentials s) (row_in box s)

abbrev pub lowered_parts : (ℕ → ℤ) → PhaseAt → List ℤ → List (List Range) → ℕ → List ℤ → ℤ
lowered_parts rise phase potentials box count multipliers =
    sum_to count (λ s. lowered_part rise phase potentials box s (at multipliers s))

-- a multiplier that is chosen for sublattice s
abbrev pub IsChosenLowered : (ℕ → ℤ) → PhaseAt → List ℤ → List (List Range) → ℕ → ℤ → Type 0
IsChosenLowered rise phase potentials box s l =
    IsFirstGreatest (lowered_part rise phase potentials box s) (lowered_candidates rise phase potentials box s) l
