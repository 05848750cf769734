-- The box of all lists of counts of a phase.
use Rattle.std.proofs.Common.{◌≡◌, ℕ, zero, suc, ◌+◌, ◌≤◌, ◌<◌, ◌^◌, List, [], ◌∷◌, length, ◌++◌, refl, arith, ◌∙◌, append_assoc, Bool, true, false}
use Rattle.std.specs.Prelude.{sum, replicate, Option, ◌==◌, ◌||◌}
use Rattle.std.specs.List.{AllByRecursion, list_any}
use Rattle.std.proofs.lemmas.Bool.{eqb-true}
use Rattle.std.proofs.lemmas.List.{length-replicate}
use Rattle.cef_core.specs.declared.lattice.TheConstants.{LATTICES}
use Rattle.cef_core.specs.declared.phase.PhaseAt.{PhaseAt}
use Rattle.cef_core.specs.Constitutions.{HasShape}
use Rattle.cef_core.specs.Phases.{IsFine}
use Rattle.cef_core.specs.Shapes.{shape, places}
use Rattle.cef_box.specs.declared.range.Range.{Range}
use Rattle.cef_box.specs.Boxes.{AllWithin, IsMember}
use Rattle.cef_box.specs.Terms.{FitsBox, shape_of_phase}
use Rattle.cef_box.specs.Tight.{lows, highs, IsOrdered, HasSite, IsTightBox, tightened_box, all_ranges, full_box}
use Rattle.cef_box.proofs.Rows.{sum-cons}
use Rattle.cef_box.proofs.Kept.{member_shape, phase_fits, shape-tightened_box}
use Rattle.cef_box.proofs.Tightened.{tightened_box_has, tightened_box_tight, tightened_box_keeps}

-- ---- one more sublattice

pub places-cons : {X : Type 0} (row : List X) (rows : List (List X)) → places (row ∷ rows) ≡ length row + places rows
places-cons row rows = sum-cons (length row) (shape rows)

pub places-append : (box : List (List Range)) (row : List Range) → places (box ++ row ∷ []) ≡ places box + length row
places-append [] row = omega (arith, places-cons row [])
places-append (first ∷ box) row = omega (arith, places-cons first (box ++ row ∷ []), places-cons first box, places-append box row)

pub more_lists : (n : ℕ) (box : List (List Range)) (row : List (Option ℕ)) (rest : List (List (Option ℕ))) → (box ++ replicate (length row) (record { low = 0; high = n }) ∷ []) ++ all_ranges n rest ≡ box ++ all_ranges n (row ∷ rest)
more_lists n box row rest = append_assoc box (replicate (length row) (record { low = 0; high = n }) ∷ []) (all_ranges n rest)

pub more_places : (n k : ℕ) (box : List (List Range)) (row : List (Option ℕ)) (rest : List (List (Option ℕ))) → k ≡ length row → places box + places (row ∷ rest) < 2 ^ 16 → places (box ++ replicate k (record { low = 0; high = n }) ∷ []) + places rest < 2 ^ 16
more_places n k box row rest e h =
    let range : Range = record { low = 0; high = n } in
    let size : length (replicate k range) ≡ k = length-replicate k range in
    omega (arith, e, h, places-cons row rest, places-append box (replicate k range), size)

pub row_places : (box : List (List Range)) (row : List (Option ℕ)) (rest : List (List (Option ℕ))) → places box + places (row ∷ rest) < 2 ^ 16 → places box + length row < 2 ^ 16
row_places box row rest h = omega (arith, h, places-cons row rest)

-- ---- all lists

all_row : ℕ → Range
all_row n = record { low = 0; high = n }

lows-all : (n k : ℕ) → lows (replicate k (all_row n)) ≡ 0
unfolding all_row
lows-all n zero = refl
lows-all n (suc k) = omega (arith, lows-all n k)

highs-all : (n k : ℕ) → 1 ≤ k → n ≤ highs (replicate k (all_row n))
unfolding all_row
highs-all n zero h = absurd (omega arith)
highs-all n (suc k) h = omega arith

ordered-all : (n k : ℕ) → IsOrdered (replicate k (all_row n))
unfolding all_row
ordered-all n zero = tt
ordered-all n (suc k) = (omega arith, ordered-all n k)

pub all_ranges_has : (n : ℕ) (sites : List (List (Option ℕ))) → AllByRecursion (λ row. 1 ≤ length row) sites → HasSite n (all_ranges n sites)
unfolding all_row
all_ranges_has n [] h = tt
all_ranges_has n (row ∷ sites) h = (record { ordered = ordered-all n (length row); not_above = omega (arith, lows-all n (length row)); not_below = highs-all n (length row) h.0 }, all_ranges_has n sites h.1)

pub shape-all_ranges : (n : ℕ) (sites : List (List (Option ℕ))) → shape (all_ranges n sites) ≡ shape sites
unfolding all_row
shape-all_ranges n [] = refl
shape-all_ranges n (row ∷ sites) = rw (length-replicate (length row) (all_row n), shape-all_ranges n sites) refl

within-all : (n : ℕ) (counts : List ℕ) → sum counts ≤ n → AllWithin (replicate (length counts) (all_row n)) counts
unfolding all_row
within-all n [] h = tt
within-all n (k ∷ counts) h = (omega arith, omega (arith, sum-cons k counts), within-all n counts (omega (arith, sum-cons k counts)))

list_member : (n : ℕ) (sites : List (List (Option ℕ))) (site : List (List ℕ)) → HasShape n sites site → IsMember n (all_ranges n sites) site
unfolding all_row
list_member n [] [] h = tt
list_member n [] (counts ∷ site) h = absurd h
list_member n (row ∷ sites) [] h = absurd h
list_member n (row ∷ sites) (counts ∷ site) h =
    let within : AllWithin (replicate (length row) (all_row n)) counts = rw (← h.0) (within-all n counts (omega (arith, h.1))) in
    (record { within = within; adds = h.1 }, list_member n sites site h.2)

-- ---- the full box

pub record IsFull (phase : PhaseAt) (box : List (List Range)) : Type 0 where
  pub exact : box ≡ full_box phase
  pub has_site : HasSite phase.lattice box
  pub tight : IsTightBox phase.lattice box
  pub fits : FitsBox (shape_of_phase phase) box
  pub lists : (site : List (List ℕ)) → IsMember phase.lattice box site → HasShape phase.lattice phase.sites site
  pub members : (site : List (List ℕ)) → HasShape phase.lattice phase.sites site → IsMember phase.lattice box site

full_box_full : (phase : PhaseAt) → HasSite phase.lattice (all_ranges phase.lattice phase.sites) → IsFull phase (full_box phase)
full_box_full phase has =
    let all : List (List Range) = all_ranges phase.lattice phase.sites in
    let shaped : shape (full_box phase) ≡ shape phase.sites = shape-tightened_box phase.lattice all ∙ shape-all_ranges phase.lattice phase.sites in
    let has_site = tightened_box_has phase.lattice all has in
    let tight = tightened_box_tight phase.lattice all has in
    record {
      exact = refl;
      has_site = has_site;
      tight = tight;
      fits = phase_fits phase (full_box phase) has_site tight shaped;
      lists = λ site h. member_shape phase.lattice phase.sites (full_box phase) site shaped h;
      members = λ site h. tightened_box_keeps phase.lattice all site (list_member phase.lattice phase.sites site h);
    }

pub is_full : (phase : PhaseAt) (box all : List (List Range)) → IsFine phase → box ≡ tightened_box phase.lattice all → all ≡ all_ranges phase.lattice phase.sites → IsFull phase box
is_full phase box all fine e f = rw (e, f) (full_box_full phase (all_ranges_has phase.lattice phase.sites fine.keeps.site_each))

pub all_has : (phase : PhaseAt) (all : List (List Range)) → IsFine phase → all ≡ all_ranges phase.lattice phase.sites → HasSite phase.lattice all
all_has phase all fine e = rw e (all_ranges_has phase.lattice phase.sites fine.keeps.site_each)

-- the lists of all sublattices behind a box of none
pub all_from : (n : ℕ) (box start : List (List Range)) (sites here : List (List (Option ℕ))) → box ≡ start ++ all_ranges n here → start ≡ [] → here ≡ sites → box ≡ all_ranges n sites
all_from n box start sites here e f g = e ∙ rw (f, g) refl

-- ---- the lattice's number

one_of : (n : ℕ) (ls : List ℕ) → AllByRecursion (λ l. l ≤ 1000) ls → list_any (λ l. n == l) ls ≡ true → n ≤ 1000
one_of n [] all e = absurd cc
one_of n (l ∷ ls) all e = by (n == l) refl e (one_of n ls all.1)
  where
    by : (b : Bool) → (n == l) ≡ b → (b || list_any (λ l. n == l) ls) ≡ true → (list_any (λ l. n == l) ls ≡ true → n ≤ 1000) → n ≤ 1000
    by true e f rest = omega (arith, eqb-true n l e, all.0)
    by false e f rest = rest f

pub lattice_small : (phase : PhaseAt) → IsFine phase → phase.lattice ≤ 1000
lattice_small phase fine = one_of phase.lattice LATTICES all fine.keeps.lattice
  where
    all : AllByRecursion (λ l. l ≤ 1000) LATTICES
    all = search (arith)

pub ruleset wholes = (lattice_small, all_has)

pub ruleset growing = (more_lists, more_places, row_places)
