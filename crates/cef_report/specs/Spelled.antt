-- Which reports have a text: the limits of their names, lists, numbers and trees.
use Rattle.std.specs.Prelude.{◌≡◌, ℕ, ◌<◌, ◌≤◌, List, [], ◌∷◌, length, true, ℤ, pos, ◌≤ℤ◌, unsigned_abs}
use Rattle.std.specs.List.{AllByRecursion, concat}
use Rattle.cef_report.specs.declared.entry.Entry.{Entry}
use Rattle.cef_report.specs.declared.report.Report.{Report}
use Rattle.cef_tree.specs.declared.tree.Node.{Node}
use Rattle.cef_tree.specs.declared.tree.Node.TheVariants.{Split, Leaf, Affine, Empty}
use Rattle.cef_tree.specs.declared.tree.Tree.{Tree}
use Rattle.cef_core.specs.Lattices.{is_lattice}
use Rattle.cal_limits.specs.declared.TheConstants.{LOWEST_TEMPERATURE, HIGHEST_TEMPERATURE, MOST_ELEMENTS, MOST_ASKED, MOST_SUBLATTICES, MOST_SITES, MOST_COUNT, MOST_ENTRIES, MOST_NUMBER, MOST_TOLERANCE, MOST_PRINTED_GAP}
use Rattle.cal_scan.specs.Names.{AreNames}

-- a whole number of a magnitude within the limit
abbrev pub IsNumber : ℤ → Type 0
IsNumber x = unsigned_abs x ≤ MOST_NUMBER

-- what may be asked of an element
abbrev pub IsAsked : ℤ → Type 0
IsAsked x = (pos 0 ≤ℤ x) × (x ≤ℤ pos MOST_ASKED)

-- the counts of a sublattice: one or more, each within the limit
abbrev pub AreCounts : List ℕ → Type 0
AreCounts counts = (0 < length counts) × AllByRecursion (λ k. k ≤ MOST_COUNT) counts

-- one sublattice or more, with counts within the limits
pub record IsSpelledSite (site : List (List ℕ)) : Type 0 where
  pub present : 0 < length site
  pub most : length site ≤ MOST_SUBLATTICES
  pub counts : AllByRecursion AreCounts site
  pub most_counts : length (concat site) ≤ MOST_SITES

-- the place of a phase, an amount above 0, and counts
pub record IsSpelledEntry (phases : ℕ) (entry : Entry) : Type 0 where
  pub phase : entry.phase < phases
  pub amount_low : pos 1 ≤ℤ entry.amount
  pub amount_high : entry.amount ≤ℤ pos MOST_ASKED
  pub site : IsSpelledSite entry.site

-- The nodes of one box in preorder, in front of the nodes `rest`: a leaf of either kind with one or more multipliers, an empty
-- box, or a split and the nodes of its two parts.
pub data Spans : List Node → List Node → Type 0 where
  leaf : (multipliers : List ℤ) (rest : List Node) → 0 < length multipliers → AllByRecursion IsNumber multipliers → Spans (Leaf multipliers ∷ rest) rest
  affine : (multipliers : List ℤ) (rest : List Node) → 0 < length multipliers → AllByRecursion IsNumber multipliers → Spans (Affine multipliers ∷ rest) rest
  none : (rest : List Node) → Spans (Empty ∷ rest) rest
  cut : (place at : ℕ) (nodes middle rest : List Node) → place ≤ MOST_COUNT → at ≤ MOST_COUNT → Spans nodes middle → Spans middle rest → Spans (Split place at ∷ nodes) rest

-- the nodes of the whole box of a phase, and nothing behind them
abbrev pub IsSpelledTree : Tree → Type 0
IsSpelledTree tree = Spans tree.nodes []

-- a number for each element
abbrev pub AreNumbers : ℕ → List ℤ → Type 0
AreNumbers elements numbers = (length numbers ≡ elements) × AllByRecursion IsNumber numbers

pub record IsSpelled (r : Report) : Type 0 where
  pub temperature_low : LOWEST_TEMPERATURE ≤ r.t
  pub temperature_high : r.t ≤ HIGHEST_TEMPERATURE
  pub lattice : is_lattice r.lattice ≡ true
  pub elements : AreNames r.elements
  pub few_elements : length r.elements ≤ MOST_ELEMENTS
  pub phases : AreNames r.phases
  pub asked : (length r.asked ≡ length r.elements) × AllByRecursion IsAsked r.asked
  pub few_entries : length r.entries ≤ MOST_ENTRIES
  pub entries : AllByRecursion (IsSpelledEntry (length r.phases)) r.entries
  pub totals : AreNumbers (length r.elements) r.totals
  pub energy : IsNumber r.energy
  pub tolerance_low : pos 0 ≤ℤ r.tolerance
  pub tolerance_high : r.tolerance ≤ℤ pos MOST_TOLERANCE
  pub gap_low : pos 0 ≤ℤ r.gap
  pub gap_high : r.gap ≤ℤ pos MOST_PRINTED_GAP
  pub potentials : AreNumbers (length r.elements) r.potentials
  pub one_tree_each : length r.trees ≡ length r.phases
  pub trees : AllByRecursion IsSpelledTree r.trees
