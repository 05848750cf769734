-- The numbers of an equilibrium.
use Rattle.std.specs.Prelude.{◌≡◌, ℕ, ◌*◌, ◌<◌, ◌≤◌, List, length, map, filter, AllPairs, ℤ, pos, ◌+ℤ◌, ◌-ℤ◌, ◌*ℤ◌, ◌≤ℤ◌, ◌<ℤ◌}
use Rattle.std.specs.Int.{int_div_euclid}
use Rattle.cal_math.specs.Sums.{sum_of}
use Rattle.cal_math.specs.Vectors.{at}
use Rattle.lp_basis.specs.declared.column.Column.{Column}
use Rattle.lp_core.specs.Plans.{Weight, given_amount, cost_of}
use Rattle.cef_core.specs.declared.system.System.{System}
use Rattle.cef_tree.specs.declared.tree.Tree.{Tree}
use Rattle.cef_report.specs.declared.entry.Entry.{Entry}
use Rattle.cef_report.specs.Assemblages.{total, total_energy, IsAssemblage, IsWithin}
use Rattle.cef_report.specs.Certificates.{IsAbove, MeetsGap}
use Rattle.cef_report.specs.Holding.{IsBefore}
use Rattle.eq_sweep.specs.declared.swept.Swept.{Swept}
use Rattle.eq_sweep.specs.declared.swept.Swept.TheVariants.{Closed}
use Rattle.eq_solve.specs.declared.found.Found.{Found}
use Rattle.eq_solve.specs.Sweeps.{CanSweep}
use Rattle.eq_solve.specs.Figures.{IsGreatest, is_some, entry_at, left_of}

-- The numbers of an equilibrium, for the asked totals, the asked gap g and the budget. Its entries are an assemblage in rising order, with
-- its totals and energy. No total is above the asked one, and the tolerance, the greatest difference, is below C*W. The sweep under its
-- potentials with this budget closes with its trees: all constitutions lie on or above the plane. The gap is the least number of at least 0
-- that the plane allows, and it is at most ceil (g * sum of totals / N). No rival is lower by more than the gap.
pub record IsFound (system : System) (swept : List ℤ → ℕ → Swept → Type 0) (asked : List ℤ) (asked_gap budget : ℕ) (found : Found) : Type 0 where
  pub assemblage : IsAssemblage system found.entries
  pub rising : AllPairs IsBefore found.entries
  pub few : length found.entries ≤ length system.elements
  pub components : length found.totals ≡ length system.elements
  pub totals_are : (c : ℕ) → c < length system.elements → at found.totals c ≡ total system found.entries c
  pub energy_is : found.energy ≡ total_energy system found.entries
  pub none_above : (c : ℕ) → c < length system.elements → at found.totals c ≤ℤ at asked c
  pub tolerance_is : IsGreatest (length system.elements) (λ c. at asked c -ℤ at found.totals c) found.tolerance
  pub tolerance_small : found.tolerance <ℤ pos (length system.elements * system.widest)
  pub can_sweep : CanSweep system found.potentials
  pub closes : swept found.potentials budget (Closed found.trees)
  pub above : IsAbove system found.potentials
  pub gap_low : pos 0 ≤ℤ found.gap
  pub gap_allowed : MeetsGap found.potentials found.totals found.energy found.gap
  pub gap_least : (g : ℤ) → pos 0 ≤ℤ g → MeetsGap found.potentials found.totals found.energy g → found.gap ≤ℤ g
  pub gap_small : found.gap ≤ℤ int_div_euclid (pos asked_gap *ℤ sum_of (λ n. n) found.totals +ℤ (pos system.lattice -ℤ pos 1)) (pos system.lattice)
  pub least : IsWithin system found.totals found.energy found.gap

-- what a plan and a plane give
pub record AreFigures (known : List Entry) (columns : List Column) (asked potentials : List ℤ) (amounts : List Weight) (trees : List Tree) (found : Found) : Type 0 where
  pub entries_are : found.entries ≡ map (entry_at known) (filter is_some amounts)
  pub one_each : length found.totals ≡ length asked
  pub totals_are : (c : ℕ) → c < length asked → at found.totals c ≡ given_amount columns amounts c
  pub energy_is : found.energy ≡ cost_of columns amounts
  pub tolerance_is : IsGreatest (length asked) (λ c. at asked c -ℤ at found.totals c) found.tolerance
  pub gap_allowed : left_of potentials columns amounts ≤ℤ (pos 65536 *ℤ found.gap)
  pub gap_least : (pos 65536 *ℤ found.gap) <ℤ (left_of potentials columns amounts +ℤ pos 65536)
  pub potentials_are : found.potentials ≡ potentials
  pub trees_are : found.trees ≡ trees
