-- What it means that a report holds.
use Rattle.std.specs.Prelude.{◌≡◌, ℕ, ◌<◌, ◌⊎◌, List, [], ◌∷◌, length, map, AllPairs, ℤ, ◌-ℤ◌, ◌≤ℤ◌}
use Rattle.std.specs.List.{concat}
use Rattle.cal_math.specs.Vectors.{at}
use Rattle.cef_core.specs.declared.system.System.{System}
use Rattle.cef_report.specs.declared.entry.Entry.{Entry}
use Rattle.cef_report.specs.declared.report.Report.{Report}
use Rattle.cef_report.specs.Assemblages.{IsAssemblage, total, total_energy, IsWithin}

-- the first count that differs is less
abbrev pub AreLess : List ℕ → List ℕ → Type 0
AreLess [] counts = ⊥
AreLess (j ∷ less) [] = ⊥
AreLess (j ∷ less) (k ∷ counts) = (j < k) ⊎ ((j ≡ k) × AreLess less counts)

-- the first by phase, and of one phase the first by counts
abbrev pub IsBefore : Entry → Entry → Type 0
IsBefore a b = (a.phase < b.phase) ⊎ ((a.phase ≡ b.phase) × AreLess (concat a.site) (concat b.site))

-- The report is of the system and of the asked totals. Its entries are an assemblage in strictly rising order, with the
-- printed totals and energy. No total differs from the asked one by more than the tolerance, and no rival of its totals
-- is lower than its energy by more than the gap.
pub record Holds (system : System) (asked : List ℤ) (report : Report) : Type 0 where
  pub same_temperature : report.t ≡ system.t
  pub same_lattice : report.lattice ≡ system.lattice
  pub same_elements : report.elements ≡ system.elements
  pub same_phases : report.phases ≡ map (λ phase. phase.name) system.phases
  pub asked_are : report.asked ≡ asked
  pub assemblage : IsAssemblage system report.entries
  pub rising : AllPairs IsBefore report.entries
  pub components : length report.totals ≡ length system.elements
  pub totals_are : (c : ℕ) → c < length system.elements → at report.totals c ≡ total system report.entries c
  pub energy_is : report.energy ≡ total_energy system report.entries
  pub not_below : (c : ℕ) → c < length system.elements → (at asked c -ℤ at report.totals c) ≤ℤ report.tolerance
  pub not_above : (c : ℕ) → c < length system.elements → (at report.totals c -ℤ at asked c) ≤ℤ report.tolerance
  pub least : IsWithin system report.totals report.energy report.gap
