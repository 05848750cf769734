-- Assemblages of constitutions, their totals and energies, and rivals.
use Rattle.std.specs.Prelude.{◌≡◌, ℕ, ◌<◌, ◌≤◌, List, Some, length, slice_get, All, ℤ, pos, ◌-ℤ◌, ◌*ℤ◌, ◌≤ℤ◌}
use Rattle.std.specs.Option.{option_map_or}
use Rattle.cal_math.specs.Sums.{sum_of}
use Rattle.cal_math.specs.Vectors.{at}
use Rattle.cef_core.specs.declared.phase.PhaseAt.{PhaseAt}
use Rattle.cef_core.specs.declared.system.System.{System}
use Rattle.cef_report.specs.declared.entry.Entry.{Entry}
use Rattle.cef_core.specs.Constitutions.{IsConstitution, content}
use Rattle.cef_core.specs.Energies.{energy}

-- an amount of a constitution of a phase of the system
pub record IsEntry (system : System) (entry : Entry) : Type 0 where
  pub phase : PhaseAt
  pub is_phase : slice_get system.phases entry.phase ≡ Some phase
  pub constitution : IsConstitution phase entry.site
  pub present : pos 1 ≤ℤ entry.amount

-- any list of such entries, the empty one too
abbrev pub IsAssemblage : System → List Entry → Type 0
IsAssemblage system entries = All (IsEntry system) entries

-- the content of each component in a formula unit of the entry
abbrev pub content_of : System → Entry → ℕ → ℤ
content_of system entry = option_map_or (λ phase. content phase entry.site) (slice_get system.phases entry.phase) (λ _. pos 0)

-- the energy of a formula unit of the entry
abbrev pub energy_of : System → Entry → ℤ
energy_of system entry = option_map_or (λ phase. energy phase entry.site) (slice_get system.phases entry.phase) (pos 0)

-- the total of component c: the sum of amount times content
abbrev pub total : System → List Entry → ℕ → ℤ
total system entries c = sum_of (λ entry. entry.amount *ℤ content_of system entry c) entries

-- the sum of amount times energy
abbrev pub total_energy : System → List Entry → ℤ
total_energy system entries = sum_of (λ entry. entry.amount *ℤ energy_of system entry) entries

-- An assemblage with m times these totals, for a whole m from 1 on. It stands for that assemblage with all its amounts
-- divided by m, so every fractional amount is covered.
pub record IsRival (system : System) (totals : List ℤ) (m : ℕ) (entries : List Entry) : Type 0 where
  pub parts : 1 ≤ m
  pub assemblage : IsAssemblage system entries
  pub totals_are : (c : ℕ) → c < length totals → total system entries c ≡ pos m *ℤ at totals c

-- no rival of these totals is lower than the energy by more than the gap
abbrev pub IsWithin : System → List ℤ → ℤ → ℤ → Type 0
IsWithin system totals least gap =
    (m : ℕ) (entries : List Entry) → IsRival system totals m entries → (pos m *ℤ (least -ℤ gap)) ≤ℤ total_energy system entries
