-- Entries that sums may be taken over.
use Rattle.std.specs.Prelude.{◌≡◌, ℕ, ◌<◌, ◌≤◌, ◌^◌, List, Some, length, slice_get, ℤ, unsigned_abs}
use Rattle.cal_math.specs.Vectors.{at}
use Rattle.cef_core.specs.declared.phase.PhaseAt.{PhaseAt}
use Rattle.cef_core.specs.declared.system.System.{System}
use Rattle.cef_core.specs.Constitutions.{IsConstitution}
use Rattle.cef_core.specs.Phases.{IsFine}
use Rattle.cef_report.specs.declared.entry.Entry.{Entry}
use Rattle.cef_report.specs.Assemblages.{total}

-- a constitution of a phase, with an amount of a magnitude of at most 2^50
pub record IsFineEntry (phases : List PhaseAt) (entry : Entry) : Type 0 where
  pub phase : PhaseAt
  pub is_phase : slice_get phases entry.phase ≡ Some phase
  pub fine : IsFine phase
  pub constitution : IsConstitution phase entry.site
  pub size : unsigned_abs entry.amount ≤ 2 ^ 50

-- the phases of the entries are among so many
abbrev pub AreOfPhases : ℕ → List Entry → Type 0
AreOfPhases phases entries = (k : ℕ) (entry : Entry) → slice_get entries k ≡ Some entry → entry.phase < phases

-- what holds in each system of these phases
abbrev pub InSystemOf : List PhaseAt → (System → Type 0) → Type 0
InSystemOf phases P = (s : System) → s.phases ≡ phases → P s

-- the totals are those of the entries
abbrev pub AreTotals : System → List Entry → List ℤ → Type 0
AreTotals s entries totals = (c : ℕ) → c < length totals → at totals c ≡ total s entries c
