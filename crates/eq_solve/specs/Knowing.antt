-- The known constitutions in rising order, and one more among them.
use Rattle.std.specs.Prelude.{◌≡◌, ℕ, ◌<◌, ◌≤◌, List, length, Some, slice_get, slice_index_or, AllPairs}
use Rattle.std.specs.List.{insert}
use Rattle.cef_core.specs.declared.system.System.{System}
use Rattle.cef_report.specs.declared.entry.Entry.{Entry}
use Rattle.cef_report.specs.Holding.{IsBefore}
use Rattle.eq_solve.specs.declared.known.Known.{Known}
use Rattle.eq_solve.specs.declared.point.Point.{Point}
use Rattle.eq_solve.specs.Points.{AreKnown, unknown, all_entries}

pub record IsKnowing (system : System) (known : Known) : Type 0 where
  pub are : AreKnown system known.entries.items known.columns.items
  pub rising : AllPairs IsBefore known.entries.items

-- the place of an entry: all earlier ones are before it, and the one there is not
pub record IsPlaceOf (entries : List Entry) (entry : Entry) (place : ℕ) : Type 0 where
  pub within : place ≤ length entries
  pub before : (k : ℕ) (d : Entry) → k < place → IsBefore (slice_index_or entries k d) entry
  pub not_before : (d : Entry) → place < length entries → IsBefore (slice_index_or entries place d) entry → ⊥

-- the entry is not before the one at a place
pub record IsStuck (entries : List Entry) (entry : Entry) (place : ℕ) : Type 0 where
  pub other : Entry
  pub there : slice_get entries place ≡ Some other
  pub not_before : IsBefore entry other → ⊥

-- the point stands at its place, or one of the same order stood there before
pub data IsWith (known : Known) (point : Point) : Known → Type 0 where
  kept : (place : ℕ) → IsPlaceOf known.entries.items point.entry place → IsStuck known.entries.items point.entry place → IsWith known point known
  added : (place : ℕ) (more : Known) → IsPlaceOf known.entries.items point.entry place →
      ((other : Entry) → slice_get known.entries.items place ≡ Some other → IsBefore point.entry other) →
      more.entries.items ≡ insert known.entries.items place point.entry →
      more.columns.items ≡ insert known.columns.items place point.column → IsWith known point more

-- no more, or less of all lists of counts is unknown
abbrev pub LeavesNoMore : System → Known → Known → Type 0
LeavesNoMore system known more = unknown (all_entries system) more.entries.items ≤ unknown (all_entries system) known.entries.items

abbrev pub LeavesLess : System → Known → Known → Type 0
LeavesLess system known more = unknown (all_entries system) more.entries.items < unknown (all_entries system) known.entries.items
