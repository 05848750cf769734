-- What is asked of a system, which totals it can have, and what shows that it can't have them.
use Rattle.std.specs.Prelude.{◌≡◌, ℕ, List, Some, length, slice_get, ℤ, pos, ◌≤ℤ◌}
use Rattle.std.specs.List.{AllByRecursion, Any}
use Rattle.cal_math.specs.Vectors.{at}
use Rattle.cef_core.specs.declared.phase.PhaseAt.{PhaseAt}
use Rattle.cef_core.specs.declared.system.System.{System}
use Rattle.cef_core.specs.Constitutions.{IsConstitution, content}
use Rattle.cef_report.specs.declared.entry.Entry.{Entry}
use Rattle.cef_report.specs.Assemblages.{IsRival}
use Rattle.cef_core.specs.Worth.{worth}
use Rattle.cef_report.specs.Spelled.{IsAsked}

-- asked totals: a number within the limits for each element, and one of them above 0
pub record AreAsked (system : System) (asked : List ℤ) : Type 0 where
  pub one_each : length asked ≡ length system.elements
  pub within : AllByRecursion IsAsked asked
  pub positive : Any (λ x. pos 1 ≤ℤ x) asked

-- some whole multiple of the totals is that of an assemblage
abbrev pub IsFeasible : System → List ℤ → Type 0
IsFeasible system totals = (m : ℕ) × (entries : List Entry) × IsRival system totals m entries

-- a proof of none: a number for each element, at most 0 at every constitution and above 0 at the asked totals
pub record IsProofOfNone (system : System) (asked v : List ℤ) : Type 0 where
  pub one_each : length v ≡ length system.elements
  pub below : (p : ℕ) (phase : PhaseAt) (counts : List (List ℕ)) → slice_get system.phases p ≡ Some phase → IsConstitution phase counts →
      worth v (content phase counts) ≤ℤ pos 0
  pub above : pos 1 ≤ℤ worth v (at asked)
