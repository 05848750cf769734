-- Workings: a term at lists of counts of its sites, one behind the other.
use Rattle.std.specs.Prelude.{ℕ, List, ℤ}
use Rattle.cef_term.specs.declared.param_term.ParamTerm.{ParamTerm}
use Rattle.cef_term.specs.Bounds.{value_of}
use Rattle.cef_term.specs.Kept.{AreCounts, den, sites_of, least_q_at, greatest_q_at}

abbrev pub AreCountsOf : ParamTerm → List ℕ → Type 0
AreCountsOf t counts = AreCounts t.phase.now.lattice (sites_of t.phase.now) counts

-- the value for the least product of the counts and the factor between low and high, and for the greatest
abbrev pub least_value : ParamTerm → List ℕ → List ℕ → ℤ
least_value t low high = value_of t.parameter.now.micro (den t.share) (least_q_at t.places.items t.form low high)

abbrev pub greatest_value : ParamTerm → List ℕ → List ℕ → ℤ
greatest_value t low high = value_of t.parameter.now.micro (den t.share) (greatest_q_at t.places.items t.form low high)
