-- What is asked of a system is a target of its plans.
use Rattle.std.proofs.Common.{◌≡◌, ℕ, zero, suc, ◌^◌, ◌<◌, ◌≤◌, List, [], ◌∷◌, length, get_or, refl, arith, sym, ◌∙◌, subst}
use Rattle.std.specs.Prelude.{ℤ, pos, ◌≤ℤ◌}
use Rattle.std.specs.List.{AllByRecursion}
use Rattle.std.proofs.lemmas.Int.{ints}
use Rattle.cal_math.specs.Vectors.{at}
use Rattle.cef_core.specs.declared.system.System.{System}
use Rattle.cef_core.specs.Systems.{IsSystem}
use Rattle.cef_report.specs.Feasibility.{AreAsked}
use Rattle.cef_report.specs.Spelled.{IsAsked}
use Rattle.lp_core.specs.Fitting.{IsTarget}
use Rattle.eq_solve.specs.Points.{IsSized}
use Rattle.eq_solve.specs.Rounds.{CanSolve}

pub at_asked : (asked : List ℤ) (c : ℕ) → AllByRecursion IsAsked asked → (pos 0 ≤ℤ at asked c) × (at asked c ≤ℤ pos (2 ^ 50))
at_asked [] c all = (omega (arith, ints), omega (arith, ints))
at_asked (x ∷ asked) zero all = all.0
at_asked (x ∷ asked) (suc c) all = at_asked asked c all.1

read_any : (xs : List ℤ) (k : ℕ) (d e : ℤ) → k < length xs → get_or xs k d ≡ get_or xs k e
read_any [] k d e lt = absurd (omega arith)
read_any (x ∷ xs) zero d e lt = refl
read_any (x ∷ xs) (suc k) d e lt = read_any xs k d e (omega arith)

target_is : (system : System) (asked : List ℤ) → IsSized system → AreAsked system asked → IsTarget asked
target_is system asked sized are =
    let found = are.positive in
    record {
      few = omega (arith, are.one_each, sized.few);
      least = λ c. (at_asked asked c are.within).0;
      most = λ c. (at_asked asked c are.within).1;
      positive = (found.0, found.2, subst (λ (x : ℤ). pos 1 ≤ℤ x) (sym (read_any asked found.0 (pos 0) found.1 found.2 ∙ found.3)) found.4);
    }

pub can_solve : (system : System) (asked : List ℤ) (gap : ℕ) → IsSized system → AreAsked system asked → 1 ≤ gap → gap ≤ 10 ^ 12 → CanSolve system asked gap
can_solve system asked gap sized are low high = record { sized = sized; aim = target_is system asked sized are; size = are.one_each; gap_low = low; gap_high = high }
