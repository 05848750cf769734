-- What a plan, and what a proof of none, mean for a round.
use Rattle.std.proofs.Common.{◌≡◌, ℕ, suc, ◌^◌, ◌<◌, ◌≤◌, List, [], ◌∷◌, length, map, get_or, arith, ap, ◌∙◌, subst}
use Rattle.std.specs.Prelude.{ℤ, pos, ◌*ℤ◌, ◌≤ℤ◌, All, Some, slice_get}
use Rattle.std.specs.List.{AllByRecursion}
use Rattle.std.proofs.lemmas.Int.{ints}
use Rattle.cal_math.specs.Whole.{*ℤ-≤}
use Rattle.cal_math.specs.Vectors.{at, dot}
use Rattle.lp_basis.specs.declared.column.Column.{Column}
use Rattle.lp_core.specs.Plans.{Weight, given_amount, IsPlan}
use Rattle.lp_core.specs.Plans as plans
use Rattle.lp_core.specs.declared.plan.Plan.{Plan}
use Rattle.cef_report.specs.declared.entry.Entry.{Entry}
use Rattle.cef_core.specs.declared.system.System.{System}
use Rattle.cef_core.specs.declared.phase.PhaseAt.{PhaseAt}
use Rattle.cef_core.specs.Constitutions.{IsConstitution, content}
use Rattle.cef_report.specs.Assemblages.{content_of, total, IsEntry, IsAssemblage}
use Rattle.cef_core.specs.Worth.{worth}
use Rattle.eq_solve.proofs.Worths.{worth-dot, worth-zero, worth-add, worth-scale, worth_same}
use Rattle.eq_solve.specs.Points.{IsColumnOf, IsNew, IsKnownAs, AreKnown, IsSized}
use Rattle.eq_solve.specs.Sweeps.{CanSweep, IsBelow}
use Rattle.eq_solve.specs.Prices.{lowered, floored, IsClear}
use Rattle.cef_report.specs.Feasibility.{IsFeasible, IsProofOfNone}
use Rattle.eq_solve.specs.Rounds.{CanSolve}
use Rattle.eq_solve.proofs.Knowing.{fits, all_clear, can_sweep, below-new, known-length, column_of, worth_column}
use Rattle.eq_solve.proofs.Planning.{IsRounded, rounded}
use Rattle.eq_solve.proofs.Finding.{places}

-- the potentials and the amounts of a plan
pub record IsPlanned (system : System) (known : List Entry) (columns : List Column) (asked potentials : List ℤ) (margin : ℕ) (amounts : List Weight) : Type 0 where
  pub can : CanSweep system potentials
  pub clear : All (IsClear margin potentials) columns
  pub rounds : IsRounded system columns asked potentials margin amounts
  pub places : AllByRecursion (λ w. w.0 < length known) amounts
  pub few : length amounts ≤ 8

pub planned_is : (system : System) (known : List Entry) (columns : List Column) (asked potentials : List ℤ) (gap margin : ℕ) (amounts : List Weight) (plan : Plan) → CanSolve system asked gap → AreKnown system known columns → margin ≤ 2 ^ 56 →
    IsPlan columns asked plan → potentials ≡ map (lowered plan.denominator margin) plan.potentials.items → amounts ≡ map (floored plan.parts) plan.weights.items →
    IsPlanned system known columns asked potentials margin amounts
planned_is system known columns asked potentials gap margin amounts plan can are m is potentials_are amounts_are =
    let all : IsRounded system columns asked potentials margin amounts = rw (potentials_are, amounts_are) (rounded system known columns asked plan margin can.sized are can.aim can.size m is) in
    record {
      can = rw potentials_are (can_sweep system known columns asked plan margin can.sized are can.size m is);
      clear = rw potentials_are (all_clear columns asked plan margin (fits system known columns asked can.sized are can.size can.aim) is);
      rounds = all;
      places = places (length columns) (length known) amounts (known-length system known columns are) all.close.amounts_are.named;
      few = omega (arith, all.few, can.sized.few);
    }

pub point_new : (system : System) (known : List Entry) (columns : List Column) (asked potentials : List ℤ) (margin : ℕ) (amounts : List Weight) (entry : Entry) (column : Column) → IsSized system → AreKnown system known columns →
    IsPlanned system known columns asked potentials margin amounts → IsBelow system potentials entry → IsColumnOf system entry column → IsKnownAs system entry column × IsNew known entry
point_new system known columns asked potentials margin amounts entry column sized are is below column_is =
    (record { is_constitution = below.is_constitution; column_is = column_is }, below-new system known columns potentials margin entry sized are is.can.one_each is.clear below)

-- ---- proofs of none

-- one with a value above 0 is new: the known ones have none
pub rising-new : (system : System) (known : List Entry) (columns : List Column) (asked v : List ℤ) (entry : Entry) → AreKnown system known columns → length asked ≡ length system.elements → plans.IsProofOfNone columns asked v →
    pos 1 ≤ℤ worth v (content_of system entry) → IsNew known entry
rising-new system known columns asked v entry are size none above k d lt same =
    let other : Entry = get_or known k d in
    let has = column_of system known columns k d are lt in
    let below : dot (length asked) (at v) (at has.column.amounts.items) ≤ℤ pos 0 = subst (λ (x : Column). dot (length asked) (at v) (at x.amounts.items) ≤ℤ pos 0) (has.read has.column) (none.below k has.column has.within) in
    let value : worth v (content_of system other) ≡ dot (length v) (at v) (at has.column.amounts.items) = worth_column system v other has.column (none.one_each ∙ size) has.is in
    let high : pos 1 ≤ℤ worth v (content_of system other) = rw (same.0, same.1) above in
    omega (arith, ints, below, value, high, ap (λ (n : ℕ). dot n (at v) (at has.column.amounts.items)) none.one_each)

-- all constitutions have a value of at most 0
abbrev pub IsNowhereAbove : System → List ℤ → Type 0
IsNowhereAbove system v = (p : ℕ) (phase : PhaseAt) (counts : List (List ℕ)) → slice_get system.phases p ≡ Some phase → IsConstitution phase counts → worth v (content phase counts) ≤ℤ pos 0

total_below : (system : System) (v : List ℤ) (entries : List Entry) → IsNowhereAbove system v → IsAssemblage system entries → worth v (total system entries) ≤ℤ pos 0
total_below system v [] nowhere all = omega (arith, ints, worth-zero v)
total_below system v (e ∷ entries) nowhere all =
    let is : IsEntry system e = all 0 e (omega arith) in
    let some : pos 1 ≤ℤ e.amount = is.present in
    let one : worth v (content_of system e) ≤ℤ pos 0 = simp is.is_phase (nowhere e.phase is.phase e.site is.is_phase is.constitution) in
    let rest : worth v (total system entries) ≤ℤ pos 0 = total_below system v entries nowhere (λ k d lt. all (suc k) d (omega arith)) in
    omega (
      arith,
      ints,
      rest,
      worth-add v (λ c. e.amount *ℤ content_of system e c) (total system entries),
      worth-scale v e.amount (content_of system e),
      *ℤ-≤ e.amount (worth v (content_of system e)) (pos 0) (omega (arith, ints)) one,
    )

pub none_feasible : (system : System) (asked v : List ℤ) → IsNowhereAbove system v → length v ≡ length asked → pos 1 ≤ℤ worth v (at asked) → ¬ IsFeasible system asked
none_feasible system asked v nowhere len above (m, entries, rival) =
    let below : worth v (total system entries) ≤ℤ pos 0 = total_below system v entries nowhere rival.assemblage in
    let same : worth v (total system entries) ≡ worth v (λ c. pos m *ℤ at asked c) = worth_same v (total system entries) (λ c. pos m *ℤ at asked c) (λ c lt. rival.totals_are c (omega arith)) in
    let scaled : worth v (λ c. pos m *ℤ at asked c) ≡ pos m *ℤ worth v (at asked) = worth-scale v (pos m) (at asked) in
    omega (arith, ints, below, same, scaled, *ℤ-≤ (pos m) (pos 1) (worth v (at asked)) (omega (arith, ints)) above, rival.parts)

pub proof_from : (system : System) (columns : List Column) (asked v : List ℤ) → length asked ≡ length system.elements → plans.IsProofOfNone columns asked v → IsNowhereAbove system v → IsProofOfNone system asked v × ¬ IsFeasible system asked
proof_from system columns asked v size none nowhere =
    let value : worth v (at asked) ≡ dot (length asked) (at v) (at asked) = worth-dot v (at asked) ∙ ap (λ (n : ℕ). dot n (at v) (at asked)) none.one_each in
    let above : pos 1 ≤ℤ worth v (at asked) = rw value none.above in
    (record { one_each = none.one_each ∙ size; below = nowhere; above = above }, none_feasible system asked v nowhere none.one_each above)
