-- A proposed list that holds something and costs less than its price is a constitution that was not known.
use Rattle.std.proofs.Common.{◌≡◌, ℕ, zero, suc, ◌+◌, ◌^◌, ◌≤◌, List, [], ◌∷◌, length, get_or, drop, Bool, true, false, refl, arith, ap, sym, ◌∙◌, subst, inl, inr}
use Rattle.std.specs.Prelude.{ℤ, pos, negsuc, ◌*ℤ◌, ◌≤ℤ◌, ◌<ℤ◌, Option, Some, slice_get, unsigned_abs, sum, ◌⊎◌}
use Rattle.std.specs.Bool.{OnTrue}
use Rattle.std.proofs.lemmas.Int.{ints}
use Rattle.std.proofs.lemmas.Bool.{cases_lt}
use Rattle.cal_math.specs.Vectors.{at, sum_to, dot}
use Rattle.cal_math.proofs.Vectors.{sum-same, dot_same}
use Rattle.lp_basis.specs.Rows.{FitsProduct}
use Rattle.lp_basis.specs.declared.column.Column.{Column}
use Rattle.lp_core.specs.Fitting.{Fits}
use Rattle.lp_core.specs.Plans.{IsPlan}
use Rattle.lp_core.specs.declared.plan.Plan.{Plan}
use Rattle.cef_report.specs.declared.entry.Entry.{Entry}
use Rattle.cef_core.specs.declared.system.System.{System}
use Rattle.cef_core.specs.Constitutions.{HasShape, content}
use Rattle.cef_report.specs.Assemblages.{content_of}
use Rattle.eq_solve.specs.Points.{IsListOf, IsColumnOf, IsConstitutionOf, IsNew, AreKnown}
use Rattle.eq_solve.specs.Rounds.{CanSolve}
use Rattle.eq_solve.proofs.Knowing.{at_past, column_of, fits, numbers_small}
use Rattle.eq_solve.proofs.Rises.{content_list, counted}

pub price_fits : (system : System) (known : List Entry) (columns : List Column) (asked : List ℤ) (gap : ℕ) (plan : Plan) (entry : Entry) (column : Column) → CanSolve system asked gap → AreKnown system known columns → IsPlan columns asked plan → IsListOf system entry → IsColumnOf system entry column →
    FitsProduct (2 ^ 99) (10 ^ 8) plan.potentials.items column.amounts.items
price_fits system known columns asked gap plan entry column can are plan_is list is = record {
  sized = len ∙ sym is.same;
  row_small = row_small;
  least = least;
  sum = rw (len, sum-same (length system.elements) (at column.amounts.items) (content_of system entry) is.amounts_are) (omega (arith, ints, can.sized.narrow entry list, can.sized.wide));
  room = omega arith;
}
  where
    len : length plan.potentials.items ≡ length system.elements
    len = plan_is.one_each ∙ can.size

    row_small : (c : ℕ) → unsigned_abs (at plan.potentials.items c) ≤ 2 ^ 99
    row_small c =
        elim (cases_lt c (length plan.potentials.items)) [
          | inl lt ↦ numbers_small system known columns asked plan can.sized are can.size plan_is c (pos 0) lt
          | inr le ↦ rw (at_past plan.potentials.items c le) (omega arith)
        ]

    least : (c : ℕ) → pos 0 ≤ℤ at column.amounts.items c
    least c =
        elim (cases_lt c (length system.elements)) [
          | inl lt ↦ rw (is.amounts_are c lt) (content_list system entry list c)
          | inr le ↦ rw (at_past column.amounts.items c (omega (arith, is.same))) (omega (arith, ints))
        ]

pub denominator_fits : (system : System) (known : List Entry) (columns : List Column) (asked : List ℤ) (gap : ℕ) (plan : Plan) → CanSolve system asked gap → AreKnown system known columns → IsPlan columns asked plan → unsigned_abs plan.denominator ≤ 2 ^ 62
denominator_fits system known columns asked gap plan can are is =
    let fine : Fits columns asked = fits system known columns asked can.sized are can.size can.aim in
    omega (arith, ints, is.denominator_some, is.denominator_small, fine.room.wide)

pub gain-new : (system : System) (known : List Entry) (columns : List Column) (asked : List ℤ) (plan : Plan) (entry : Entry) (column : Column) → length asked ≡ length system.elements → AreKnown system known columns → IsPlan columns asked plan → IsColumnOf system entry column →
    (column.cost *ℤ plan.denominator) <ℤ dot (length plan.potentials.items) (at plan.potentials.items) (at column.amounts.items) → IsNew known entry
gain-new system known columns asked plan entry column size are is column_is gains k d lt same =
    let other : Entry = get_or known k d in
    let has = column_of system known columns k d are lt in
    let n : ℕ = length asked in
    let p : ℕ → ℤ = at plan.potentials.items in
    let priced : dot n p (at has.column.amounts.items) ≤ℤ (has.column.cost *ℤ plan.denominator) = subst (λ (x : Column). dot n p (at x.amounts.items) ≤ℤ (x.cost *ℤ plan.denominator)) (has.read has.column) (is.priced k has.column has.within) in
    let amounts : dot n p (at has.column.amounts.items) ≡ dot n p (at column.amounts.items) =
    dot_same n p (at has.column.amounts.items) p (at column.amounts.items) (λ c less. refl)
    (λ c less. has.is.column_is.amounts_are c (omega (arith, size)) ∙ rw (same.0, same.1) (sym (column_is.amounts_are c (omega (arith, size))))) in
    let cost : has.column.cost ≡ column.cost = has.is.column_is.cost_is ∙ rw (same.0, same.1) (sym column_is.cost_is) in
    let price : dot (length plan.potentials.items) p (at column.amounts.items) ≡ dot n p (at column.amounts.items) = ap (λ (m : ℕ). dot m p (at column.amounts.items)) is.one_each in
    omega (arith, ints, gains, priced, amounts, price, ap (λ (z : ℤ). z *ℤ plan.denominator) cost)
