-- The numbers of steps that are right are such that sums over them have room, so the end of their path can be judged.
use Rattle.std.proofs.Common.{◌≡◌, ℕ, zero, suc, ◌+◌, ◌^◌, ◌<◌, ◌≤◌, List, [], ◌∷◌, length, slice_get, Some, refl, arith, ap, sym, ◌∙◌, subst, inl, inr, filter}
use Rattle.std.specs.Prelude.{ℤ, pos, ◌-ℤ◌, ◌≤ℤ◌, unsigned_abs}
use Rattle.std.specs.List.{AllByRecursion}
use Rattle.std.proofs.lemmas.Int.{ints}
use Rattle.std.proofs.lemmas.Bool.{cases_lt}
use Rattle.std.proofs.lemmas.List.{get_or_past}
use Rattle.std.proofs.lemmas.Option.{slice_get_within}
use Rattle.cal_limits.specs.declared.TheConstants.{MOST_ELEMENTS, MOST_ASKED, MOST_TOLERANCE}
use Rattle.cal_math.specs.Vectors.{at}
use Rattle.cal_scan.specs.Lines.{Word}
use Rattle.cef_core.specs.declared.system.System.{System}
use Rattle.cef_report.specs.declared.report.Report.{Report}
use Rattle.cef_report.specs.Holding.{Holds}
use Rattle.cef_report.specs.Spelled.{IsSpelled, AreNumbers}
use Rattle.cef_path.specs.declared.step.StepText.{StepText}
use Rattle.cef_path.specs.declared.path.PathText.{PathText}
use Rattle.cef_path.specs.Ledgers.{IsLeft, is_of}
use Rattle.cef_path.specs.Spelled.{IsSpelledPath, IsSpelledStep, AreNumbersOfFirst}
use Rattle.tdb_read.specs.Database.{Database}
use Rattle.eq_cert.proofs.Picks.{all_at, all_from}
use Rattle.cal_check.specs.Paths.{first_asked, HasSameElements}
use Rattle.cal_check.specs.Workings.{AreModest, IsModest, CanSum, CanEnd, IsRightStep, AreRightBefore}
use Rattle.cal_check.proofs.Numbers.{asked_at}
use Rattle.cal_check.proofs.Totals.{parts_least, parts_most}

-- ---- of one component: what is asked, what is in the step, and what it leaves

record AreNear (asked total left : ℤ) : Type 0 where
  low : pos 0 ≤ℤ left
  high : left ≤ℤ pos (2 ^ 61)
  solid : unsigned_abs (total -ℤ left) ≤ 2 ^ 62
  lost : unsigned_abs (asked -ℤ total) ≤ 2 ^ 62

near : (asked total left tolerance : ℤ) → pos 0 ≤ℤ asked → asked ≤ℤ pos MOST_ASKED → tolerance ≤ℤ pos MOST_TOLERANCE → (asked -ℤ total) ≤ℤ tolerance → (total -ℤ asked) ≤ℤ tolerance →
    pos 0 ≤ℤ left → left ≤ℤ total → AreNear asked total left
near asked total left tolerance low high most below above some within = record {
  low = some;
  high = omega (arith, ints, high, most, above, within);
  solid = omega (arith, ints, high, most, above, within, some);
  lost = omega (arith, ints, most, below, above);
}

near_none : (asked total left : ℤ) → asked ≡ pos 0 → total ≡ pos 0 → left ≡ pos 0 → AreNear asked total left
near_none asked total left a t l = rw (a, t, l) (record {
  low = omega (arith, ints);
  high = omega (arith, ints);
  solid = omega (arith, ints);
  lost = omega (arith, ints);
})

near_at : (system : System) (liquid : Word) (r : Report) (left : List ℤ) (c : ℕ) → Holds system r.asked r → IsSpelled r → IsLeft system liquid r left → AreNear (at r.asked c) (at r.totals c) (at left c)
near_at system liquid r left c holds spelled is = elim (cases_lt c (length r.elements)) [
  | inl within ↦
      let within_system : c < length system.elements = omega (arith, within, ap length holds.same_elements) in
      let all = holds.totals_are c within_system in
      let part = is.totals_are c (omega (arith, within, is.one_each)) in
      let least = parts_least system (λ entry. is_of r.phases liquid entry) r.entries c holds.assemblage in
      let most = parts_most system (λ entry. is_of r.phases liquid entry) r.entries c holds.assemblage in
      let asked = asked_at r.asked spelled.asked.1 c in
      near (at r.asked c) (at r.totals c) (at left c) r.tolerance asked.0 asked.1 spelled.tolerance_high
      (holds.not_below c within_system) (holds.not_above c within_system)
      (omega (arith, ints, part, least)) (omega (arith, ints, part, all, most))
  | inr past ↦ near_none (at r.asked c) (at r.totals c) (at left c)
      (get_or_past r.asked c (pos 0) (omega (arith, past, spelled.asked.0)))
      (get_or_past r.totals c (pos 0) (omega (arith, past, spelled.totals.0)))
      (get_or_past left c (pos 0) (omega (arith, past, is.one_each)))
]

-- a total is at most what is asked and the tolerance
pub total_high : (system : System) (r : Report) (c : ℕ) → Holds system r.asked r → IsSpelled r → at r.totals c ≤ℤ pos (2 ^ 61)
total_high system r c holds spelled = elim (cases_lt c (length r.elements)) [
  | inl within ↦
      let above = holds.not_above c (omega (arith, within, ap length holds.same_elements)) in
      let asked = (asked_at r.asked spelled.asked.1 c).1 in
      let most = spelled.tolerance_high in
      omega (arith, ints, above, asked, most)
  | inr past ↦
      let none = get_or_past r.totals c (pos 0) (omega (arith, past, spelled.totals.0)) in
      omega (arith, ints, none)
]

-- ---- a step

pub modest : (db : Database) (path : PathText) (i : ℕ) (s : StepText) → IsSpelledStep s → IsRightStep db path i s → IsModest s
modest db path i s spelled right =
    let near = λ (c : ℕ). near_at right.system path.liquid s.report s.left c right.report.holds spelled.report right.left in
    record {
      left = record {
        few = omega (arith, right.left.one_each, spelled.report.few_elements);
        low = λ c. (near c).low;
        high = λ c. (near c).high;
      };
      solid = λ c. (near c).solid;
      lost = λ c. (near c).lost;
    }

-- ---- a path

asked_modest : (r : Report) → IsSpelled r → AreModest r.asked
asked_modest r spelled = record {
  few = omega (arith, spelled.asked.0, spelled.few_elements);
  low = λ c. (asked_at r.asked spelled.asked.1 c).0;
  high = λ c. let most = (asked_at r.asked spelled.asked.1 c).1 in omega (arith, ints, most);
}

first_modest : (steps : List StepText) → 0 < length steps → AllByRecursion IsSpelledStep steps → AreModest (first_asked steps)
first_modest [] some all = absurd (omega (arith, some))
first_modest (s ∷ steps) some all = asked_modest s.report all.0.report

-- how many numbers each list at the end has
record HaveEach (steps : List StepText) (solids lost : List ℤ) : Type 0 where
  some : 0 < length steps
  first : StepText
  is_first : slice_get steps 0 ≡ Some first
  solid_each : length solids ≡ length first.report.elements
  lost_each : length lost ≡ length first.report.elements

have_each : (steps : List StepText) (solids remains lost : List ℤ) → AreNumbersOfFirst steps (solids ∷ remains ∷ lost ∷ []) → HaveEach steps solids lost
have_each [] solids remains lost each = absurd each
have_each (s ∷ steps) solids remains lost each = record {
  some = omega arith;
  first = s;
  is_first = refl;
  solid_each = each.0.0;
  lost_each = each.1.1.0.0;
}

can_sum : (db : Database) (path : PathText) (i : ℕ) (s first : StepText) (c : ℕ) → IsSpelledStep s → IsRightStep db path i s → slice_get path.steps 0 ≡ Some first → c < length first.report.elements → CanSum c s
can_sum db path i s first c spelled right is_first within =
    let same = ap length (right.head.elements first is_first) in
    record {
      modest = modest db path i s spelled right;
      total = omega (arith, within, same, spelled.report.totals.0);
      left = omega (arith, within, same, right.left.one_each);
      asked = omega (arith, within, same, spelled.report.asked.0);
    }

pub can_end : (db : Database) (path : PathText) → IsSpelledPath path → AreRightBefore db path (length path.steps) → CanEnd path
can_end db path spelled right =
    let each = have_each path.steps path.solids path.remains path.lost spelled.lists in
    let step = λ (i : ℕ) (s : StepText) (e : slice_get path.steps i ≡ Some s). all_at IsSpelledStep path.steps i s spelled.steps e in
    let is_right = λ (i : ℕ) (s : StepText) (e : slice_get path.steps i ≡ Some s). right i (slice_get_within path.steps i s e) s e in
    record {
      some = each.some;
      asked = first_modest path.steps each.some spelled.steps;
      modest = all_from IsModest path.steps (λ i s e. modest db path i s (step i s e) (is_right i s e));
      solids = λ c lt. all_from (CanSum c) path.steps (λ i s e. can_sum db path i s each.first c (step i s e) (is_right i s e) each.is_first (omega (arith, lt, each.solid_each)));
      lost = λ c lt. all_from (CanSum c) path.steps (λ i s e. can_sum db path i s each.first c (step i s e) (is_right i s e) each.is_first (omega (arith, lt, each.lost_each)));
    }
