-- Accounts in another order, and after a step.
use Rattle.std.proofs.Common.{◌≡◌, ℕ, ◌+◌, ◌<◌, ◌≤◌, List, [], ◌∷◌, length, true, refl, sym, ap, ◌∙◌, subst, arith, inl, inr}
use Rattle.std.specs.Prelude.{ℤ, pos, ◌+ℤ◌, ◌-ℤ◌, ◌≤ℤ◌, ◌⊎◌}
use Rattle.std.specs.List.{AllByRecursion, Any}
use Rattle.std.proofs.lemmas.Int.{ints}
use Rattle.std.proofs.lemmas.Bool.{cases_lt}
use Rattle.std.proofs.lemmas.List.{length-map, get_or_past}
use Rattle.cal_limits.specs.declared.TheConstants.{MOST_ELEMENTS, MOST_ASKED}
use Rattle.cal_math.specs.Vectors.{at}
use Rattle.cal_scan.specs.Lines.{Word}
use Rattle.cal_scan.specs.Names.{AreNames}
use Rattle.cef_core.specs.declared.system.System.{System}
use Rattle.cef_core.specs.Systems.{IsSystem}
use Rattle.cef_path.specs.Finishing.{IsNone}
use Rattle.cef_path.specs.Ledgers.{IsLeft}
use Rattle.cef_report.specs.declared.report.Report.{Report}
use Rattle.cef_report.specs.Feasibility.{AreAsked}
use Rattle.cef_report.specs.Holding.{Holds}
use Rattle.cef_report.specs.Spelled.{IsAsked}
use Rattle.cal_select.specs.Chosen.{is_in}
use Rattle.eq_solve.specs.Equilibria.{IsEquilibrium}
use Rattle.cal_scheil.specs.declared.account.Account.{Account}
use Rattle.cal_scheil.specs.Accounts.{number_beside, in_order, account_in_order, IsAccount}
use Rattle.cal_scheil.specs.Steps.{Moves}
use Rattle.cal_scheil.specs.Workings.{AreWithin, IsMoved}
use Rattle.cal_scheil.proofs.Numbers.{some_above}
use Rattle.cal_scheil.proofs.Ordering.{in_order_holds, in_order_all, in_order_balanced, beside_at, is_in_at, some_in_order}
use Rattle.cal_scheil.proofs.Totals.{total_least, solid_is}

-- each number is at most what may be asked
pub record AreHigh (account : Account) : Type 0 where
  pub solids : (c : ℕ) → at account.solids c ≤ℤ pos MOST_ASKED
  pub remains : (c : ℕ) → at account.remains c ≤ℤ pos MOST_ASKED
  pub lost : (c : ℕ) → at account.lost c ≤ℤ pos MOST_ASKED
  pub asked_low : (c : ℕ) → pos 0 ≤ℤ at account.asked c

pub each_high : (account : Account) → IsAccount account → AreHigh account
each_high account is = record {
  solids = λ c. let a = is.asked_high c in let s = is.solids_low c in let r = is.remains_low c in let l = is.lost_low c in let b = is.balanced c in omega (arith, ints, a, s, r, l, b);
  remains = λ c. let a = is.asked_high c in let s = is.solids_low c in let r = is.remains_low c in let l = is.lost_low c in let b = is.balanced c in omega (arith, ints, a, s, r, l, b);
  lost = λ c. let a = is.asked_high c in let s = is.solids_low c in let r = is.remains_low c in let l = is.lost_low c in let b = is.balanced c in omega (arith, ints, a, s, r, l, b);
  asked_low = λ c. let s = is.solids_low c in let r = is.remains_low c in let l = is.lost_low c in let b = is.balanced c in omega (arith, ints, s, r, l, b);
}

-- ---- in another order

pub ordered : (account : Account) (order : List Word) → IsAccount account → AreNames order → length order ≤ MOST_ELEMENTS → IsAccount (account_in_order account order)
ordered account order is names few = record {
  names = names;
  few = few;
  asked_each = length-map order (number_beside account.names account.asked);
  solids_each = length-map order (number_beside account.names account.solids);
  remains_each = length-map order (number_beside account.names account.remains);
  lost_each = length-map order (number_beside account.names account.lost);
  asked_high = in_order_holds (λ x. x ≤ℤ pos MOST_ASKED) account.names account.asked order (omega (arith, ints)) is.asked_high;
  solids_low = in_order_holds (λ x. pos 0 ≤ℤ x) account.names account.solids order (omega (arith, ints)) is.solids_low;
  remains_low = in_order_holds (λ x. pos 0 ≤ℤ x) account.names account.remains order (omega (arith, ints)) is.remains_low;
  lost_low = in_order_holds (λ x. pos 0 ≤ℤ x) account.names account.lost order (omega (arith, ints)) is.lost_low;
  balanced = in_order_balanced account.names account.asked account.solids account.remains account.lost order is.balanced;
}

-- What remains can be asked of a system of the same elements.
pub are_asked : (account : Account) (system : System) → IsAccount account → IsSystem system → ¬ IsNone account.remains → ((name : Word) → is_in account.names name ≡ true → is_in system.elements name ≡ true)
    → AreAsked system (account_in_order account system.elements).remains
are_asked account system is keeps some among =
    let above = some_above account.remains is.remains_low some in
    let within : above.place < length account.names = omega (arith, above.within, is.remains_each) in
    record {
      one_each = length-map system.elements (number_beside account.names account.remains);
      within = in_order_all IsAsked account.names account.remains system.elements (omega (arith, ints), omega (arith, ints)) (λ c. (is.remains_low c, (each_high account is).remains c));
      positive = some_in_order account.names account.remains _ system.elements (among _ (is_in_at account.names above.place within)) (rw (beside_at account.names account.remains above.place is.names.distinct within) above.above);
    }

-- ---- after a step

pub moved_on : (before after : Account) (totals left : List ℤ) → IsAccount before → length left ≡ length before.names → AreWithin totals before.remains → AreWithin left totals → IsMoved before totals left after → IsAccount after
moved_on before after totals left is each within part moved =
    let names = ap length moved.same_names in
    record {
      names = subst AreNames (sym moved.same_names) is.names;
      few = omega (arith, names, is.few);
      asked_each = ap length moved.same_asked ∙ is.asked_each ∙ sym names;
      solids_each = moved.solids.same_length ∙ is.solids_each ∙ sym names;
      remains_each = ap length moved.remains ∙ each ∙ sym names;
      lost_each = moved.lost.same_length ∙ is.lost_each ∙ sym names;
      asked_high = λ c. rw moved.same_asked (is.asked_high c);
      solids_low = λ c. let e = moved.solids.numbers_are c in let s = is.solids_low c in let l = (part c).1 in omega (arith, ints, e, s, l);
      remains_low = λ c. rw moved.remains (part c).0;
      lost_low = λ c. let e = moved.lost.numbers_are c in let s = is.lost_low c in let l = (within c).1 in omega (arith, ints, e, s, l);
      balanced = λ c.
          let s = moved.solids.numbers_are c in
          let l = moved.lost.numbers_are c in
          let r = ap (λ (xs : List ℤ). at xs c) moved.remains in
          let b = is.balanced c in
          let a = ap (λ (xs : List ℤ). at xs c) moved.same_asked in
          omega (arith, ints, s, l, r, b, a);
    }

pub moves_from : (system : System) (liquid : Word) (report : Report) (left : List ℤ) (before after : Account) → before.names ≡ system.elements → IsAccount before
    → Holds system before.remains report → IsLeft system liquid report left → IsMoved before report.totals left after → Moves system liquid report left before after
moves_from system liquid report left before after same is holds left_is moved =
    let each : length left ≡ length before.names = left_is.one_each ∙ ap length holds.same_elements ∙ sym (ap length same) in
    record {
      same_names = moved.same_names;
      same_asked = moved.same_asked;
      solids_each = moved.solids.same_length ∙ is.solids_each;
      solids_are = λ c lt.
          let e = moved.solids.numbers_are c in
          let s = solid_is system liquid report left before.remains c holds left_is (omega (arith, lt, each)) in
          omega (arith, ints, e, s);
      remains_are = moved.remains;
      lost_each = moved.lost.same_length ∙ is.lost_each;
      lost_are = λ c lt. moved.lost.numbers_are c;
    }

-- ---- totals of an equilibrium

-- no total is above what is asked, and none below 0
pub totals_within : (system : System) (asked : List ℤ) (gap budget : ℕ) (report : Report) → IsEquilibrium system asked gap budget report → length asked ≡ length system.elements
    → AreWithin report.totals asked
totals_within system asked gap budget report is each = λ c. by c (cases_lt c (length system.elements))
  where
    by : (c : ℕ) → (c < length system.elements) ⊎ (length system.elements ≤ c) → (pos 0 ≤ℤ at report.totals c) × (at report.totals c ≤ℤ at asked c)
    by c (inl lt) =
        let most = is.certified.none_above c lt in
        let same = ap (λ (xs : List ℤ). at xs c) is.holds.asked_are in
        let least = total_least system report.entries c is.holds.assemblage in
        let total_is = is.holds.totals_are c lt in
        (omega (arith, ints, least, total_is), omega (arith, ints, most, same))
    by c (inr ge) =
        let t = get_or_past report.totals c (pos 0) (omega (arith, ge, is.holds.components)) in
        let a = get_or_past asked c (pos 0) (omega (arith, ge, each)) in
        (omega (arith, ints, t), omega (arith, ints, t, a))

-- what the rest of a step asks of an equilibrium
pub record IsAnswered (before : Account) (report : Report) : Type 0 where
  pub total_each : length report.totals ≡ length before.names
  pub within : AreWithin report.totals before.remains
  pub high : (c : ℕ) → at report.totals c ≤ℤ pos MOST_ASKED

pub answered : (system : System) (before : Account) (gap budget : ℕ) (report : Report) → before.names ≡ system.elements → IsAccount before → IsEquilibrium system before.remains gap budget report → IsAnswered before report
answered system before gap budget report same is answers =
    let each = ap length same in
    let within = totals_within system before.remains gap budget report answers (is.remains_each ∙ each) in
    record {
      total_each = answers.holds.components ∙ sym each;
      within = within;
      high = λ c. let t = (within c).1 in let r = (each_high before is).remains c in omega (arith, ints, t, r);
    }
