use Rattle.std.proofs.Common.{◌≡◌, ◌∙◌, ℕ, List, length, refl, sym, ap, subst, rules, arith}
use Rattle.std.specs.Prelude.{ℤ, pos, ◌≤ℤ◌}
use Rattle.std.proofs.lemmas.Int.{ints}
use Rattle.cal_math.specs.Vectors.{at}
use Rattle.cef_path.specs.Ledgers.{IsLeft}
use Rattle.cef_report.specs.declared.report.Report.{Report}
use Rattle.cal_select.specs.Chosen.{is_in}
use Rattle.eq_solve.specs.Equilibria.{IsEquilibrium}
use Rattle.cal_scheil.specs.declared.account.Account.{Account}
use Rattle.cal_scheil.specs.Accounts.{account_in_order, IsAccount}
use Rattle.cal_scheil.specs.Workings.{AreWithin, IsMoved, IsNext, MakesOf}
use Rattle.cal_scheil.proofs.Accounting.{each_high, ordered, are_asked, moved_on, moves_from, IsAnswered, answered}
use Rattle.cal_scheil.proofs.making.made_over.Goals as goal

pub solved-found-requires-clause-asked : goal.solved-found-requires-clause-asked
solved-found-requires-clause-asked c =
    let is : c.in_ok-ordered.ordered ≡ account_in_order c.args.account.now c.args.system.now.elements = search rules in
    let can = c.requires.can in
    rw (c.as_slice-2.ensures, is) (are_asked c.args.account.now c.args.system.now can.account_is c.requires.system can.some (λ name on. c.requires.same_elements name ∙ sym (can.same_elements name) ∙ on))

pub left_of-requires-clause-holds : goal.left_of-requires-clause-holds
left_of-requires-clause-holds c = (c.as_slice-2.result.now, c.in-Ok.ensures.answers.holds)

pub left_of-requires-clause-high : goal.left_of-requires-clause-high
left_of-requires-clause-high c =
    let is : c.in_ok-ordered.ordered ≡ account_in_order c.args.account.now c.args.system.now.elements = search rules in
    let keeps : IsAccount (account_in_order c.args.account.now c.args.system.now.elements) = ordered c.args.account.now c.args.system.now.elements c.requires.can.account_is c.requires.system.elements c.requires.system.few_elements in
    let answers = rw (c.as_slice-2.ensures, is) at c.in-Ok.ensures.answers in
    (answered c.args.system.now (account_in_order c.args.account.now c.args.system.now.elements) c.args.job.now.gap c.args.job.now.budget c.in-Ok.field-0.report refl keeps answers).high

pub account_after-requires-clause-account : goal.account_after-requires-clause-account
account_after-requires-clause-account c =
    let is : c.in_ok-ordered.ordered ≡ account_in_order c.args.account.now c.args.system.now.elements = search rules in
    rw is (ordered c.args.account.now c.args.system.now.elements c.requires.can.account_is c.requires.system.elements c.requires.system.few_elements)

pub account_after-requires-clause-total_each : goal.account_after-requires-clause-total_each
account_after-requires-clause-total_each c =
    let is : c.in_ok-ordered.ordered ≡ account_in_order c.args.account.now c.args.system.now.elements = search rules in
    rw (c.as_slice-in-Ok.ensures, is) c.in-Ok.ensures.answers.holds.components

pub account_after-requires-clause-left_each : goal.account_after-requires-clause-left_each
account_after-requires-clause-left_each c =
    let is : c.in_ok-ordered.ordered ≡ account_in_order c.args.account.now c.args.system.now.elements = search rules in
    rw (c.as_slice-in-Ok-2.ensures, is) (c.in_ok-left-in-Ok.ensures.left.one_each ∙ ap length c.in-Ok.ensures.answers.holds.same_elements)

pub account_after-requires-clause-totals : goal.account_after-requires-clause-totals
account_after-requires-clause-totals c =
    let is : c.in_ok-ordered.ordered ≡ account_in_order c.args.account.now c.args.system.now.elements = search rules in
    let keeps : IsAccount (account_in_order c.args.account.now c.args.system.now.elements) = ordered c.args.account.now c.args.system.now.elements c.requires.can.account_is c.requires.system.elements c.requires.system.few_elements in
    let answers = rw (c.as_slice-2.ensures, is) at c.in-Ok.ensures.answers in
    rw (c.as_slice-in-Ok.ensures, is) (answered c.args.system.now (account_in_order c.args.account.now c.args.system.now.elements) c.args.job.now.gap c.args.job.now.budget c.in-Ok.field-0.report refl keeps answers).within

pub account_after-requires-clause-left : goal.account_after-requires-clause-left
account_after-requires-clause-left c = rw (c.as_slice-in-Ok.ensures, c.as_slice-in-Ok-2.ensures) c.in_ok-left-in-Ok.ensures.within

pub returns-in_ok-after-in-Ok-clause-makes : goal.returns-in_ok-after-in-Ok-clause-makes
returns-in_ok-after-in-Ok-clause-makes c =
    let is : c.in_ok-ordered.ordered ≡ account_in_order c.args.account.now c.args.system.now.elements = search rules in
    let before : Account = account_in_order c.args.account.now c.args.system.now.elements in
    let keeps : IsAccount before = ordered c.args.account.now c.args.system.now.elements c.requires.can.account_is c.requires.system.elements c.requires.system.few_elements in
    let answers = rw (c.as_slice-2.ensures, is) at c.in-Ok.ensures.answers in
    let moved : IsMoved before c.in-Ok.field-0.report.totals c.in_ok-left-in-Ok.left c.in_ok-after-in-Ok.after = rw (c.as_slice-in-Ok.ensures, c.as_slice-in-Ok-2.ensures, is) at c.in_ok-after-in-Ok.ensures in
    record {
      answers = answers;
      left_is = c.in_ok-left-in-Ok.ensures.left;
      moves = moves_from c.args.system.now c.args.job.now.liquid c.in-Ok.field-0.report c.in_ok-left-in-Ok.left before c.in_ok-after-in-Ok.after refl keeps answers.holds c.in_ok-left-in-Ok.ensures.left moved;
    }

pub returns-in_ok-after-in-Ok-clause-next : goal.returns-in_ok-after-in-Ok-clause-next
returns-in_ok-after-in-Ok-clause-next c =
    let is : c.in_ok-ordered.ordered ≡ account_in_order c.args.account.now c.args.system.now.elements = search rules in
    let before : Account = account_in_order c.args.account.now c.args.system.now.elements in
    let keeps : IsAccount before = ordered c.args.account.now c.args.system.now.elements c.requires.can.account_is c.requires.system.elements c.requires.system.few_elements in
    let answers = rw (c.as_slice-2.ensures, is) at c.in-Ok.ensures.answers in
    let moved : IsMoved before c.in-Ok.field-0.report.totals c.in_ok-left-in-Ok.left c.in_ok-after-in-Ok.after = rw (c.as_slice-in-Ok.ensures, c.as_slice-in-Ok-2.ensures, is) at c.in_ok-after-in-Ok.ensures in
    let facts = answered c.args.system.now before c.args.job.now.gap c.args.job.now.budget c.in-Ok.field-0.report refl keeps answers in
    let each : length c.in_ok-left-in-Ok.left ≡ length before.names = c.in_ok-left-in-Ok.ensures.left.one_each ∙ ap length answers.holds.same_elements in
    record {
      left_each = each ∙ sym (ap length moved.same_names);
      left_high = λ k. let l = (c.in_ok-left-in-Ok.ensures.within k).1 in let t = facts.high k in omega (arith, ints, l, t);
      account_is = moved_on before c.in_ok-after-in-Ok.after c.in-Ok.field-0.report.totals c.in_ok-left-in-Ok.left keeps each facts.within c.in_ok-left-in-Ok.ensures.within moved;
      same_elements = λ name. rw moved.same_names (c.requires.same_elements name);
    }

pub returns-in-Err-clause-fault : goal.returns-in-Err-clause-fault
returns-in-Err-clause-fault c =
    let is : c.in_ok-ordered.ordered ≡ account_in_order c.args.account.now c.args.system.now.elements = search rules in
    rw (c.as_slice-2.ensures, is) at c.in-Err.ensures.fault
