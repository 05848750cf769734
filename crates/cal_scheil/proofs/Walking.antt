-- A step keeps what holds of a walk.
use Rattle.std.proofs.Common.{◌≡◌, ℕ, ◌+◌, ◌*◌, ◌-◌, ◌^◌, ◌<◌, ◌≤◌, List, length, replicate, refl, sym, ap, ◌∙◌, subst, arith, Option, Some, None, inl, inr}
use Rattle.std.specs.Prelude.{ℤ, pos, ◌+ℤ◌, ◌-ℤ◌, ◌≤ℤ◌, ◌⊎◌}
use Rattle.std.proofs.lemmas.Int.{ints}
use Rattle.std.proofs.lemmas.Bool.{cases_lt}
use Rattle.std.proofs.lemmas.List.{length-replicate}
use Rattle.std.proofs.Math.Nat.{mul-le-mul_left}
use Rattle.cal_scan.specs.Lines.{Word}
use Rattle.cal_select.specs.Chosen.{is_in}
use Rattle.cef_core.specs.declared.job.Job.{Job}
use Rattle.cef_core.specs.Jobs.{IsJob}
use Rattle.cef_path.specs.declared.finish.Finish.{Finish}
use Rattle.cef_path.specs.declared.start.PathStart.{PathStart}
use Rattle.cef_path.specs.Finishing.{FinishIs, IsNone}
use Rattle.cal_scheil.specs.declared.account.Account.{Account}
use Rattle.cal_scheil.specs.declared.job.PathJob.{PathJob}
use Rattle.cal_scheil.specs.Accounts.{IsAccount}
use Rattle.cal_scheil.specs.Walks.{IsPathJob, job_at, path_job_at, start_of, WalkState, walk_of, IsWalk}
use Rattle.cal_scheil.specs.Workings.{CanStep, IsNext}
use Rattle.cal_scheil.proofs.Numbers.{not_none, asked_at, zeros_at}

few : (t floor descent k : ℕ) → 100 ≤ floor → t < floor + 10000 * descent → floor ≤ t - k * descent → k < 10000
few t floor descent k some limit above = elim (cases_lt k 10000) [
  | inl lt ↦ lt
  | inr ge ↦ let m = mul-le-mul_left descent ge in absurd (omega (arith, some, limit, above, m))
]

goes_on : (start : PathStart) (t : ℕ) (left : List ℤ) (finish : Option Finish) → FinishIs start t left finish → finish ≡ None → ¬ IsNone left × (start.floor ≤ t - start.descent)
goes_on start t left None is e = (is.0, elim (cases_lt t (start.floor + start.descent)) [ inl lt ↦ absurd (is.2 lt) | inr ge ↦ omega (arith, ge) ])
goes_on start t left (Some f) is e = absurd cc

-- a walk that goes on can make a step
pub can_step : (walk : WalkState) → IsWalk walk → walk.finish ≡ None → CanStep (path_job_at walk.job walk.t) walk.account
can_step walk is unfinished =
    let on = is.goes_on unfinished in
    let job : IsJob walk.job.job = is.asks.job_is in
    record {
      job_is = record {
        coldest = omega (arith, on.0, is.asks.floor_low);
        hottest = omega (arith, is.temperature, job.hottest);
        lattice = job.lattice;
        elements = job.elements;
        phases = job.phases;
      };
      gap_low = is.asks.gap_low;
      gap_high = is.asks.gap_high;
      same_elements = is.same_elements;
      account_is = is.account;
      some = on.2;
    }

-- the walk behind a step
pub walk_on : (before after : WalkState) (left : List ℤ) → IsWalk before → before.finish ≡ None → IsNext (path_job_at before.job before.t) after.account left
    → FinishIs (start_of before.job after.account.asked) before.t left after.finish → after.account.remains ≡ left
    → after.job ≡ before.job → after.t ≡ before.t - before.job.descent → after.steps ≡ before.steps + 1 → IsWalk after
walk_on before after left is unfinished next finish_is remains job lower one_more =
    let colder : after.t ≡ before.job.job.t - after.steps * before.job.descent = rw (lower, is.temperature, one_more) (omega arith) in
    record {
      asks = subst (λ (j : PathJob). IsPathJob j) (sym job) is.asks;
      temperature = rw job colder;
      few_steps = let g = (is.goes_on unfinished).1 in omega (arith, g, one_more);
      goes_on = λ none.
          let g = goes_on (start_of before.job after.account.asked) before.t left after.finish finish_is none in
          let above : before.job.floor ≤ after.t = rw lower g.1 in
          (rw job above, few before.job.job.t before.job.floor before.job.descent after.steps is.asks.floor_low is.asks.few_steps (rw (← colder) above), rw remains g.0);
      same_elements = λ name. next.same_elements name ∙ ap (λ (j : PathJob). is_in j.job.elements name) (sym job);
      account = next.account_is;
    }

-- a walk before its first step
pub begun : (job : PathJob) → IsPathJob job → IsWalk (walk_of job)
begun job is = record {
  asks = is;
  temperature = omega arith;
  few_steps = omega arith;
  goes_on = λ none. (is.floor_high, omega arith, λ nothing. not_none job.asked is.positive nothing);
  same_elements = λ name. refl;
  account = record {
    names = is.job_is.elements.0;
    few = is.job_is.elements.1;
    asked_each = is.one_each;
    solids_each = length-replicate (length job.asked) (pos 0) ∙ is.one_each;
    remains_each = is.one_each;
    lost_each = length-replicate (length job.asked) (pos 0) ∙ is.one_each;
    asked_high = λ c. (asked_at job.asked is.within c).1;
    solids_low = λ c. rw (zeros_at (length job.asked) c) (omega (arith, ints));
    remains_low = λ c. (asked_at job.asked is.within c).0;
    lost_low = λ c. rw (zeros_at (length job.asked) c) (omega (arith, ints));
    balanced = λ c. let z = zeros_at (length job.asked) c in omega (arith, ints, z);
  };
}
