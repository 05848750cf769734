use Rattle.std.proofs.Common.{◌≡◌, ℕ, ◌+◌, ◌-◌, ◌≤◌, [], arith, ap, ◌∙◌, refl}
use Rattle.std.proofs.lemmas.Grind.{common_steps}
use Rattle.cal_math.specs.Logarithm.{log_of, log_step}
use Rattle.cal_log.specs.Laws.{log_of-le, log_of-step, log_of-600000}
use Rattle.cal_log.specs.Table.{IsTable-push}
use Rattle.cal_log.proofs.logs.Logs.build.Goals as goal

next_sum : (i sum step : ℕ) → 2 ≤ i → sum ≡ log_of (i - 1) → step ≡ log_step i → sum + step ≡ log_of (i + 1 - 1)
next_sum i sum step two h e =
    omega (arith, h, e, log_of-step (i - 2), ap log_of (before i two), ap log_of (this i two), ap log_of (after i two), ap log_step (this i two))
  where
    before : (i : ℕ) → 2 ≤ i → i - 2 + 1 ≡ i - 1
    before i two = omega arith

    this : (i : ℕ) → 2 ≤ i → i - 2 + 2 ≡ i
    this i two = omega arith

    after : (i : ℕ) → 2 ≤ i → i ≡ i + 1 - 1
    after i two = omega arith

place : (i n : ℕ) → 2 ≤ i → n + 1 ≡ i → i + 1 - 1 ≡ n + 1
place i n two h = omega arith

log_of-1 : 0 ≡ log_of 1
unfolding log_of
log_of-1 = refl

pub loop-i-init : goal.loop-i-init
loop-i-init c = record {
  count = grind (arith, common_steps);
  last = log_of-1;
  table =
      let start : c.in_ok-entries.entries.items ≡ [] = c.in_ok-entries.ensures.items in
      rw (c.in_ok-push.ensures.items, start) (IsTable-push [] 0 (λ k within. absurd (omega arith)) log_of-1);
}

pub overflow_add-sum : goal.overflow_add-sum
overflow_add-sum c =
    let next = next_sum c.loop-i.i c.loop-i.sum c.log_ratio-sum.result (omega arith) c.loop-i.invariant.last c.log_ratio-sum.ensures in
    omega (arith, log_of-le (c.loop-i.i + 1 - 1) 600000 (omega arith), log_of-600000)

pub loop-i-preserved : goal.loop-i-preserved
loop-i-preserved c =
    let next = next_sum c.loop-i.i c.loop-i.sum c.log_ratio-sum.result (omega arith) c.loop-i.invariant.last c.log_ratio-sum.ensures in
    record {
      count = grind (arith, common_steps);
      last = next;
      table = rw c.in_ok-push-2.ensures.items (IsTable-push _ _ c.loop-i.invariant.table (next ∙ ap log_of (place c.loop-i.i _ (omega arith) c.loop-i.invariant.count)));
    }
