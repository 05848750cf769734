use Rattle.std.proofs.Common.{ℕ, ◌+◌, ◌-◌, ◌*◌, ◌/◌, ◌%◌, ◌≤◌, ◌≡◌, arith, refl}
use Rattle.std.proofs.lemmas.Nat.{mul-le}
use Rattle.std.proofs.lemmas.Int.{to_z_pos}
use Rattle.std.specs.Int.{w128}
use Rattle.cal_math.specs.Logarithm.{log_of, log_between}
use Rattle.cal_log.specs.Laws.{log_of-le, log_of-rise}
use Rattle.cal_log.proofs.logs.Logs.between.Goals as goal

pub overflow_sub-rise : goal.overflow_sub-rise
overflow_sub-rise c = omega (arith, log_of-le (1000 + c.args.micro / 1000) (1000 + c.args.micro / 1000 + 1) (omega arith))

pub overflow_sub-result : goal.overflow_sub-result
overflow_sub-result c = omega (arith, log_of-le 1000 (1000 + c.args.micro / 1000) (omega arith))

product_of : (low high part : ℕ) → high ≤ low + 1000000000000000 → part ≤ 999 → (high - low) * part ≤ 1000000000000000 * 999
product_of low high part h k = mul-le (high - low) part 1000000000000000 999 (omega arith) k

product_small : (micro low high : ℕ) → low ≡ log_of (1000 + micro / 1000) → high ≡ log_of (1000 + micro / 1000 + 1) → (high - low) * (micro % 1000) ≤ 1000000000000000 * 999
product_small micro low high l h = product_of low high (micro % 1000) (omega (arith, log_of-rise (1000 + micro / 1000) (omega arith))) (omega arith)

pub overflow_mul-result : goal.overflow_mul-result
overflow_mul-result c = omega (arith, product_small _ _ _ c.entry-low.ensures c.entry.ensures)

at_next : (q : ℕ) → 1000 + q + 1 ≡ 1001 + q
at_next q = omega arith

value : (micro low base high : ℕ) → low ≡ log_of (1000 + micro / 1000) → base ≡ log_of 1000 → high ≡ log_of (1000 + micro / 1000 + 1) → low - base + (high - low) * (micro % 1000) / 1000 ≡ log_between micro
unfolding log_between
value micro low base high l b h = rw (l, b, h, at_next (micro / 1000)) refl

pub returns : goal.returns
returns c =
    let is = value c.args.micro _ _ _ c.entry-low.ensures c.entry-2.ensures c.entry.ensures in
    let small = product_small _ _ _ c.entry-low.ensures c.entry.ensures in
    rw is (to_z_pos w128 (log_between c.args.micro) (omega (arith, is, small)))
