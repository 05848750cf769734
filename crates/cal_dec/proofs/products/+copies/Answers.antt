use Rattle.std.proofs.Common.{◌≡◌, ◌≢◌, ℕ, zero, suc, ◌+◌, ◌-◌, ◌≤◌, ◌<◌, ◌^◌, ap, sym, ◌∙◌, refl, arith}
use Rattle.std.specs.Prelude.{ℤ, pos, negsuc, ◌+ℤ◌, ◌*ℤ◌, unsigned_abs}
use Rattle.std.proofs.lemmas.Int.{ints, unsigned_abs-mul}
use Rattle.std.proofs.lemmas.Nat.{mul-le, mul-lt}
use Rattle.cal_dec.specs.Decimals.{Decimal, decimal_of, trimmed}
use Rattle.cal_dec.specs.Products.{product, product_of_copies}
use Rattle.cal_dec.specs.Trimming.{trimmed_not_zero, trimmed_exponent}
use Rattle.cal_dec.proofs.products.+copies.Goals as goal

none : (b : Decimal) (n : ℕ) → n ≡ 0 → record { mantissa = pos 1; exponent = pos 0 } ≡ product_of_copies b n
unfolding product_of_copies
none b n e = rw e refl

more : (b d : Decimal) (n : ℕ) → n ≢ 0 → d ≡ product_of_copies b (n - 1) → product d b ≡ product_of_copies b n
unfolding product_of_copies
more b d zero h e = absurd (h refl)
more b d (suc n) h e = ap (λ d. product d b) (e ∙ ap (product_of_copies b) (before n))
  where
    before : (n : ℕ) → suc n - 1 ≡ n
    before n = omega arith

not_zero : (z : ℤ) → unsigned_abs z ≡ 0 → z ≡ pos 0
not_zero (pos n) e = ap pos e
not_zero (negsuc n) e = absurd (omega (arith, e))

above : (z : ℤ) → z ≢ pos 0 → 1 ≤ unsigned_abs z
above (pos zero) h = absurd (h refl)
above (pos (suc n)) h = omega arith
above (negsuc n) h = omega arith

product_not_zero : (a b e : ℤ) → a ≢ pos 0 → b ≢ pos 0 → unsigned_abs a < 10 ^ 18 → unsigned_abs b < 10 ^ 18 → (trimmed (a *ℤ b) e).mantissa ≢ pos 0
product_not_zero a b e ha hb sa sb =
    trimmed_not_zero (a *ℤ b) e
    (omega (arith, unsigned_abs-mul a b, mul-lt (unsigned_abs a) (unsigned_abs b) (10 ^ 18) (10 ^ 18) sa sb))
    (λ z. absurd (omega (arith, unsigned_abs-mul a b, ap unsigned_abs z, mul-le 1 1 (unsigned_abs a) (unsigned_abs b) (above a ha) (above b hb))))

product_exponent : (a b e : ℤ) → unsigned_abs a < 10 ^ 18 → unsigned_abs b < 10 ^ 18 → unsigned_abs (trimmed (a *ℤ b) e).exponent ≤ unsigned_abs e + 18
product_exponent a b e sa sb =
    let small : unsigned_abs (a *ℤ b) < 10 ^ 36 = omega (arith, unsigned_abs-mul a b, mul-lt (unsigned_abs a) (unsigned_abs b) (10 ^ 18) (10 ^ 18) sa sb) in
    trimmed_exponent (a *ℤ b) e 18 small (omega arith)

sum_of : (x y : ℤ) → unsigned_abs (x +ℤ y) ≤ unsigned_abs x + unsigned_abs y
sum_of x y = omega (arith, ints)

pub returns-then-count-eq0-clause-product : goal.returns-then-count-eq0-clause-product
returns-then-count-eq0-clause-product t c = none (decimal_of c.args.base) c.args.count c.if-count-eq0.true

pub returns-clause-product : goal.returns-clause-product
returns-clause-product t c = c.mul.ensures ∙ more (decimal_of c.args.base) (decimal_of c.copies.result) c.args.count c.if-count-eq0.false c.copies.ensures.product

pub returns-clause-not_zero : goal.returns-clause-not_zero
returns-clause-not_zero t c = λ z.
    product_not_zero c.copies.result.mantissa c.args.base.mantissa (c.copies.result.exponent +ℤ c.args.base.exponent) c.copies.ensures.not_zero c.requires.not_zero c.copies.result.bounded c.args.base.bounded (sym (ap (λ (d : Decimal). d.mantissa) c.mul.ensures) ∙ z)

pub returns-clause-exponent : goal.returns-clause-exponent
returns-clause-exponent t c =
    let is = ap (λ (d : Decimal). unsigned_abs d.exponent) c.mul.ensures in
    let bound = product_exponent c.copies.result.mantissa c.args.base.mantissa (c.copies.result.exponent +ℤ c.args.base.exponent) c.copies.result.bounded c.args.base.bounded in
    let sum = sum_of c.copies.result.exponent c.args.base.exponent in
    omega arith
