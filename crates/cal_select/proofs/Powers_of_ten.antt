-- powers of ten, as loops multiply and divide by ten
use Rattle.std.proofs.Common.{◌≡◌, ℕ, ◌+◌, ◌*◌, ◌-◌, ◌/◌, ◌%◌, ◌^◌, ◌<◌, min, Some, None, true, false, refl, ap, sym, ◌∙◌, arith, mul_assoc}
use Rattle.std.specs.Prelude.{◌==◌, if◌then◌else◌}
use Rattle.std.proofs.Math.Nat.{mul-div_cancel, mul-mod_left, pow-zero}
use Rattle.std.proofs.lemmas.Nat.{pow-add}
use Rattle.std.proofs.lemmas.Grind.{pow_more}
use Rattle.std.proofs.lemmas.Bool.Decides.{nat_tests}
use Rattle.cal_dec.specs.Tens.{ten-pow-pos}

-- one more digit, capped
capped_more : (cap a : ℕ) → min cap (min cap a * 10) ≡ min cap (a * 10)
capped_more cap a = omega arith

pub raised-on : (cap m i value next : ℕ) → value ≡ min cap (m * 10 ^ i) → next ≡ min cap (value * 10) → next ≡ min cap (m * 10 ^ (i + 1))
raised-on cap m i value next is next_is =
    let e : m * 10 ^ (i + 1) ≡ m * 10 ^ i * 10 = rw (pow_more 10 i) (sym (mul_assoc m (10 ^ i) 10)) in
    next_is ∙ rw (is, e) (capped_more cap (m * 10 ^ i))

times_one : (m : ℕ) → m ≡ m * 10 ^ 0
times_one m = rw (pow-zero 10) (omega arith)

pub raised-start : (cap m value : ℕ) → value ≡ min cap m → value ≡ min cap (m * 10 ^ 0)
raised-start cap m value is = is ∙ ap (min cap) (times_one m)

shuffled : (a b : ℕ) → a * (b * 10) ≡ 10 * a * b
shuffled a b = grind arith

-- one digit less
pub lowered-on : (m value i : ℕ) → m ≡ value * 10 ^ i → value % 10 ≡ 0 → m ≡ value / 10 * 10 ^ (i + 1)
lowered-on m value i is whole =
    let e : 10 * (value / 10) ≡ value = omega arith in
    let f : value / 10 * 10 ^ (i + 1) ≡ 10 * (value / 10) * 10 ^ i = rw (pow_more 10 i) (shuffled (value / 10) (10 ^ i)) in
    is ∙ sym (f ∙ ap (λ (n : ℕ). n * 10 ^ i) e)

pub lowered-start : (m : ℕ) → m ≡ m * 10 ^ 0
lowered-start m = times_one m

equal_test : (a b : ℕ) → a ≡ b → (a == b) ≡ true
equal_test a b e = grind (arith, nat_tests)

unequal_test : (a b : ℕ) → (a ≡ b → ⊥) → (a == b) ≡ false
unequal_test a b e = grind (arith, nat_tests)

pub lowered-all : (m value times i : ℕ) → times ≡ i → m ≡ value * 10 ^ i → Some value ≡ (if m % 10 ^ times == 0 then Some (m / 10 ^ times) else None)
lowered-all m value times i all is =
    let whole : m % 10 ^ times ≡ 0 = rw (is, all) (mul-mod_left value (10 ^ i)) in
    let quotient : m / 10 ^ times ≡ value = rw (is, all) (mul-div_cancel value (ten-pow-pos i)) in
    rw (equal_test (m % 10 ^ times) 0 whole, quotient) refl

reordered : (a b c : ℕ) → a * (b * 10) * c ≡ b * c * 10 * a
reordered a b c = grind arith

-- what would be left over
cancelled : (a b p : ℕ) → 0 < p → a * p ≡ b * p → a ≡ b
cancelled a b p pos_p e = sym (mul-div_cancel a pos_p) ∙ ap (λ (n : ℕ). n / p) e ∙ mul-div_cancel b pos_p

pub lowered-none : (m value times i : ℕ) → i < times → m ≡ value * 10 ^ i → (value % 10 ≡ 0 → ⊥) → None ≡ (if m % 10 ^ times == 0 then Some (m / 10 ^ times) else None)
lowered-none m value times i more is left = rw (unequal_test (m % 10 ^ times) 0 never) refl
  where
    never : m % 10 ^ times ≡ 0 → ⊥
    never whole =
        let k = times - (i + 1) in
        let q = m / 10 ^ times in
        let split : times ≡ i + (k + 1) = omega (arith, more) in
        let p : 10 ^ times ≡ 10 ^ i * (10 ^ k * 10) = ap (λ (n : ℕ). 10 ^ n) split ∙ pow-add 10 i (k + 1) ∙ ap (λ (n : ℕ). 10 ^ i * n) (pow_more 10 k) in
        let m_is : 10 ^ times * q ≡ m = omega (arith, whole, ten-pow-pos times) in
        let v_is : value * 10 ^ i ≡ 10 ^ k * q * 10 * 10 ^ i = sym is ∙ sym m_is ∙ ap (λ (n : ℕ). n * q) p ∙ reordered (10 ^ i) (10 ^ k) q in
        let v : value ≡ 10 ^ k * q * 10 = cancelled value (10 ^ k * q * 10) (10 ^ i) (ten-pow-pos i) v_is in
        left (ap (λ (n : ℕ). n % 10) v ∙ mul-mod_left (10 ^ k * q) 10)

pub ruleset tens = (raised-on, raised-start, lowered-on, lowered-start, lowered-all, lowered-none)
