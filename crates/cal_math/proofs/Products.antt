-- Products of whole numbers by numbers above 0 and by 0.
use Rattle.std.proofs.Common.{◌≡◌, zero, suc, refl, arith, inl, inr}
use Rattle.std.specs.Prelude.{ℤ, pos, negsuc, ◌⊎◌, ◌-ℤ◌, ◌*ℤ◌, ◌≤ℤ◌}
use Rattle.std.proofs.lemmas.Int.{ints}
use Rattle.cal_math.specs.Whole.{*ℤ--ℤ, *ℤ-≤}

pub times_zero : (a : ℤ) → a *ℤ pos 0 ≡ pos 0
times_zero a = omega (arith, ints)

pub zero_times : (a : ℤ) → pos 0 *ℤ a ≡ pos 0
zero_times a = omega (arith, ints)

pub zero_from_product : (a b : ℤ) → pos 1 ≤ℤ a → a *ℤ b ≡ pos 0 → b ≡ pos 0
zero_from_product a (pos zero) h e = refl
zero_from_product a (pos (suc n)) h e = absurd (omega (arith, ints, *ℤ-≤ a (pos 1) (pos (suc n)) (omega (arith, ints)) (omega (arith, ints))))
zero_from_product a (negsuc n) h e = absurd (omega (arith, ints, *ℤ-≤ a (negsuc n) (negsuc 0) (omega (arith, ints)) (omega (arith, ints))))

pub one-le-*ℤ : (a b : ℤ) → pos 1 ≤ℤ a → pos 1 ≤ℤ b → pos 1 ≤ℤ (a *ℤ b)
one-le-*ℤ a b h k = omega (arith, ints, *ℤ-≤ a (pos 1) b (omega (arith, ints)) k)

pub one_from_product : (a b : ℤ) → pos 1 ≤ℤ a → pos 1 ≤ℤ (a *ℤ b) → pos 1 ≤ℤ b
one_from_product a (pos zero) h k = absurd (omega (arith, ints))
one_from_product a (pos (suc n)) h k = omega (arith, ints)
one_from_product a (negsuc n) h k = absurd (omega (arith, ints, *ℤ-≤ a (negsuc n) (negsuc 0) (omega (arith, ints)) (omega (arith, ints))))

pub same_from_product : (a b c : ℤ) → pos 1 ≤ℤ a → a *ℤ b ≡ a *ℤ c → b ≡ c
same_from_product a b c h e =
    let z : b -ℤ c ≡ pos 0 = zero_from_product a (b -ℤ c) h (omega (arith, ints, *ℤ--ℤ a b c)) in omega (arith, ints)

pub least-*ℤ : (a b : ℤ) → pos 0 ≤ℤ a → pos 0 ≤ℤ b → pos 0 ≤ℤ (a *ℤ b)
least-*ℤ a b h k = omega (arith, ints, *ℤ-≤ a (pos 0) b h k, times_zero a)

pub least_from_product : (a b : ℤ) → pos 1 ≤ℤ a → pos 0 ≤ℤ (a *ℤ b) → pos 0 ≤ℤ b
least_from_product a b h k =
    elim (sign b) [
      | inl some ↦ some
      | inr less ↦ absurd (omega (arith, ints, k, *ℤ--ℤ a (pos 0) b, times_zero a, one-le-*ℤ a (pos 0 -ℤ b) h less))
    ]
  where
    sign : (b : ℤ) → (pos 0 ≤ℤ b) ⊎ (pos 1 ≤ℤ (pos 0 -ℤ b))
    sign (pos n) = inl (omega (arith, ints))
    sign (negsuc n) = inr (omega (arith, ints))
