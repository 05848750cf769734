-- The differences of a table's energies, against a slope.
use Rattle.std.proofs.Common.{◌≡◌, ℕ, ◌+◌, ◌-◌, ◌*◌, ◌^◌, ◌<◌, ◌≤◌, List, [], ◌∷◌, ◌++◌, length, zero, suc, arith, inl, inr, subst, ap, refl}
use Rattle.std.specs.Prelude.{ℤ, pos, neg_ℤ, ◌-ℤ◌, ◌*ℤ◌, ◌≤ℤ◌, ◌<ℤ◌, unsigned_abs}
use Rattle.std.specs.Int.{int_div_euclid}
use Rattle.std.proofs.lemmas.Int.{ints, to_z-of_z}
use Rattle.std.proofs.lemmas.Nat.{mul-le}
use Rattle.std.proofs.lemmas.Bool.{cases_lt}
use Rattle.std.proofs.lemmas.Grind.{common_steps}
use Rattle.cal_limits.specs.declared.TheConstants.{MOST_ENERGY}
use Rattle.cal_math.specs.Whole.{floor-le, lt-floor}
use Rattle.cef_core.specs.Mixing.{mixing_at}
use Rattle.cef_mix.specs.Tables.{entry, AreEnergies, IsGreatestFall, IsNarrow}

-- ---- the greatest rise that a slope outweighs, cut to what rises can be

below_floor : (slope most rise : ℤ) → most ≡ int_div_euclid slope (pos 65536) → rise ≤ℤ most → (pos 65536 *ℤ rise) ≤ℤ slope
below_floor slope most rise e le = omega (arith, ints, e, le, floor-le slope (pos 65536) (omega (arith, ints)))

above_floor : (slope most rise : ℤ) → most ≡ int_div_euclid slope (pos 65536) → most <ℤ rise → slope ≤ℤ (pos 65536 *ℤ rise)
above_floor slope most rise e lt = omega (arith, ints, e, lt, lt-floor slope (pos 65536) (omega (arith, ints)))

pub fall_is : (slope most : ℤ) → most ≡ int_div_euclid slope (pos 65536) → IsGreatestFall slope most
fall_is slope most e = record { falls = λ rise h le. below_floor slope most rise e le; climbs = λ rise h lt. above_floor slope most rise e lt }

pub fall_low : (slope floor most : ℤ) → floor ≡ int_div_euclid slope (pos 65536) → floor <ℤ most → most ≡ neg_ℤ (pos (2 ^ 57)) → IsGreatestFall slope most
fall_low slope floor most e lt low = record {
  falls = λ rise h le. absurd (omega (arith, ints, low, h, le));
  climbs = λ rise h more. above_floor slope floor rise e (omega (arith, ints, lt, more));
}

pub fall_high : (slope floor most : ℤ) → floor ≡ int_div_euclid slope (pos 65536) → most <ℤ floor → most ≡ pos (2 ^ 57) → IsGreatestFall slope most
fall_high slope floor most e lt high = record {
  falls = λ rise h le. below_floor slope floor rise e (omega (arith, ints, lt, le));
  climbs = λ rise h more. absurd (omega (arith, ints, high, h, more));
}

-- ---- one difference after another

pub rises-more : (energies rises : List ℤ) (k : ℕ) (x : ℤ) → length rises ≡ k → ((j : ℕ) → j < k → entry rises j ≡ entry energies (j + 1) -ℤ entry energies j) → x ≡ entry energies (k + 1) -ℤ entry energies k → (j : ℕ) → j < k + 1 → entry (rises ++ x ∷ []) j ≡ entry energies (j + 1) -ℤ entry energies j
rises-more energies rises k x e are here = λ j lt.
    elim (cases_lt j k) [
      | inl before ↦ grind (arith, common_steps, are j before)
      | inr top ↦ let same : j ≡ k = omega arith in rw same (grind (arith, common_steps, here))
    ]

pub rises_small-more : (rises : List ℤ) (x : ℤ) → ((j : ℕ) → unsigned_abs (entry rises j) ≤ 2 * MOST_ENERGY) → unsigned_abs x ≤ 2 * MOST_ENERGY → (j : ℕ) → unsigned_abs (entry (rises ++ x ∷ []) j) ≤ 2 * MOST_ENERGY
rises_small-more [] x are here zero = here
rises_small-more [] x are here (suc j) = omega arith
rises_small-more (y ∷ rises) x are here zero = are zero
rises_small-more (y ∷ rises) x are here (suc j) = rises_small-more rises x (λ i. are (suc i)) here j

pub ruleset falls = (fall_is, fall_low, fall_high, to_z-of_z)

-- from one count to another
pub rise_between : (t n a : ℕ) (energies : List ℤ) (low high : ℕ) (x : ℤ) → AreEnergies t n a energies → low ≤ n → high ≤ n → x ≡ entry energies high -ℤ entry energies low → x ≡ mixing_at t n a high -ℤ mixing_at t n a low
rise_between t n a energies low high x are l h e = rw (e, are.entries low l, are.entries high h) refl

pub narrow_below : (t n a s x : ℕ) → IsNarrow t n a s → x ≤ s → IsNarrow t n a x
narrow_below t n a s x most le = record { alone = omega (arith, most.alone, le); share = omega (arith, most.share, mul-le x n s n le (omega arith)); energies = most.energies }

pub ruleset between = (rise_between, to_z-of_z)
