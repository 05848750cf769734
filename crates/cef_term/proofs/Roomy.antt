-- Room for the powers and the signs of code.
use Rattle.std.proofs.Common.{◌≡◌, ℕ, suc, ◌+◌, ◌*◌, ◌^◌, ◌<◌, ◌≤◌, arith, refl, ap, sym, ◌∙◌}
use Rattle.std.specs.Prelude.{ℤ, pos, negsuc, ◌*ℤ◌, ◌≤ℤ◌, ◌<ℤ◌, unsigned_abs}
use Rattle.std.proofs.lemmas.Int.{ints, to_z-of_z, unsigned_abs-mul}
use Rattle.std.proofs.Math.Nat.{pow-suc, pow-le-pow_right}
use Rattle.cal_math.specs.Whole.{abs-*ℤ-le}
use Rattle.cef_term.proofs.Sizes.{power_size}
use Rattle.cef_core.specs.Parameters.{power}
use Rattle.cef_term.specs.Bounds.{value_of, low_of, high_of}
use Rattle.cef_term.specs.Kept.{IsRoomy}

pub step_room : (x : ℤ) (v i : ℕ) → IsRoomy x v → i < v → unsigned_abs (x *ℤ power x i) ≤ 2 ^ 62
step_room x v i roomy lt =
    let a : unsigned_abs (x *ℤ power x i) ≤ roomy.most * roomy.most ^ i = abs-*ℤ-le x (power x i) roomy.most (roomy.most ^ i) roomy.small (power_size x roomy.most i roomy.small) in
    let b : roomy.most ^ suc i ≤ roomy.most ^ v = pow-le-pow_right {n = roomy.most} roomy.some {i = suc i} {j = v} (omega arith) in
    omega (arith, pow-suc roomy.most i, roomy.room)

pub power_more : (x : ℤ) (i : ℕ) → x *ℤ power x i ≡ power x (i + 1)
power_more x i = let e : i + 1 ≡ suc i = omega arith in next x i ∙ ap (λ (k : ℕ). power x k) (sym e)
  where
    next : (x : ℤ) (i : ℕ) → x *ℤ power x i ≡ power x (suc i)
    next x i = refl

pub low_of-below : (micro : ℤ) (den : ℕ) (least greatest : ℤ) → micro <ℤ pos 0 → value_of micro den greatest ≡ low_of micro den least greatest
unfolding low_of
low_of-below (negsuc m) den least greatest h = refl
low_of-below (pos m) den least greatest h = absurd (omega (arith, ints))

pub low_of-above : (micro : ℤ) (den : ℕ) (least greatest : ℤ) → pos 0 ≤ℤ micro → value_of micro den least ≡ low_of micro den least greatest
unfolding low_of
low_of-above (pos m) den least greatest h = refl
low_of-above (negsuc m) den least greatest h = absurd (omega (arith, ints))

pub high_of-below : (micro : ℤ) (den : ℕ) (least greatest : ℤ) → micro <ℤ pos 0 → value_of micro den least ≡ high_of micro den least greatest
unfolding high_of
high_of-below (negsuc m) den least greatest h = refl
high_of-below (pos m) den least greatest h = absurd (omega (arith, ints))

pub high_of-above : (micro : ℤ) (den : ℕ) (least greatest : ℤ) → pos 0 ≤ℤ micro → value_of micro den greatest ≡ high_of micro den least greatest
unfolding high_of
high_of-above (pos m) den least greatest h = refl
high_of-above (negsuc m) den least greatest h = absurd (omega (arith, ints))

pub times_room : (k : ℕ) (d : ℤ) → k * unsigned_abs d ≤ 2 ^ 126 → unsigned_abs (pos k *ℤ d) ≤ 2 ^ 126
times_room k d h = rw (unsigned_abs-mul (pos k) d) h

pub ruleset times_rules = (times_room, to_z-of_z)
