-- The ends of powers as code finds them.
use Rattle.std.proofs.Common.{◌≡◌, ℕ, zero, suc, ◌+◌, ◌*◌, ◌^◌, ◌%◌, ◌/◌, ◌<◌, ◌≤◌, arith, refl, ap, sym, ◌∙◌}
use Rattle.std.specs.Prelude.{ℤ, pos, negsuc, ◌≤ℤ◌, ◌<ℤ◌, unsigned_abs, min, max}
use Rattle.std.specs.Int.{int_min, int_max}
use Rattle.std.proofs.lemmas.Int.{ints, clamps, to_z-of_z}
use Rattle.cef_term.proofs.Powers.{power_even}
use Rattle.cef_core.specs.Parameters.{power}
use Rattle.cef_term.specs.Bounds.{least_even, greatest_even, least_by, greatest_by, least_power, greatest_power}

min_pos : (a b : ℕ) → int_min (pos a) (pos b) ≡ pos (min a b)
min_pos a b = omega (arith, ints, clamps)

max_pos : (a b : ℕ) → int_max (pos a) (pos b) ≡ pos (max a b)
max_pos a b = omega (arith, ints, clamps)

by_even : (r : ℕ) (low high : ℤ) (v : ℕ) → r ≡ 0 → (least_by r low high v ≡ pos (least_even low high v)) × (greatest_by r low high v ≡ pos (greatest_even low high v))
unfolding least_by greatest_by
by_even zero low high v e = (refl, refl)
by_even (suc r) low high v e = absurd (omega arith)

by_odd : (r : ℕ) (low high : ℤ) (v : ℕ) → r ≡ 1 → (least_by r low high v ≡ power low v) × (greatest_by r low high v ≡ power high v)
unfolding least_by greatest_by
by_odd zero low high v e = absurd (omega arith)
by_odd (suc r) low high v e = (refl, refl)

pub least_power-zero : (low high : ℤ) (v : ℕ) → v ≡ 0 → pos 1 ≡ least_power low high v
unfolding least_power
least_power-zero low high zero e = refl
least_power-zero low high (suc u) e = absurd (omega arith)

pub least_power-odd : (low high : ℤ) (v : ℕ) → v % 2 ≡ 1 → power low v ≡ least_power low high v
unfolding least_power
least_power-odd low high zero e = absurd (omega arith)
least_power-odd low high (suc u) e = sym (by_odd (suc u % 2) low high (suc u) e).0

least_is_even : (low high : ℤ) (v : ℕ) → 0 < v → v % 2 ≡ 0 → least_power low high v ≡ pos (least_even low high v)
unfolding least_power
least_is_even low high zero p e = absurd (omega arith)
least_is_even low high (suc u) p e = (by_even (suc u % 2) low high (suc u) e).0

even_min : (low high : ℤ) (v : ℕ) → v % 2 ≡ 0 → int_min (power low v) (power high v) ≡ pos (min (unsigned_abs low ^ v) (unsigned_abs high ^ v))
even_min low high v e = rw (power_even low (v / 2) v (omega arith), power_even high (v / 2) v (omega arith)) (min_pos _ _)

pub least_power-above : (low high : ℤ) (v : ℕ) → 0 < v → v % 2 ≡ 0 → pos 0 ≤ℤ low → int_min (power low v) (power high v) ≡ least_power low high v
unfolding least_even
least_power-above (pos a) high v p e h = even_min (pos a) high v e ∙ sym (least_is_even (pos a) high v p e)
least_power-above (negsuc a) high v p e h = absurd (omega (arith, ints))

pub least_power-under : (low high : ℤ) (v : ℕ) → 0 < v → v % 2 ≡ 0 → low <ℤ pos 0 → high <ℤ pos 0 → int_min (power low v) (power high v) ≡ least_power low high v
unfolding least_even
least_power-under (negsuc a) (negsuc b) v p e h k = even_min (negsuc a) (negsuc b) v e ∙ sym (least_is_even (negsuc a) (negsuc b) v p e)
least_power-under (pos a) high v p e h k = absurd (omega (arith, ints))
least_power-under (negsuc a) (pos b) v p e h k = absurd (omega (arith, ints))

pub least_power-across : (low high : ℤ) (v : ℕ) → 0 < v → v % 2 ≡ 0 → low <ℤ pos 0 → pos 0 ≤ℤ high → pos 0 ≡ least_power low high v
unfolding least_even
least_power-across (negsuc a) (pos b) v p e h k = sym (least_is_even (negsuc a) (pos b) v p e)
least_power-across (pos a) high v p e h k = absurd (omega (arith, ints))
least_power-across (negsuc a) (negsuc b) v p e h k = absurd (omega (arith, ints))

pub greatest_power-zero : (low high : ℤ) (v : ℕ) → v ≡ 0 → pos 1 ≡ greatest_power low high v
unfolding greatest_power
greatest_power-zero low high zero e = refl
greatest_power-zero low high (suc u) e = absurd (omega arith)

pub greatest_power-odd : (low high : ℤ) (v : ℕ) → v % 2 ≡ 1 → power high v ≡ greatest_power low high v
unfolding greatest_power
greatest_power-odd low high zero e = absurd (omega arith)
greatest_power-odd low high (suc u) e = sym (by_odd (suc u % 2) low high (suc u) e).1

pub greatest_power-even : (low high : ℤ) (v : ℕ) → 0 < v → v % 2 ≡ 0 → int_max (power low v) (power high v) ≡ greatest_power low high v
unfolding greatest_power greatest_even
greatest_power-even low high zero p e = absurd (omega arith)
greatest_power-even low high (suc u) p e = rw (power_even low (suc u / 2) (suc u) (omega arith), power_even high (suc u / 2) (suc u) (omega arith)) (max_pos _ _ ∙ sym (by_even (suc u % 2) low high (suc u) e).1)

pub ruleset least_power_rules = (least_power-zero, least_power-odd, least_power-above, least_power-under, least_power-across, to_z-of_z)

pub ruleset greatest_power_rules = (greatest_power-zero, greatest_power-odd, greatest_power-even, to_z-of_z)
