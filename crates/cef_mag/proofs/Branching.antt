-- Which branch of magnetism is taken.
use Rattle.std.proofs.Common.{◌≡◌, ℕ, zero, suc, arith, refl}
use Rattle.std.specs.Prelude.{ℤ, pos}
use Rattle.std.specs.Int.{int_min, int_max}
use Rattle.std.proofs.lemmas.Int.{ints, clamps, to_z-of_z}
use Rattle.cef_core.specs.Magnetism.{g_at, energy_of_g}
use Rattle.cef_mag.specs.Ranges.{u_of, u_above, least_above, greatest_above}
use Rattle.cef_mag.specs.Bounds.{g_at-below, g_at-above, at_some, least_u-above, least_u-below, least_u-across, greatest_u-above, greatest_u-below, greatest_u-across}

pub ruleset g_rules = (g_at-below, g_at-above, to_z-of_z)

pub at_zero : (t theta p4 : ℕ) → theta ≡ 0 → energy_of_g t theta p4 ≡ pos 0
at_zero t zero p4 e = refl
at_zero t (suc k) p4 e = absurd (omega arith)

pub at_other : (t theta p4 : ℕ) → (theta ≡ 0 → ⊥) → energy_of_g t theta p4 ≡ u_of t (g_at t theta p4)
at_other t zero p4 h = absurd (h refl)
at_other t (suc k) p4 h = at_some t (suc k) p4 (omega arith)

pub ruleset energy_rules = (at_zero, at_other, to_z-of_z)

pub ruleset least_rules = (least_u-above, least_u-below, least_u-across, to_z-of_z)

pub ruleset greatest_rules = (greatest_u-above, greatest_u-below, greatest_u-across, to_z-of_z)

pub least_at_zero : (t p4 from to : ℕ) → to ≡ 0 → least_above t p4 from to ≡ pos 0
least_at_zero t p4 from zero e = refl
least_at_zero t p4 from (suc to) e = absurd (omega arith)

pub least_from_zero : (t p4 from to : ℕ) → from ≡ 0 → (to ≡ 0 → ⊥) → least_above t p4 from to ≡ int_min (u_above t p4 to) (pos 0)
least_from_zero t p4 from zero e h = absurd (h refl)
least_from_zero t p4 zero (suc to) e h = turned (u_above t p4 (suc to))
  where
    turned : (u : ℤ) → int_min (pos 0) u ≡ int_min u (pos 0)
    turned u = omega (arith, ints, clamps)
least_from_zero t p4 (suc from) (suc to) e h = absurd (omega arith)

pub least_from_some : (t p4 from to : ℕ) → (from ≡ 0 → ⊥) → (to ≡ 0 → ⊥) → least_above t p4 from to ≡ u_above t p4 to
least_from_some t p4 from zero e h = absurd (h refl)
least_from_some t p4 zero (suc to) e h = absurd (e refl)
least_from_some t p4 (suc from) (suc to) e h = refl

pub greatest_at_zero : (t p4 from to : ℕ) → to ≡ 0 → greatest_above t p4 from to ≡ pos 0
greatest_at_zero t p4 from zero e = refl
greatest_at_zero t p4 from (suc to) e = absurd (omega arith)

pub greatest_from_zero : (t p4 from to : ℕ) → from ≡ 0 → (to ≡ 0 → ⊥) → greatest_above t p4 from to ≡ int_max (u_above t p4 1) (pos 0)
greatest_from_zero t p4 from zero e h = absurd (h refl)
greatest_from_zero t p4 zero (suc to) e h = turned (u_above t p4 1)
  where
    turned : (u : ℤ) → int_max (pos 0) u ≡ int_max u (pos 0)
    turned u = omega (arith, ints, clamps)
greatest_from_zero t p4 (suc from) (suc to) e h = absurd (omega arith)

pub greatest_from_some : (t p4 from to : ℕ) → (from ≡ 0 → ⊥) → (to ≡ 0 → ⊥) → greatest_above t p4 from to ≡ u_above t p4 from
greatest_from_some t p4 from zero e h = absurd (h refl)
greatest_from_some t p4 zero (suc to) e h = absurd (e refl)
greatest_from_some t p4 (suc from) (suc to) e h = refl

pub ruleset above_rules = (least_at_zero, least_from_zero, least_from_some, greatest_at_zero, greatest_from_zero, greatest_from_some, to_z-of_z)
