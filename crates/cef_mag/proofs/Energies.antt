-- Room for the magnetic energy, and its parts.
use Rattle.std.proofs.Common.{◌≡◌, ℕ, ◌^◌, ◌≤◌, arith, lit≤, refl, subst, Some}
use Rattle.std.specs.Prelude.{ℤ, pos, negsuc, ◌*ℤ◌, ◌≤ℤ◌, ◌<ℤ◌, unsigned_abs}
use Rattle.std.proofs.lemmas.Int.{ints, to_z-of_z}
use Rattle.std.proofs.Math.Nat.{pow-le-pow_right}
use Rattle.cal_math.specs.Logarithm.{log_between}
use Rattle.cal_math.specs.Whole.{abs-*ℤ-le}
use Rattle.cef_core.specs.declared.phase.MagneticAt.{MagneticAt}
use Rattle.cef_core.specs.declared.phase.PhaseAt.{PhaseAt}
use Rattle.cef_core.specs.Magnetism.{energy_of_g}
use Rattle.cef_core.specs.Phases.{IsFine, IsMagnetic}
use Rattle.cef_mag.specs.Ranges.{moment_low, moment_high, least_u, greatest_u, with_logarithm, least_energy, greatest_energy}
use Rattle.cef_mag.specs.Laws.{magnetic_at-is}
use Rattle.cef_mag.specs.Sizes.{moment_size, moment_low-size, moment_high-size, moment_ordered, energy_of_g-size, least_u-size, greatest_u-size, logarithm_size}

pub scaled_logarithm_room : (scale moment : ℕ) → scale ≤ 100000 → moment ≤ 500000000 → unsigned_abs (pos scale *ℤ pos (log_between moment)) ≤ 980000000000000000000
scaled_logarithm_room scale moment h k = abs-*ℤ-le (pos scale) (pos (log_between moment)) 100000 9800000000000000 h (logarithm_size moment k)

pub product_room : (u l : ℤ) → unsigned_abs u ≤ 2 ^ 41 → unsigned_abs l ≤ 980000000000000000000 → unsigned_abs (u *ℤ l) ≤ 2 ^ 126
product_room u l h k = omega (arith, abs-*ℤ-le u l (2 ^ 41) 980000000000000000000 h k)

pub ruleset scaled_rules = (scaled_logarithm_room, to_z-of_z)

pub ruleset logarithm_rules = (product_room, ints, to_z-of_z)

-- every u has room
pub value_room : (t theta p4 : ℕ) → 100 ≤ t → t ≤ 600000 → 1000 ≤ p4 → p4 ≤ 10000 → theta ≤ 10000000000 → unsigned_abs (energy_of_g t theta p4) ≤ 2 ^ 41
value_room t theta p4 h k p q le = omega (arith, energy_of_g-size t theta p4 (omega arith) p q le)

pub least_room : (t p4 from to : ℕ) → 100 ≤ t → t ≤ 600000 → 1000 ≤ p4 → p4 ≤ 10000 → from ≤ to → to ≤ 10000000000 → unsigned_abs (least_u t p4 from to) ≤ 2 ^ 41
least_room t p4 from to h k p q le top = omega (arith, least_u-size t p4 from to (omega arith) p q le top)

pub greatest_room : (t p4 from to : ℕ) → 100 ≤ t → t ≤ 600000 → 1000 ≤ p4 → p4 ≤ 10000 → from ≤ to → to ≤ 10000000000 → unsigned_abs (greatest_u t p4 from to) ≤ 2 ^ 41
greatest_room t p4 from to h k p q le top = omega (arith, greatest_u-size t p4 from to (omega arith) p q le top)

-- a structure, and the limits of its sums
pub record HasRoom (t p4 factor : ℕ) (x1 x2 : ℤ) : Type 0 where
  pub coldest : 100 ≤ t
  pub hottest : t ≤ 600000
  pub least_p : 1000 ≤ p4
  pub greatest_p : p4 ≤ 10000
  pub factor_some : 1 ≤ factor
  pub low : unsigned_abs x1 ≤ 10000000000
  pub high : unsigned_abs x2 ≤ 10000000000

pub least_of_sums-room : (t p4 factor from to : ℕ) (x1 x2 u : ℤ) → u ≡ least_u t p4 from to → from ≡ moment_low factor x1 x2 → to ≡ moment_high factor x1 x2 → HasRoom t p4 factor x1 x2 → unsigned_abs u ≤ 2 ^ 41
least_of_sums-room t p4 factor from to x1 x2 u u_is from_is to_is room =
    rw (u_is, from_is, to_is) (least_room t p4 _ _ room.coldest room.hottest room.least_p room.greatest_p (moment_ordered factor x1 x2 room.factor_some) (moment_high-size factor x1 x2 10000000000 room.low room.high))

pub greatest_of_sums-room : (t p4 factor from to : ℕ) (x1 x2 u : ℤ) → u ≡ greatest_u t p4 from to → from ≡ moment_low factor x1 x2 → to ≡ moment_high factor x1 x2 → HasRoom t p4 factor x1 x2 → unsigned_abs u ≤ 2 ^ 41
greatest_of_sums-room t p4 factor from to x1 x2 u u_is from_is to_is room =
    rw (u_is, from_is, to_is) (greatest_room t p4 _ _ room.coldest room.hottest room.least_p room.greatest_p (moment_ordered factor x1 x2 room.factor_some) (moment_high-size factor x1 x2 10000000000 room.low room.high))

pub ruleset value_rules = (moment_size, value_room, magnetic_at-is, to_z-of_z)

-- the least and the greatest energy by the sign of u
pub least_at_least_0 : (scale from to : ℕ) (u : ℤ) → pos 0 ≤ℤ u → least_energy scale from to u ≡ with_logarithm scale from u
least_at_least_0 scale from to (pos n) h = refl
least_at_least_0 scale from to (negsuc n) h = absurd (omega (arith, ints))

pub least_below_0 : (scale from to : ℕ) (u : ℤ) → u <ℤ pos 0 → least_energy scale from to u ≡ with_logarithm scale to u
least_below_0 scale from to (pos n) h = absurd (omega (arith, ints))
least_below_0 scale from to (negsuc n) h = refl

pub greatest_at_least_0 : (scale from to : ℕ) (u : ℤ) → pos 0 ≤ℤ u → greatest_energy scale from to u ≡ with_logarithm scale to u
greatest_at_least_0 scale from to (pos n) h = refl
greatest_at_least_0 scale from to (negsuc n) h = absurd (omega (arith, ints))

pub greatest_below_0 : (scale from to : ℕ) (u : ℤ) → u <ℤ pos 0 → greatest_energy scale from to u ≡ with_logarithm scale from u
greatest_below_0 scale from to (pos n) h = absurd (omega (arith, ints))
greatest_below_0 scale from to (negsuc n) h = refl

pub ruleset least_rules = (least_at_least_0, least_below_0, to_z-of_z)

pub ruleset greatest_rules = (greatest_at_least_0, greatest_below_0, to_z-of_z)

pub ruleset low_rules = (moment_ordered, moment_low-size, moment_high-size, least_room, to_z-of_z)

pub ruleset high_rules = (moment_ordered, moment_low-size, moment_high-size, greatest_room, to_z-of_z)

-- what a phase keeps of its scale and of its magnetism
scale_le : (d : ℕ) → d ≤ 5 → 10 ^ d ≤ 100000
scale_le d h = pow-le-pow_right (lit≤ tt) h

pub scale_high : (phase : PhaseAt) → IsFine phase → phase.scale ≤ 100000
scale_high phase fine = rw fine.keeps.scale.2 (scale_le fine.keeps.scale.0 fine.keeps.scale.1)

pub magnetic_of : (phase : PhaseAt) (m : MagneticAt) → phase.magnetic ≡ Some m → IsFine phase → (1 ≤ m.factor) × (1000 ≤ m.p4) × (m.p4 ≤ 10000)
magnetic_of phase m e fine =
    let h : IsMagnetic (Some m) = subst IsMagnetic e fine.keeps.magnetic in
    (h.0, h.2, h.3)

pub coldest_of : (phase : PhaseAt) → IsFine phase → (100 ≤ phase.t) × (phase.t ≤ 600000)
coldest_of phase fine = (fine.keeps.coldest, fine.keeps.hottest)

pub ruleset phase_rules = (scale_high, magnetic_of, coldest_of)
