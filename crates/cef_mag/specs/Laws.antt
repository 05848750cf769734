-- The laws on which bounds of boxes rest: the magnetic energy of a member lies between the low and the high of its box, all
-- three are one for the sums of one member, and none is greater than the size of magnetic energies.
use Rattle.std.proofs.Common.{◌≡◌, ℕ, ◌+◌, ◌*◌, ◌≤◌, refl, ap, ◌∙◌}
use Rattle.std.specs.Prelude.{ℤ, ◌≤ℤ◌, unsigned_abs}
use Rattle.cal_limits.specs.declared.TheConstants.{MOST_CURIE, MOST_MOMENT}
use Rattle.cef_box.specs.Terms.{IsBetween, AreOne}
use Rattle.cef_core.specs.Magnetism.{moment_of, energy_of_g, magnetic_at}
use Rattle.cef_mag.specs.Ranges.{with_logarithm, least_energy, greatest_energy, magnetic_low, magnetic_high}
use Rattle.cef_mag.specs.Bounds.{moment_between, moment_same, u_between, u_one, energy_above-least, energy_below-greatest, energy_one}
use Rattle.cef_mag.specs.Sizes.{moment_size, moment_low-size, moment_high-size, moment_ordered, energy_of_g-size, least_u-size, greatest_u-size, with_logarithm-size, least_energy-size, greatest_energy-size}

pub magnetic_at-is : (t scale factor p4 : ℕ) (x y : ℤ) → magnetic_at t scale factor p4 x y ≡ with_logarithm scale (moment_of factor y) (energy_of_g t (moment_of factor x) p4)
unfolding magnetic_at with_logarithm
magnetic_at-is t scale factor p4 x y = refl

-- between the low and the high, for sums x of Curie temperatures and y of moments that lie between their lows and highs
pub magnetic_between : (t scale factor p4 : ℕ) (x1 x x2 y1 y y2 : ℤ) → 1 ≤ t → 1 ≤ factor → 1 ≤ p4 →
    x1 ≤ℤ x → x ≤ℤ x2 → y1 ≤ℤ y → y ≤ℤ y2 →
    IsBetween (magnetic_low t scale factor p4 x1 x2 y1 y2) (magnetic_at t scale factor p4 x y) (magnetic_high t scale factor p4 x1 x2 y1 y2)
unfolding magnetic_low magnetic_high
magnetic_between t scale factor p4 x1 x x2 y1 y y2 pt pf pp x_low x_high y_low y_high =
    let theta = moment_between factor x1 x x2 pf x_low x_high in
    let moment = moment_between factor y1 y y2 pf y_low y_high in
    let u = u_between t p4 _ _ _ pt pp theta.0 theta.1 in
    rw (magnetic_at-is t scale factor p4 x y) (record {
      below = energy_above-least scale _ _ _ _ _ moment.0 moment.1 u.below;
      above = energy_below-greatest scale _ _ _ _ _ moment.0 moment.1 u.above;
    })

-- all three are one where the lows are the highs
pub magnetic_same : (t scale factor p4 : ℕ) (x y : ℤ) →
    AreOne (magnetic_low t scale factor p4 x x y y) (magnetic_at t scale factor p4 x y) (magnetic_high t scale factor p4 x x y y)
unfolding magnetic_low magnetic_high
magnetic_same t scale factor p4 x y =
    let theta = moment_same factor x in
    let moment = moment_same factor y in
    let u = u_one t p4 (moment_of factor x) in
    rw (theta.0, theta.1, moment.0, moment.1, magnetic_at-is t scale factor p4 x y) (record {
      below = ap (least_energy scale (moment_of factor y) (moment_of factor y)) u.below ∙ (energy_one scale (moment_of factor y) _).0;
      above = ap (greatest_energy scale (moment_of factor y) (moment_of factor y)) u.above ∙ (energy_one scale (moment_of factor y) _).1;
    })

-- none is greater than 10^6 * scale * (t + 10^6), for sums within the limits of a phase
pub magnetic_size : (t scale factor p4 : ℕ) (x y : ℤ) → 1 ≤ t → 1000 ≤ p4 → p4 ≤ 10000 →
    unsigned_abs x ≤ MOST_CURIE → unsigned_abs y ≤ MOST_MOMENT →
    unsigned_abs (magnetic_at t scale factor p4 x y) ≤ 1000000 * scale * (t + 1000000)
magnetic_size t scale factor p4 x y pt h k x_small y_small =
    rw (magnetic_at-is t scale factor p4 x y)
    (with_logarithm-size t scale _ _ (moment_size factor y 500000000 y_small)
    (energy_of_g-size t _ p4 pt h k (moment_size factor x 10000000000 x_small)))

pub magnetic_low_size : (t scale factor p4 : ℕ) (x1 x2 y1 y2 : ℤ) → 1 ≤ t → 1 ≤ factor → 1000 ≤ p4 → p4 ≤ 10000 →
    unsigned_abs x1 ≤ MOST_CURIE → unsigned_abs x2 ≤ MOST_CURIE → unsigned_abs y1 ≤ MOST_MOMENT → unsigned_abs y2 ≤ MOST_MOMENT →
    unsigned_abs (magnetic_low t scale factor p4 x1 x2 y1 y2) ≤ 1000000 * scale * (t + 1000000)
unfolding magnetic_low
magnetic_low_size t scale factor p4 x1 x2 y1 y2 pt pf h k x1_small x2_small y1_small y2_small =
    least_energy-size t scale _ _ _ (moment_low-size factor y1 y2 500000000 y1_small) (moment_high-size factor y1 y2 500000000 y1_small y2_small)
    (least_u-size t p4 _ _ pt h k (moment_ordered factor x1 x2 pf) (moment_high-size factor x1 x2 10000000000 x1_small x2_small))

pub magnetic_high_size : (t scale factor p4 : ℕ) (x1 x2 y1 y2 : ℤ) → 1 ≤ t → 1 ≤ factor → 1000 ≤ p4 → p4 ≤ 10000 →
    unsigned_abs x1 ≤ MOST_CURIE → unsigned_abs x2 ≤ MOST_CURIE → unsigned_abs y1 ≤ MOST_MOMENT → unsigned_abs y2 ≤ MOST_MOMENT →
    unsigned_abs (magnetic_high t scale factor p4 x1 x2 y1 y2) ≤ 1000000 * scale * (t + 1000000)
unfolding magnetic_high
magnetic_high_size t scale factor p4 x1 x2 y1 y2 pt pf h k x1_small x2_small y1_small y2_small =
    greatest_energy-size t scale _ _ _ (moment_low-size factor y1 y2 500000000 y1_small) (moment_high-size factor y1 y2 500000000 y1_small y2_small)
    (greatest_u-size t p4 _ _ pt h k (moment_ordered factor x1 x2 pf) (moment_high-size factor x1 x2 10000000000 x1_small x2_small))
