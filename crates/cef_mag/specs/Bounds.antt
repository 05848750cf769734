-- Each theta, u and energy of a member lies within the range of the box, and the range of one member is its own.
use Rattle.std.proofs.Common.{◌≡◌, ℕ, zero, suc, ◌+◌, ◌*◌, ◌/◌, ◌<◌, ◌≤◌, cond, refl, sym, ap, ◌∙◌, arith, inl, inr}
use Rattle.std.specs.Prelude.{ℤ, pos, negsuc, ◌*ℤ◌, ◌≤ℤ◌, max, min, nat_lt, nat_le}
use Rattle.std.specs.Int.{int_min, int_max}
use Rattle.std.proofs.lemmas.Bool.{cases_lt}
use Rattle.std.proofs.lemmas.Bool.Decides.{nat_tests}
use Rattle.std.proofs.lemmas.Int.{ints, clamps}
use Rattle.std.proofs.Math.Nat.{mul-le-mul_left}
use Rattle.cal_math.specs.Logarithm.{log_between}
use Rattle.cal_math.specs.Whole.{pos-*ℤ-≤, *ℤ_comm}
use Rattle.cal_log.specs.Laws.{log_between-le}
use Rattle.cef_box.specs.Terms.{IsBetween, AreOne}
use Rattle.cef_core.specs.Magnetism.{theta_over_t, t_over_theta, g_below, g_above, g_at, energy_of_g, moment_of}
use Rattle.cef_mag.specs.Ranges.{moment_low, moment_high, u_of, u_above, u_below, least_above, greatest_above, least_below, greatest_below, least_u, greatest_u, with_logarithm, least_energy, greatest_energy}
use Rattle.cef_mag.specs.Steps.{quotient_rises, floor_rises, theta_over_t-rises, t_over_theta-falls, g_below-falls, g_above-falls, u_of-rises}

-- theta and the moment of a sum
pub moment_between : (factor : ℕ) (low x high : ℤ) → 0 < factor → low ≤ℤ x → x ≤ℤ high → (moment_low factor low high ≤ moment_of factor x) × (moment_of factor x ≤ moment_high factor low high)
unfolding moment_low moment_high
moment_between a (pos m) (pos n) (pos l) p h k = (omega (arith, ints), omega (arith, ints))
moment_between a (pos m) (pos n) (negsuc l) p h k = absurd (omega (arith, ints))
moment_between a (pos m) (negsuc n) high p h k = absurd (omega (arith, ints))
moment_between a (negsuc m) (pos n) (pos l) p h k = (omega arith, omega (arith, ints))
moment_between a (negsuc m) (negsuc n) (pos l) p h k =
    let le : suc n ≤ suc m = omega (arith, ints) in
    (omega arith, omega (arith, quotient_rises (suc n) (suc m) a p le))
moment_between a (negsuc m) (pos n) (negsuc l) p h k = absurd (omega (arith, ints))
moment_between a (negsuc m) (negsuc n) (negsuc l) p h k =
    let le : suc n ≤ suc m = omega (arith, ints) in
    let ge : suc l ≤ suc n = omega (arith, ints) in
    (quotient_rises (min (suc m) (suc l)) (suc n) a p (omega arith), quotient_rises (suc n) (suc m) a p le)

greater_same : (n : ℕ) → max n n ≡ n
greater_same n = omega arith

lesser_same : (n : ℕ) → min n n ≡ n
lesser_same n = omega arith

pub moment_same : (factor : ℕ) (x : ℤ) → (moment_low factor x x ≡ moment_of factor x) × (moment_high factor x x ≡ moment_of factor x)
unfolding moment_low moment_high
moment_same a (pos m) = (refl, greater_same m)
moment_same a (negsuc m) = (ap (λ n. n / a) (lesser_same (suc m)), refl)

-- tests of numbers, taken one way or the other
up_to : {A : Type 0} (a b : ℕ) (x y : A) → a ≤ b → cond (nat_le a b) x y ≡ x
up_to a b x y h = grind (arith, nat_tests)

beyond : {A : Type 0} (a b : ℕ) (x y : A) → b < a → cond (nat_le a b) x y ≡ y
beyond a b x y h = grind (arith, nat_tests)

less : {A : Type 0} (a b : ℕ) (x y : A) → a < b → cond (nat_lt a b) x y ≡ x
less a b x y h = grind (arith, nat_tests)

not_less : {A : Type 0} (a b : ℕ) (x y : A) → b ≤ a → cond (nat_lt a b) x y ≡ y
not_less a b x y h = grind (arith, nat_tests)

-- u at a theta above 0, by the branch on whose side it is
pub g_at-below : (t theta p4 : ℕ) → 10000 * t < theta → g_at t theta p4 ≡ g_below p4 (theta_over_t t theta) (t_over_theta t theta)
unfolding g_at
g_at-below t theta p4 h = less (10000 * t) theta _ _ h

pub g_at-above : (t theta p4 : ℕ) → theta ≤ 10000 * t → g_at t theta p4 ≡ g_above p4 (theta_over_t t theta)
unfolding g_at
g_at-above t theta p4 h = not_less (10000 * t) theta _ _ h

pub at_some : (t theta p4 : ℕ) → 0 < theta → energy_of_g t theta p4 ≡ u_of t (g_at t theta p4)
unfolding u_of
at_some t zero p4 h = absurd (omega arith)
at_some t (suc k) p4 h = refl

pub at_below : (t theta p4 : ℕ) → 10000 * t < theta → energy_of_g t theta p4 ≡ u_below t p4 theta theta
at_below t theta p4 h = at_some t theta p4 (omega arith) ∙ ap (u_of t) (g_at-below t theta p4 h)

pub at_above : (t theta p4 : ℕ) → 0 < theta → theta ≤ 10000 * t → energy_of_g t theta p4 ≡ u_above t p4 theta
at_above t theta p4 p h = at_some t theta p4 p ∙ ap (u_of t) (g_at-above t theta p4 h)

-- each branch within its own range
u_above-falls : (t p4 theta more : ℕ) → 0 < t → theta ≤ more → u_above t p4 more ≤ℤ u_above t p4 theta
u_above-falls t p4 theta more p h = u_of-rises t _ _ (g_above-falls p4 _ _ (theta_over_t-rises t theta more p h))

u_below-falls : (t p4 w m v n : ℕ) → 0 < t → 0 < p4 → 0 < n → w ≤ m → n ≤ v → u_below t p4 m n ≤ℤ u_below t p4 w v
u_below-falls t p4 w m v n pt pp pn h k = u_of-rises t _ _ (g_below-falls p4 _ _ _ _ pp (theta_over_t-rises t w m pt h) (t_over_theta-falls t n v pn k))

above_between : (t p4 from theta to : ℕ) → 0 < t → from ≤ theta → theta ≤ to → to ≤ 10000 * t → IsBetween (least_above t p4 from to) (energy_of_g t theta p4) (greatest_above t p4 from to)
above_between t p4 zero zero zero pt h k j = record { below = omega (arith, ints); above = omega (arith, ints) }
above_between t p4 zero zero (suc to) pt h k j = record { below = omega (arith, ints, clamps); above = omega (arith, ints, clamps) }
above_between t p4 zero (suc theta) zero pt h k j = absurd (omega arith)
above_between t p4 zero (suc theta) (suc to) pt h k j =
    let least : u_above t p4 (suc to) ≤ℤ u_above t p4 (suc theta) = u_above-falls t p4 (suc theta) (suc to) pt k in
    let greatest : u_above t p4 (suc theta) ≤ℤ u_above t p4 1 = u_above-falls t p4 1 (suc theta) pt (omega arith) in
    rw (at_above t (suc theta) p4 (omega arith) (omega arith)) (joined _ _ _ least greatest)
  where
    joined : (a u b : ℤ) → a ≤ℤ u → u ≤ℤ b → IsBetween (int_min (pos 0) a) u (int_max (pos 0) b)
    joined a u b h k = record { below = omega (arith, ints, clamps); above = omega (arith, ints, clamps) }
above_between t p4 (suc from) zero to pt h k j = absurd (omega arith)
above_between t p4 (suc from) (suc theta) zero pt h k j = absurd (omega arith)
above_between t p4 (suc from) (suc theta) (suc to) pt h k j =
    rw (at_above t (suc theta) p4 (omega arith) (omega arith)) (record {
      below = u_above-falls t p4 (suc theta) (suc to) pt k;
      above = u_above-falls t p4 (suc from) (suc theta) pt h;
    })

below_between : (t p4 from theta to : ℕ) → 0 < t → 0 < p4 → 10000 * t < from → from ≤ theta → theta ≤ to → IsBetween (least_below t p4 from to) (energy_of_g t theta p4) (greatest_below t p4 from to)
below_between t p4 from theta to pt pp j h k =
    rw (at_below t theta p4 (omega arith)) (record {
      below = u_below-falls t p4 theta to theta from pt pp (omega arith) k h;
      above = u_below-falls t p4 from theta to theta pt pp (omega arith) h k;
    })

-- the least and the greatest u of a range above, below, and across the joint
pub least_u-above : (t p4 from to : ℕ) → to ≤ 10000 * t → least_u t p4 from to ≡ least_above t p4 from to
unfolding least_u
least_u-above t p4 from to h = up_to to (10000 * t) _ _ h

pub least_u-below : (t p4 from to : ℕ) → 10000 * t < from → 10000 * t < to → least_u t p4 from to ≡ least_below t p4 from to
unfolding least_u
least_u-below t p4 from to h k = beyond to (10000 * t) _ _ k ∙ less (10000 * t) from _ _ h

pub least_u-across : (t p4 from to : ℕ) → from ≤ 10000 * t → 10000 * t < to → least_u t p4 from to ≡ int_min (least_above t p4 from (10000 * t)) (least_below t p4 (10000 * t + 1) to)
unfolding least_u
least_u-across t p4 from to h k = beyond to (10000 * t) _ _ k ∙ not_less (10000 * t) from _ _ h

pub greatest_u-above : (t p4 from to : ℕ) → to ≤ 10000 * t → greatest_u t p4 from to ≡ greatest_above t p4 from to
unfolding greatest_u
greatest_u-above t p4 from to h = up_to to (10000 * t) _ _ h

pub greatest_u-below : (t p4 from to : ℕ) → 10000 * t < from → 10000 * t < to → greatest_u t p4 from to ≡ greatest_below t p4 from to
unfolding greatest_u
greatest_u-below t p4 from to h k = beyond to (10000 * t) _ _ k ∙ less (10000 * t) from _ _ h

pub greatest_u-across : (t p4 from to : ℕ) → from ≤ 10000 * t → 10000 * t < to → greatest_u t p4 from to ≡ int_max (greatest_above t p4 from (10000 * t)) (greatest_below t p4 (10000 * t + 1) to)
unfolding greatest_u
greatest_u-across t p4 from to h k = beyond to (10000 * t) _ _ k ∙ not_less (10000 * t) from _ _ h

min_max : (a b u c d : ℤ) → IsBetween a u c → IsBetween (int_min a b) u (int_max c d)
min_max a b u c d h = record { below = omega (arith, ints, clamps, h.below); above = omega (arith, ints, clamps, h.above) }

max_min : (a b u c d : ℤ) → IsBetween b u d → IsBetween (int_min a b) u (int_max c d)
max_min a b u c d h = record { below = omega (arith, ints, clamps, h.below); above = omega (arith, ints, clamps, h.above) }

-- u at each theta of a range
pub u_between : (t p4 from theta to : ℕ) → 0 < t → 0 < p4 → from ≤ theta → theta ≤ to → IsBetween (least_u t p4 from to) (energy_of_g t theta p4) (greatest_u t p4 from to)
u_between t p4 from theta to pt pp h k =
    elim (cases_lt (10000 * t) to) [
      | inr above ↦ rw (least_u-above t p4 from to above, greatest_u-above t p4 from to above) (above_between t p4 from theta to pt h k above)
      | inl ends ↦ elim (cases_lt (10000 * t) from) [
        | inl below ↦ rw (least_u-below t p4 from to below ends, greatest_u-below t p4 from to below ends) (below_between t p4 from theta to pt pp below h k)
        | inr across ↦ rw (least_u-across t p4 from to across ends, greatest_u-across t p4 from to across ends) (elim (cases_lt (10000 * t) theta) [
          | inr side ↦ min_max _ _ _ _ _ (above_between t p4 from theta (10000 * t) pt h side (omega arith))
          | inl side ↦ max_min _ _ _ _ _ (below_between t p4 (10000 * t + 1) theta to pt pp (omega arith) (omega arith) k)
        ])
      ]
    ]

above_one : (t p4 theta : ℕ) → theta ≤ 10000 * t → AreOne (least_above t p4 theta theta) (energy_of_g t theta p4) (greatest_above t p4 theta theta)
above_one t p4 zero h = record { below = refl; above = refl }
above_one t p4 (suc k) h = record { below = sym (at_above t (suc k) p4 (omega arith) h); above = sym (at_above t (suc k) p4 (omega arith) h) }

pub u_one : (t p4 theta : ℕ) → AreOne (least_u t p4 theta theta) (energy_of_g t theta p4) (greatest_u t p4 theta theta)
u_one t p4 theta =
    elim (cases_lt (10000 * t) theta) [
      | inr above ↦ rw (least_u-above t p4 theta theta above, greatest_u-above t p4 theta theta above) (above_one t p4 theta above)
      | inl below ↦ rw (least_u-below t p4 theta theta below below, greatest_u-below t p4 theta theta below below) (record { below = sym (at_below t theta p4 below); above = sym (at_below t theta p4 below) })
    ]

-- the product with the logarithm
with_logarithm-rises : (scale moment : ℕ) (u v : ℤ) → u ≤ℤ v → with_logarithm scale moment u ≤ℤ with_logarithm scale moment v
unfolding with_logarithm
with_logarithm-rises scale moment u v h =
    let l : ℕ = scale * log_between moment in
    floor_rises (u *ℤ pos l) (v *ℤ pos l) 10000000000000000 (omega arith) (rw (*ℤ_comm u (pos l), *ℤ_comm v (pos l)) (pos-*ℤ-≤ l u v h))

logarithms : (scale moment more : ℕ) → moment ≤ more → scale * log_between moment ≤ scale * log_between more
logarithms scale moment more h = mul-le-mul_left scale (log_between-le moment more h)

more_logarithm : (scale moment more u : ℕ) → moment ≤ more → with_logarithm scale moment (pos u) ≤ℤ with_logarithm scale more (pos u)
unfolding with_logarithm
more_logarithm scale moment more u h = floor_rises _ _ 10000000000000000 (omega arith) (product (scale * log_between moment) (scale * log_between more) u (logarithms scale moment more h))
  where
    product : (l m u : ℕ) → l ≤ m → (pos u *ℤ pos l) ≤ℤ (pos u *ℤ pos m)
    product l m u h = omega (arith, ints, mul-le-mul_left u h)

less_logarithm : (scale moment more u : ℕ) → moment ≤ more → with_logarithm scale more (negsuc u) ≤ℤ with_logarithm scale moment (negsuc u)
unfolding with_logarithm
less_logarithm scale moment more u h = floor_rises _ _ 10000000000000000 (omega arith) (product (scale * log_between moment) (scale * log_between more) u (logarithms scale moment more h))
  where
    product : (l m u : ℕ) → l ≤ m → (negsuc u *ℤ pos m) ≤ℤ (negsuc u *ℤ pos l)
    product l m u h = omega (arith, ints, mul-le-mul_left (suc u) h)

between_three : (a b c : ℤ) → a ≤ℤ b → b ≤ℤ c → a ≤ℤ c
between_three a b c h k = omega (arith, ints)

pub energy_above-least : (scale from moment to : ℕ) (least u : ℤ) → from ≤ moment → moment ≤ to → least ≤ℤ u → least_energy scale from to least ≤ℤ with_logarithm scale moment u
energy_above-least scale from moment to (pos n) u h k le = between_three _ _ _ (more_logarithm scale from moment n h) (with_logarithm-rises scale moment (pos n) u le)
energy_above-least scale from moment to (negsuc n) u h k le = between_three _ _ _ (less_logarithm scale moment to n k) (with_logarithm-rises scale moment (negsuc n) u le)

pub energy_below-greatest : (scale from moment to : ℕ) (u greatest : ℤ) → from ≤ moment → moment ≤ to → u ≤ℤ greatest → with_logarithm scale moment u ≤ℤ greatest_energy scale from to greatest
energy_below-greatest scale from moment to u (pos n) h k le = between_three _ _ _ (with_logarithm-rises scale moment u (pos n) le) (more_logarithm scale moment to n k)
energy_below-greatest scale from moment to u (negsuc n) h k le = between_three _ _ _ (with_logarithm-rises scale moment u (negsuc n) le) (less_logarithm scale from moment n h)

pub energy_one : (scale moment : ℕ) (u : ℤ) → (least_energy scale moment moment u ≡ with_logarithm scale moment u) × (greatest_energy scale moment moment u ≡ with_logarithm scale moment u)
energy_one scale moment (pos n) = (refl, refl)
energy_one scale moment (negsuc n) = (refl, refl)
