-- Room for the steps of g.
use Rattle.std.proofs.Common.{◌≡◌, ℕ, ◌+◌, ◌-◌, ◌*◌, ◌/◌, ◌%◌, ◌^◌, ◌<◌, ◌≤◌, arith, ap}
use Rattle.std.specs.Prelude.{ℤ, pos, ◌*ℤ◌, unsigned_abs}
use Rattle.std.proofs.lemmas.Int.{ints, to_z-of_z}
use Rattle.std.proofs.lemmas.Nat.{mul-le, div-add-mod', mod_below}
use Rattle.std.proofs.Math.Nat.{add-mul-div_right}
use Rattle.cal_math.specs.Whole.{abs-*ℤ-le}
use Rattle.cef_core.specs.Magnetism.{norm_of}
use Rattle.cef_mag.specs.Steps.{norm_some}
use Rattle.cef_mag.specs.Sizes.{quotient_at_most, w_above, v_below}

pub product_high : (x y : ℕ) → x ≤ 1000000000 → y ≤ 1000000000 → x * y ≤ 1000000000000000000
product_high x y h k = mul-le x y 1000000000 1000000000 h k

pub ruleset fraction_rules = (product_high)

pub norm_part_high : (p4 : ℕ) → 1000 ≤ p4 → p4 ≤ 10000 → 11692000000000 * (10000 - p4) / (15975 * p4) ≤ 7500000000
norm_part_high p4 h k = quotient_at_most (11692000000000 * (10000 - p4)) (15975 * p4) 7500000000 (omega arith) (omega arith)

pub norm_high : (p4 : ℕ) → 1000 ≤ p4 → p4 ≤ 10000 → norm_of p4 ≤ 8000000000
norm_high p4 h k = more _ (norm_part_high p4 h k)
  where
    more : (n : ℕ) → n ≤ 7500000000 → 518 * 1000000000 / 1125 + n ≤ 8000000000
    more n h = omega arith

pub ruleset norm_rules = (norm_some, norm_high, norm_part_high, to_z-of_z)

-- a number over A in two steps
pub share_is : (n a : ℕ) → 0 < a → 1000000000 * (n / a) + 1000000000 * (n % a) / a ≡ 1000000000 * n / a
share_is n a p =
    omega (arith, add-mul-div_right (1000000000 * (n % a)) (1000000000 * (n / a)) p, ap (λ m. m / a) (parts n a (div-add-mod' n a)))
  where
    parts : (n a : ℕ) → n / a * a + n % a ≡ n → 1000000000 * (n % a) + 1000000000 * (n / a) * a ≡ 1000000000 * n
    parts n a h = omega (arith, h)

pub share_high : (n a : ℕ) → n ≤ 60000000000000 → 460444444 ≤ a → n / a ≤ 131000
share_high n a h k = quotient_at_most n a 131000 (omega arith) (omega arith)

pub rest_high : (n a : ℕ) → 460444444 ≤ a → a ≤ 8000000000 → 1000000000 * (n % a) / a ≤ 1000000000
rest_high n a h k = quotient_at_most (1000000000 * (n % a)) a 1000000000 (omega arith) (omega (arith, mod_below n a (omega arith)))

pub ruleset less_rules = (share_is, share_high, rest_high, mod_below, to_z-of_z)

pub w_high : (t theta : ℕ) → 100 ≤ t → theta ≤ 10000000000 → 1000000000 * theta / (10000 * t) ≤ 10000000000000
w_high t theta h k = quotient_at_most (1000000000 * theta) (10000 * t) 10000000000000 (omega arith) (omega arith)

pub w_high_above : (t theta : ℕ) → 100 ≤ t → theta ≤ 10000 * t → 1000000000 * theta / (10000 * t) ≤ 1000000000
w_high_above t theta h k = w_above t theta (omega arith) k

pub v_high : (t theta : ℕ) → 10000 * t < theta → 10000000000000 * t / theta ≤ 1000000000
v_high t theta h = v_below t theta h

pub ruleset ratio_rules = (w_high, w_high_above, v_high)

pub linear_high : (p4 w : ℕ) → 1000 ≤ p4 → w ≤ 10000000000000 → 79 * w * 10000 / (140 * p4) ≤ 57000000000000
linear_high p4 w h k = quotient_at_most (79 * w * 10000) (140 * p4) 57000000000000 (omega arith) (omega arith)

pub series_room : (p4 s : ℕ) → 1000 ≤ p4 → s ≤ 175740741 → 474 * (10000 - p4) * s ≤ 4266000 * 175740741
series_room p4 s h k = mul-le (474 * (10000 - p4)) s 4266000 175740741 (omega arith) k

pub series_high : (p4 s : ℕ) → 1000 ≤ p4 → s ≤ 175740741 → 474 * (10000 - p4) * s / (497 * p4) ≤ 1600000000
series_high p4 s h k = quotient_at_most (474 * (10000 - p4) * s) (497 * p4) 1600000000 (omega arith) (omega (arith, series_room p4 s h k))

pub ruleset part_rules = (linear_high, series_room, series_high)

pub u_room : (t : ℕ) (g : ℤ) → t ≤ 600000 → unsigned_abs g ≤ 2 ^ 48 → unsigned_abs (pos (831451 * t) *ℤ g) ≤ 2 ^ 126
u_room t g h k = omega (arith, abs-*ℤ-le (pos (831451 * t)) g (831451 * 600000) (2 ^ 48) (omega arith) k)

pub ruleset u_rules = (u_room, ints, to_z-of_z)
