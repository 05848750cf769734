-- The steps of code: that they fit, and that a slope is made of a quotient and a remainder.
use Rattle.std.proofs.Common.{◌≡◌, ℕ, zero, suc, ◌+◌, ◌*◌, ◌/◌, ◌^◌, ◌<◌, ◌≤◌, arith, refl, ap, sym, ◌∙◌, List, [], ◌∷◌, length, get_or, inl, inr, Bool, true, false, set}
use Rattle.std.specs.Prelude.{ℤ, pos, negsuc, ◌+ℤ◌, ◌-ℤ◌, ◌*ℤ◌, ◌≤ℤ◌, ◌<ℤ◌, unsigned_abs}
use Rattle.std.specs.Int.{int_div_euclid, int_rem_euclid}
use Rattle.std.proofs.lemmas.Int.{ints, by_lt_z, to_z-of_z, unsigned_abs-mul}
use Rattle.std.proofs.lemmas.Nat.{mul-le, div_below}
use Rattle.std.proofs.Math.Nat.{mul-le-mul_left, mul-le-mul_right, pow-suc, pow-zero}
use Rattle.cal_math.specs.Whole.{floor-le, lt-floor, le-floor, abs-floor-le, pos-*ℤ-≤, ≤ℤ-*ℤ_cancel, *ℤ-+ℤ, *ℤ--ℤ, *ℤ_left, abs-*ℤ-le}
use Rattle.std.proofs.lemmas.Grind.{get_or-set_at}
use Rattle.std.proofs.lemmas.List.{get_or-set_other}
use Rattle.std.proofs.lemmas.Bool.Decides.{eqb_tells}
use Rattle.cef_minor.specs.Slopes.{slope_of, share}

pub weighted_room : (w : ℤ) (z : ℕ) → unsigned_abs w * z ≤ 3 * 2 ^ 125 → unsigned_abs (w *ℤ pos z) ≤ 3 * 2 ^ 125
weighted_room w z h = rw (unsigned_abs-mul w (pos z)) h

pub ruleset weighted_rules = (weighted_room, to_z-of_z)

pub rem_is : (a : ℤ) (d : ℕ) → 1 ≤ d → int_rem_euclid a (pos d) ≡ a -ℤ pos d *ℤ int_div_euclid a (pos d)
rem_is (pos a) d h = omega (arith, ints)
rem_is (negsuc a) d h = omega (arith, ints)

pub ruleset part_rules = (rem_is, floor-le, lt-floor, abs-floor-le, to_z-of_z)

pub rest_small : (rest den : ℕ) → 1 ≤ den → rest < den → 65536 * rest / den < 65536
rest_small rest den p h = div_below (65536 * rest) den 65536 p (omega arith)

pub ruleset joined_rules = (rest_small, to_z-of_z)

-- the floor is the one number whose product with the divisor lies less than a divisor below
pub floor_is : (a v : ℤ) (d : ℕ) → 1 ≤ d → (pos d *ℤ v) ≤ℤ a → a <ℤ (pos d *ℤ v +ℤ pos d) → v ≡ int_div_euclid a (pos d)
floor_is a v d p h k =
    let e : ℤ = int_div_euclid a (pos d) in
    let under : v ≤ℤ e = le-floor v a (pos d) (omega (arith, ints)) h in
    let floor : (pos d *ℤ e) ≤ℤ a = floor-le a (pos d) (omega (arith, ints)) in
    let last : e <ℤ (v +ℤ pos 1) = below d e v p (omega (arith, ints)) in
    omega (arith, ints)
  where
    below : (d : ℕ) (e v : ℤ) → 1 ≤ d → (pos d *ℤ e) <ℤ (pos d *ℤ v +ℤ pos d) → e <ℤ (v +ℤ pos 1)
    below d e v p h = by_lt_z e (v +ℤ pos 1) (λ lt. lt) (λ le. absurd (omega (arith, ints, pos-*ℤ-≤ d (v +ℤ pos 1) e le, *ℤ-+ℤ (pos d) v (pos 1))))

pub slope_parts : (w : ℤ) (z den rest : ℕ) (m whole : ℤ) → 1 ≤ den → m ≡ w *ℤ pos z → whole ≡ int_div_euclid m (pos den) → pos rest ≡ m -ℤ pos den *ℤ int_div_euclid m (pos den) → rest < den → pos 65536 *ℤ whole +ℤ pos (65536 * rest / den) ≡ slope_of w den z
unfolding slope_of
slope_parts w z den rest m whole p e f r less =
    let q : ℤ = int_div_euclid (pos (65536 * rest)) (pos den) in
    let low : (pos den *ℤ q) ≤ℤ pos (65536 * rest) = floor-le (pos (65536 * rest)) (pos den) (omega (arith, ints)) in
    let high : pos (65536 * rest) <ℤ (pos den *ℤ q +ℤ pos den) = lt-floor (pos (65536 * rest)) (pos den) (omega (arith, ints)) in
    let split : pos den *ℤ (pos 65536 *ℤ whole +ℤ q) ≡ pos den *ℤ (pos 65536 *ℤ whole) +ℤ pos den *ℤ q = *ℤ-+ℤ (pos den) (pos 65536 *ℤ whole) q in
    let turned : pos den *ℤ (pos 65536 *ℤ whole) ≡ pos 65536 *ℤ (pos den *ℤ whole) = *ℤ_left (pos den) (pos 65536) whole in
    let rest_is : pos rest ≡ m -ℤ pos den *ℤ whole = r ∙ ap (λ x. m -ℤ pos den *ℤ x) (sym f) in
    floor_is (pos 65536 *ℤ m) (pos 65536 *ℤ whole +ℤ q) den p (omega (arith, ints)) (omega (arith, ints)) ∙ ap (λ x. int_div_euclid (pos 65536 *ℤ x) (pos den)) e

pub slope_room : (w : ℤ) (z den : ℕ) → den ≤ 3 * 2 ^ 70 → unsigned_abs w * z ≤ 2 ^ 55 * den → unsigned_abs w * z ≤ 3 * 2 ^ 125
slope_room w z den h k = omega (arith, mul-le-mul_left (2 ^ 55) h)

-- a number of at most m divisors has a floor of at most m
pub floor_size : (a : ℤ) (m d : ℕ) → 1 ≤ d → unsigned_abs a ≤ m * d → unsigned_abs (int_div_euclid a (pos d)) ≤ m
floor_size (pos a) m d p h = quot_le a m d p h
  where
    quot_le : (a m d : ℕ) → 1 ≤ d → a ≤ m * d → a / d ≤ m
    quot_le a m d p h = let lt : a / d < suc m = div_below a d (suc m) p (omega arith) in omega arith
floor_size (negsuc a) m d p h = quot_lt a m d p h
  where
    quot_lt : (a m d : ℕ) → 1 ≤ d → a < m * d → suc (a / d) ≤ m
    quot_lt a m d p h = div_below a d m p h

pub whole_size : (w : ℤ) (z den : ℕ) (m whole : ℤ) → 1 ≤ den → m ≡ w *ℤ pos z → whole ≡ int_div_euclid m (pos den) → unsigned_abs w * z ≤ 2 ^ 55 * den → unsigned_abs whole ≤ 2 ^ 55
whole_size w z den m whole p e f h =
    let size : unsigned_abs (int_div_euclid (w *ℤ pos z) (pos den)) ≤ 2 ^ 55 = floor_size (w *ℤ pos z) (2 ^ 55) den p (rw (unsigned_abs-mul w (pos z)) h) in
    rw (f, e) size

pub joined_size : (whole : ℤ) (rest den : ℕ) → 1 ≤ den → rest < den → unsigned_abs whole ≤ 2 ^ 55 → unsigned_abs (pos 65536 *ℤ whole +ℤ pos (65536 * rest / den)) ≤ 2 ^ 72
joined_size whole rest den p h k = omega (arith, ints, rest_small rest den p h)

pub ruleset slope_rules = (slope_parts, slope_room, whole_size, joined_size, to_z-of_z)

pub product_step : (count n rest size : ℕ) → count ≤ n → rest ≤ n ^ size → count * rest ≤ n ^ suc size
product_step count n rest size h k = omega (arith, pow-suc n size, mul-le count rest n (n ^ size) h k)

-- fewer sites have room where more have
pub fewer_room : (n l k : ℕ) → 1 ≤ n → n ^ suc l ≤ k → n ^ l ≤ k
fewer_room n l k some h = omega (arith, pow-suc n l, mul-le-mul_right (n ^ l) some)

pub ruleset product_rules = (product_step, pow-suc, pow-zero)

-- the slope of one place, added at its site
pub share_added : (slopes : List ℤ) (site i : ℕ) (slope : ℤ) → site < length slopes → get_or (set slopes site (get_or slopes site (pos 0) +ℤ slope)) i (pos 0) ≡ get_or slopes i (pos 0) +ℤ share site slope i
share_added slopes site i slope h = elim (eqb_tells site i) [
  | inl same ↦
      let now : get_or (set slopes site (get_or slopes site (pos 0) +ℤ slope)) i (pos 0) ≡ get_or slopes site (pos 0) +ℤ slope = get_or-set_at slopes site i (get_or slopes site (pos 0) +ℤ slope) (pos 0) (sym same.1) h in
      let here : get_or slopes site (pos 0) ≡ get_or slopes i (pos 0) = ap (λ k. get_or slopes k (pos 0)) same.1 in
      rw same.0 (now ∙ ap (λ z. z +ℤ slope) here)
  | inr other ↦
      let now : get_or (set slopes site (get_or slopes site (pos 0) +ℤ slope)) i (pos 0) ≡ get_or slopes i (pos 0) = get_or-set_other slopes site i (get_or slopes site (pos 0) +ℤ slope) (pos 0) (λ e. other.1 (sym e)) in
      rw other.0 (now ∙ nothing (get_or slopes i (pos 0)))
]
  where
    nothing : (x : ℤ) → x ≡ x +ℤ pos 0
    nothing x = omega (arith, ints)

pub ruleset raise_rules = (share_added, to_z-of_z)

pub ruleset corner_rules = (slope_room, whole_size, to_z-of_z)
