-- The quotient by a divisor through a part in 2^-64 that is rounded up.
use Rattle.std.proofs.Common.{◌≡◌, ℕ, ◌+◌, ◌-◌, ◌*◌, ◌^◌, ◌/◌, ◌%◌, ◌<◌, ◌≤◌, arith, refl, ap, sym, ◌∙◌}
use Rattle.std.specs.Prelude.{ℤ, pos, ◌+ℤ◌, ◌-ℤ◌, ◌*ℤ◌, ◌≤ℤ◌, ◌<ℤ◌, unsigned_abs}
use Rattle.std.specs.Int.{int_div_euclid}
use Rattle.std.proofs.lemmas.Int.{ints, by_lt_z, to_z-of_z, unsigned_abs-mul}
use Rattle.std.proofs.lemmas.Nat.{mul-le, div-add-mod', mod_below, div_below, le-div}
use Rattle.std.proofs.Math.Nat.{mul-div_cancel, div-eq_of_lt-le}
use Rattle.cal_math.specs.Whole.{*ℤ-+ℤ, *ℤ_comm, *ℤ_assoc, floor-le, lt-floor, le-floor, *ℤ-≤}
use Rattle.cef_term.specs.declared.narrow.NarrowShare.{NarrowShare}
use Rattle.cef_term.specs.Kept.{IsNarrow, rest_of}

-- rest / den in 2^-64, rounded up
pub part_fits : (rest den : ℕ) → rest < den → den ≤ 2 ^ 31 → (rest * 2 ^ 64 + (den - 1)) / den < 2 ^ 64
part_fits rest den h k = div_below (rest * 2 ^ 64 + (den - 1)) den (2 ^ 64) (omega arith) (omega arith)

pub part_low : (rest den : ℕ) → rest < den → rest * 2 ^ 64 ≤ (rest * 2 ^ 64 + (den - 1)) / den * den
part_low rest den h = omega (arith, div-add-mod' (rest * 2 ^ 64 + (den - 1)) den, mod_below (rest * 2 ^ 64 + (den - 1)) den (omega arith))

pub part_high : (rest den : ℕ) → rest < den → (rest * 2 ^ 64 + (den - 1)) / den * den < rest * 2 ^ 64 + den
part_high rest den h = omega (arith, div-add-mod' (rest * 2 ^ 64 + (den - 1)) den)

pub ruleset part_rules = (part_fits, part_low, part_high)

-- floor (part*up / 2^64) = floor (rest*up / den)
pub quotient_by_part : (part rest den up : ℕ) → 1 ≤ den → den ≤ 2 ^ 31 → up ≤ den + den → rest * 2 ^ 64 ≤ part * den → part * den < rest * 2 ^ 64 + den → part * up / 2 ^ 64 ≡ rest * up / den
quotient_by_part part rest den up some narrow few low high =
    let f : ℕ = rest * up / den in
    let floor : f * den + rest * up % den ≡ rest * up = div-add-mod' (rest * up) den in
    let left : rest * up % den < den = mod_below (rest * up) den some in
    let back : part * up * den / den ≡ part * up = mul-div_cancel (part * up) some in
    let l : rest * 2 ^ 64 * up ≤ part * den * up = mul-le (rest * 2 ^ 64) up (part * den) up low (omega arith) in
    let h : (part * den + 1) * up ≤ (rest * 2 ^ 64 + den) * up = mul-le (part * den + 1) up (rest * 2 ^ 64 + den) up (omega arith) (omega arith) in
    let small : den * up ≤ 2 ^ 31 * 2 ^ 32 = mul-le den up (2 ^ 31) (2 ^ 32) narrow (omega arith) in
    let under : f * 2 ^ 64 * den ≤ part * up * den = omega (arith, floor, l) in
    let over : part * up * den < (f + 1) * 2 ^ 64 * den = omega (arith, floor, left, h, small) in
    let x : f * 2 ^ 64 ≤ part * up = rw back at (le-div (f * 2 ^ 64) (part * up * den) den some under) in
    let y : part * up < (f + 1) * 2 ^ 64 = rw back at (div_below (part * up * den) den ((f + 1) * 2 ^ 64) some over) in
    div-eq_of_lt-le (2 ^ 64) x y

pub floor_unique : (z a d : ℤ) → pos 1 ≤ℤ d → (d *ℤ z) ≤ℤ a → a <ℤ (d *ℤ z +ℤ d) → int_div_euclid a d ≡ z
floor_unique z a d h low high =
    by_lt_z z (int_div_euclid a d)
    (λ lt.
    let next : (z +ℤ pos 1) ≤ℤ int_div_euclid a d = omega (arith, ints) in
    let times : (d *ℤ (z +ℤ pos 1)) ≤ℤ (d *ℤ int_div_euclid a d) = *ℤ-≤ d _ _ (omega (arith, ints)) next in
    absurd (omega (arith, ints, times, *ℤ-+ℤ d z (pos 1), floor-le a d h)))
    (λ le. omega (arith, ints, le, le-floor z a d h low))

-- floor ((w*d + r)*q / d) = floor (r*q / d) + w*q
pub quotient_in_parts : (w r d q : ℤ) → pos 1 ≤ℤ d → int_div_euclid (r *ℤ q) d +ℤ w *ℤ q ≡ int_div_euclid ((w *ℤ d +ℤ r) *ℤ q) d
quotient_in_parts w r d q h =
    let f : ℤ = int_div_euclid (r *ℤ q) d in
    let whole : (w *ℤ d +ℤ r) *ℤ q ≡ d *ℤ (w *ℤ q) +ℤ r *ℤ q = *ℤ_comm (w *ℤ d +ℤ r) q ∙ *ℤ-+ℤ q (w *ℤ d) r ∙ ap (λ z. z +ℤ q *ℤ r) (turned w d q) ∙ ap (λ z. d *ℤ (w *ℤ q) +ℤ z) (*ℤ_comm q r) in
    let parts : d *ℤ (f +ℤ w *ℤ q) ≡ d *ℤ f +ℤ d *ℤ (w *ℤ q) = *ℤ-+ℤ d f (w *ℤ q) in
    sym (floor_unique (f +ℤ w *ℤ q) ((w *ℤ d +ℤ r) *ℤ q) d h (omega (arith, ints, whole, parts, floor-le (r *ℤ q) d h)) (omega (arith, ints, whole, parts, lt-floor (r *ℤ q) d h)))
  where
    turned : (w d q : ℤ) → q *ℤ (w *ℤ d) ≡ d *ℤ (w *ℤ q)
    turned w d q = *ℤ_comm q (w *ℤ d) ∙ ap (λ z. z *ℤ q) (*ℤ_comm w d) ∙ *ℤ_assoc d w q

-- floor (m*(q + d) / d) = floor (m*q / d) + m
quotient_raised : (m q d : ℤ) → pos 1 ≤ℤ d → int_div_euclid (m *ℤ (q +ℤ d)) d ≡ int_div_euclid (m *ℤ q) d +ℤ m
quotient_raised m q d h =
    let f : ℤ = int_div_euclid (m *ℤ q) d in
    let whole : m *ℤ (q +ℤ d) ≡ m *ℤ q +ℤ d *ℤ m = *ℤ-+ℤ m q d ∙ ap (λ z. m *ℤ q +ℤ z) (*ℤ_comm m d) in
    let parts : d *ℤ (f +ℤ m) ≡ d *ℤ f +ℤ d *ℤ m = *ℤ-+ℤ d f m in
    floor_unique (f +ℤ m) (m *ℤ (q +ℤ d)) d h (omega (arith, ints, whole, parts, floor-le (m *ℤ q) d h)) (omega (arith, ints, whole, parts, lt-floor (m *ℤ q) d h))

-- whole*up + floor (part*up / 2^64) - micro = floor (micro*q / den), for up = q + den
pub narrow_is : (share : NarrowShare) (q : ℤ) (up : ℕ) → IsNarrow share → up ≤ share.den + share.den → pos up ≡ q +ℤ pos share.den →
    share.whole *ℤ pos up +ℤ pos (share.part * up / 2 ^ 64) -ℤ share.micro ≡ int_div_euclid (share.micro *ℤ q) (pos share.den)
narrow_is share q up keeps few e =
    let low : pos 1 ≤ℤ pos share.den = omega (arith, ints, keeps.den_low) in
    let by_part : share.part * up / 2 ^ 64 ≡ rest_of share * up / share.den = quotient_by_part share.part (rest_of share) share.den up keeps.den_low keeps.den_high few keeps.part_low keeps.part_high in
    let parts : pos (rest_of share * up / share.den) +ℤ share.whole *ℤ pos up ≡ int_div_euclid ((share.whole *ℤ pos share.den +ℤ pos (rest_of share)) *ℤ pos up) (pos share.den) = quotient_in_parts share.whole (pos (rest_of share)) (pos share.den) (pos up) low in
    let same : int_div_euclid ((share.whole *ℤ pos share.den +ℤ pos (rest_of share)) *ℤ pos up) (pos share.den) ≡ int_div_euclid (share.micro *ℤ (q +ℤ pos share.den)) (pos share.den) = rw (keeps.whole_is, e) refl in
    let raised = quotient_raised share.micro q (pos share.den) low in
    rw by_part (omega (arith, ints, parts, same, raised))

-- room
pub raised_room : (product den : ℕ) (factor : ℤ) → product ≤ 2 ^ 31 → den ≤ 2 ^ 31 → product * unsigned_abs factor ≤ den → unsigned_abs (pos product *ℤ factor) ≤ den
raised_room product den factor small narrow h = rw (unsigned_abs-mul (pos product) factor) h

pub ruleset raised_rules = (raised_room, to_z-of_z)

pub whole_room : (share : NarrowShare) (up : ℕ) → IsNarrow share → up ≤ share.den + share.den → unsigned_abs (share.whole *ℤ pos up) ≤ 2 ^ 60
whole_room share up keeps few =
    let near : unsigned_abs (share.whole *ℤ pos share.den) ≤ 2 ^ 55 + 2 ^ 31 = omega (arith, ints, keeps.whole_is, keeps.size, keeps.rest_high, keeps.den_high) in
    let less : unsigned_abs share.whole * up ≤ unsigned_abs share.whole * (share.den + share.den) = mul-le (unsigned_abs share.whole) up (unsigned_abs share.whole) (share.den + share.den) (omega arith) few in
    omega (arith, near, less, unsigned_abs-mul share.whole (pos up), unsigned_abs-mul share.whole (pos share.den))

pub over_room : (part up : ℕ) → part < 2 ^ 64 → up ≤ 2 ^ 32 → part * up / 2 ^ 64 ≤ 2 ^ 60
over_room part up h k =
    let all : part * up ≤ 2 ^ 64 * 2 ^ 32 = mul-le part up (2 ^ 64) (2 ^ 32) (omega arith) k in
    omega (arith, all)

pub ruleset value_rules = (narrow_is, whole_room, over_room, to_z-of_z)
