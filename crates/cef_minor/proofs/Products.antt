-- One product of counts lies above the plane of its slopes, by a telescoping sum over its places.
use Rattle.std.proofs.Common.{◌≡◌, ℕ, suc, ◌+◌, ◌*◌, ◌-◌, ◌≤◌, arith, ap, ◌∙◌, List, [], ◌∷◌}
use Rattle.std.specs.Prelude.{ℤ, pos, negsuc, ◌+ℤ◌, ◌-ℤ◌, ◌*ℤ◌, ◌≤ℤ◌}
use Rattle.std.proofs.lemmas.Int.{ints}
use Rattle.std.proofs.lemmas.Nat.{mul-le}
use Rattle.std.proofs.Math.Nat.{mul-le-mul_left, mul-le-mul_right}
use Rattle.cal_math.specs.Whole.{floor-le, pos-*ℤ-≤, *ℤ_comm, *ℤ_left, *ℤ-+ℤ}
use Rattle.cef_minor.specs.Planes.{IsWithin}
use Rattle.cef_minor.specs.Products.{product_at}
use Rattle.cef_minor.specs.Slopes.{earlier_of, slope_of, slopes_behind, rise_of}

-- the product of the earlier counts lies on that side of what stands for it where the weight is no greater with the latter
abbrev pub IsBeside : ℤ → ℕ → ℕ → Type 0
IsBeside (pos w) before counted = before ≤ counted
IsBeside (negsuc w) before counted = counted ≤ before

pub beside_more : (w : ℤ) (low high count : ℕ → ℕ) (site before counted : ℕ) → IsWithin low high count → IsBeside w before counted → IsBeside w (before * earlier_of w low high site) (counted * count site)
beside_more (pos w) low high count site before counted within h = mul-le before (low site) counted (count site) h (within site).0
beside_more (negsuc w) low high count site before counted within h = mul-le counted (count site) before (high site) h (within site).1

-- times any number of at least 0
pub beside_times : (w : ℤ) (before counted m : ℕ) → IsBeside w before counted → (w *ℤ pos (before * m)) ≤ℤ (w *ℤ pos (counted * m))
beside_times (pos w) before counted m h = pos-*ℤ-≤ w (pos (before * m)) (pos (counted * m)) (omega (arith, ints, mul-le-mul_right m h))
beside_times (negsuc w) before counted m h = omega (arith, ints, mul-le-mul_left (suc w) (mul-le-mul_right m h))

-- one place: d is the count less the low, b the product of the later lows
pub place_rise : (w : ℤ) (den before counted b d : ℕ) → 1 ≤ den → IsBeside w before counted → (pos den *ℤ (slope_of w den (before * b) *ℤ pos d)) ≤ℤ (pos 65536 *ℤ (w *ℤ pos (counted * (b * d))))
unfolding slope_of
place_rise w den before counted b d p h =
    let s : ℤ = slope_of w den (before * b) in
    let floor : (pos den *ℤ s) ≤ℤ (pos 65536 *ℤ (w *ℤ pos (before * b))) = floor-le _ (pos den) (omega (arith, ints)) in
    let times : (pos d *ℤ (pos den *ℤ s)) ≤ℤ (pos d *ℤ (pos 65536 *ℤ (w *ℤ pos (before * b)))) = pos-*ℤ-≤ d _ _ floor in
    let left : pos d *ℤ (pos den *ℤ s) ≡ pos den *ℤ (s *ℤ pos d) = *ℤ_left (pos d) (pos den) s ∙ ap (λ z. pos den *ℤ z) (*ℤ_comm (pos d) s) in
    let right : pos d *ℤ (pos 65536 *ℤ (w *ℤ pos (before * b))) ≡ pos 65536 *ℤ (w *ℤ pos (before * (b * d))) =
    *ℤ_left (pos d) (pos 65536) (w *ℤ pos (before * b)) ∙ ap (λ z. pos 65536 *ℤ z) (*ℤ_left (pos d) w (pos (before * b)) ∙ ap (λ n. w *ℤ pos n) (turned before b d)) in
    let side : (w *ℤ pos (before * (b * d))) ≤ℤ (w *ℤ pos (counted * (b * d))) = beside_times w before counted (b * d) h in
    omega (arith, ints, times, left, right, pos-*ℤ-≤ 65536 _ _ side)
  where
    turned : (x y z : ℕ) → z * (x * y) ≡ x * (y * z)
    turned x y z = grind arith

-- what the count of one place adds to the product
pub product_rise : (w : ℤ) (counted k low d a b : ℕ) → k ≡ low + d → w *ℤ pos (counted * (k * a)) -ℤ w *ℤ pos (counted * (low * b)) ≡ (w *ℤ pos (counted * k * a) -ℤ w *ℤ pos (counted * k * b)) +ℤ w *ℤ pos (counted * (b * d))
product_rise w counted k low d a b e =
    let first : counted * (k * a) ≡ counted * k * a = grind arith in
    let second : counted * k * b ≡ counted * (low * b) + counted * (b * d) = rw e (grind arith) in
    let parts : w *ℤ pos (counted * k * b) ≡ w *ℤ pos (counted * (low * b)) +ℤ w *ℤ pos (counted * (b * d)) = ap (λ n. w *ℤ pos n) second ∙ *ℤ-+ℤ w (pos (counted * (low * b))) (pos (counted * (b * d))) in
    omega (arith, ints, ap (λ n. w *ℤ pos n) first, parts)

-- den * (sum over the places of slope * (count - low)) <= 2^16 * weight * (product of the counts - product of the lows)
pub product_above : (w : ℤ) (den : ℕ) (low high count : ℕ → ℕ) (before counted : ℕ) (sites : List ℕ) → 1 ≤ den → IsWithin low high count → IsBeside w before counted → (pos den *ℤ rise_of (λ i. pos (count i) -ℤ pos (low i)) (slopes_behind (slope_of w den) (earlier_of w low high) low before sites)) ≤ℤ (pos 65536 *ℤ (w *ℤ pos (counted * product_at count sites) -ℤ w *ℤ pos (counted * product_at low sites)))
product_above w den low high count before counted [] p within h = omega (arith, ints)
product_above w den low high count before counted (site ∷ sites) p within h =
    let b : ℕ = product_at low sites in
    let d : ℕ = count site - low site in
    let s : ℤ = slope_of w den (before * b) in
    let rest : ℤ = rise_of (λ i. pos (count i) -ℤ pos (low i)) (slopes_behind (slope_of w den) (earlier_of w low high) low (before * earlier_of w low high site) sites) in
    let lower : low site ≤ count site = (within site).0 in
    let is : count site ≡ low site + d = omega arith in
    let width : pos (count site) -ℤ pos (low site) ≡ pos d = omega (arith, ints) in
    let here : (pos den *ℤ (s *ℤ (pos (count site) -ℤ pos (low site)))) ≤ℤ (pos 65536 *ℤ (w *ℤ pos (counted * (b * d)))) = rw width (place_rise w den before counted b d p h) in
    let there : (pos den *ℤ rest) ≤ℤ (pos 65536 *ℤ (w *ℤ pos (counted * count site * product_at count sites) -ℤ w *ℤ pos (counted * count site * b))) = product_above w den low high count (before * earlier_of w low high site) (counted * count site) sites p within (beside_more w low high count site before counted within h) in
    omega (arith, ints, here, there, *ℤ-+ℤ (pos den) (s *ℤ (pos (count site) -ℤ pos (low site))) rest, product_rise w counted (count site) (low site) d (product_at count sites) b is)
