-- The plane of a parameter is below it throughout its box: products summed, floors taken, places gathered at their sites.
use Rattle.std.proofs.Common.{◌≡◌, ℕ, ◌*◌, ◌≤◌, arith, ap, List, [], ◌∷◌, ◌++◌}
use Rattle.std.specs.Prelude.{ℤ, pos, negsuc, ◌+ℤ◌, ◌-ℤ◌, ◌*ℤ◌, ◌≤ℤ◌, ◌<ℤ◌}
use Rattle.std.specs.Int.{int_div_euclid}
use Rattle.std.proofs.lemmas.Int.{ints}
use Rattle.cal_math.specs.Whole.{floor-le, lt-floor, ≤ℤ-*ℤ_cancel, *ℤ_assoc, *ℤ_left, *ℤ-+ℤ}
use Rattle.cef_minor.specs.Planes.{IsWithin}
use Rattle.cef_minor.specs.Products.{SignedProduct, product_at, q_of, value_of}
use Rattle.cef_minor.specs.Slopes.{SlopeAt, earlier_of, slope_of, slopes_behind, slopes_of_product, slopes_of, rise_of, corner_of}
use Rattle.cef_minor.proofs.Products.{IsBeside, product_above}

pub beside_one : (w : ℤ) → IsBeside w 1 1
beside_one (pos w) = omega arith
beside_one (negsuc w) = omega arith

-- one product from its first place on
pub whole_product_above : (w : ℤ) (den : ℕ) (low high count : ℕ → ℕ) (sites : List ℕ) → 1 ≤ den → IsWithin low high count → (pos den *ℤ rise_of (λ i. pos (count i) -ℤ pos (low i)) (slopes_behind (slope_of w den) (earlier_of w low high) low 1 sites)) ≤ℤ (pos 65536 *ℤ (w *ℤ pos (product_at count sites) -ℤ w *ℤ pos (product_at low sites)))
whole_product_above w den low high count sites p within =
    let h = product_above w den low high count 1 1 sites p within (beside_one w) in
    let first : 1 * product_at count sites ≡ product_at count sites = omega arith in
    let second : 1 * product_at low sites ≡ product_at low sites = omega arith in
    omega (arith, ints, h, ap (λ n. w *ℤ pos n) first, ap (λ n. w *ℤ pos n) second)

pub rise-append : (x : ℕ → ℤ) (a b : List SlopeAt) → rise_of x (a ++ b) ≡ rise_of x a +ℤ rise_of x b
rise-append x [] b = omega (arith, ints)
rise-append x (s ∷ a) b = omega (arith, ints, rise-append x a b)

-- the sum over the products
pub products_above : (micro : ℤ) (den : ℕ) (low high count : ℕ → ℕ) (products : List SignedProduct) → 1 ≤ den → IsWithin low high count → (pos den *ℤ rise_of (λ i. pos (count i) -ℤ pos (low i)) (slopes_of micro den low high products)) ≤ℤ (pos 65536 *ℤ (micro *ℤ q_of count products -ℤ micro *ℤ q_of low products))
products_above micro den low high count [] p within = omega (arith, ints)
products_above micro den low high count (one ∷ products) p within =
    let x : ℕ → ℤ = λ i. pos (count i) -ℤ pos (low i) in
    let f : ℤ = one.coefficient in
    let here : (pos den *ℤ rise_of x (slopes_of_product micro den low high one)) ≤ℤ (pos 65536 *ℤ ((micro *ℤ f) *ℤ pos (product_at count one.sites) -ℤ (micro *ℤ f) *ℤ pos (product_at low one.sites))) = whole_product_above (micro *ℤ f) den low high count one.sites p within in
    let there : (pos den *ℤ rise_of x (slopes_of micro den low high products)) ≤ℤ (pos 65536 *ℤ (micro *ℤ q_of count products -ℤ micro *ℤ q_of low products)) = products_above micro den low high count products p within in
    let joined : rise_of x (slopes_of_product micro den low high one ++ slopes_of micro den low high products) ≡ rise_of x (slopes_of_product micro den low high one) +ℤ rise_of x (slopes_of micro den low high products) = rise-append x (slopes_of_product micro den low high one) (slopes_of micro den low high products) in
    omega (
      arith,
      ints,
      here,
      there,
      ap (λ z. pos den *ℤ z) joined,
      *ℤ-+ℤ (pos den) (rise_of x (slopes_of_product micro den low high one)) (rise_of x (slopes_of micro den low high products)),
      *ℤ-+ℤ micro (f *ℤ pos (product_at count one.sites)) (q_of count products),
      *ℤ-+ℤ micro (f *ℤ pos (product_at low one.sites)) (q_of low products),
      *ℤ_assoc micro f (pos (product_at count one.sites)),
      *ℤ_assoc micro f (pos (product_at low one.sites)),
    )

-- den * Z <= micro * (q at the lows)
pub corner_below : (micro : ℤ) (den : ℕ) (low : ℕ → ℕ) (products : List SignedProduct) → 1 ≤ den → (pos den *ℤ corner_of micro den low products) ≤ℤ (micro *ℤ q_of low products)
corner_below micro den low [] p = omega (arith, ints)
corner_below micro den low (one ∷ products) p =
    let f : ℤ = one.coefficient in
    let m : ℤ = (micro *ℤ f) *ℤ pos (product_at low one.sites) in
    let part : ℤ = int_div_euclid m (pos den) in
    let here : (pos den *ℤ part) ≤ℤ m = floor-le m (pos den) (omega (arith, ints)) in
    omega (
      arith,
      ints,
      here,
      corner_below micro den low products p,
      *ℤ-+ℤ (pos den) part (corner_of micro den low products),
      *ℤ-+ℤ micro (f *ℤ pos (product_at low one.sites)) (q_of low products),
      *ℤ_assoc micro f (pos (product_at low one.sites)),
    )

-- floors: a number over den that is no more than 2^16 * m is at most 2^16 * (floor (m / den) + 1)
pub floors_close : (den : ℕ) (z rise m : ℤ) → 1 ≤ den → (pos den *ℤ (pos 65536 *ℤ z +ℤ rise)) ≤ℤ (pos 65536 *ℤ m) → (pos 65536 *ℤ (z -ℤ pos 1) +ℤ rise) ≤ℤ (pos 65536 *ℤ int_div_euclid m (pos den))
floors_close den z rise m p h =
    let v : ℤ = int_div_euclid m (pos den) in
    let above : m <ℤ (pos den *ℤ v +ℤ pos den) = lt-floor m (pos den) (omega (arith, ints)) in
    let turned : pos den *ℤ (pos 65536 *ℤ (v +ℤ pos 1)) ≡ pos 65536 *ℤ (pos den *ℤ (v +ℤ pos 1)) = *ℤ_left (pos den) (pos 65536) (v +ℤ pos 1) in
    let opened : pos den *ℤ (v +ℤ pos 1) ≡ pos den *ℤ v +ℤ pos den *ℤ pos 1 = *ℤ-+ℤ (pos den) v (pos 1) in
    let most : (pos den *ℤ (pos 65536 *ℤ z +ℤ rise)) ≤ℤ (pos den *ℤ (pos 65536 *ℤ (v +ℤ pos 1))) = omega (arith, ints) in
    let last : (pos 65536 *ℤ z +ℤ rise) ≤ℤ (pos 65536 *ℤ (v +ℤ pos 1)) = ≤ℤ-*ℤ_cancel den _ _ p most in
    omega (arith, ints)

-- 2^16 * (Z - 1) + sum over the places of slope * (count - low) <= 2^16 * value
pub places_below : (micro : ℤ) (den : ℕ) (low high count : ℕ → ℕ) (products : List SignedProduct) → 1 ≤ den → IsWithin low high count → (pos 65536 *ℤ (corner_of micro den low products -ℤ pos 1) +ℤ rise_of (λ i. pos (count i) -ℤ pos (low i)) (slopes_of micro den low high products)) ≤ℤ (pos 65536 *ℤ value_of micro den (q_of count products))
places_below micro den low high count products p within =
    let z : ℤ = corner_of micro den low products in
    let rise : ℤ = rise_of (λ i. pos (count i) -ℤ pos (low i)) (slopes_of micro den low high products) in
    let above : (pos den *ℤ rise) ≤ℤ (pos 65536 *ℤ (micro *ℤ q_of count products -ℤ micro *ℤ q_of low products)) = products_above micro den low high count products p within in
    let corner : (pos den *ℤ z) ≤ℤ (micro *ℤ q_of low products) = corner_below micro den low products p in
    floors_close den z rise (micro *ℤ q_of count products) p (omega (arith, ints, above, corner, *ℤ-+ℤ (pos den) (pos 65536 *ℤ z) rise, *ℤ_left (pos den) (pos 65536) z))
