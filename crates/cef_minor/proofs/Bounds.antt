-- The magnitudes of the slopes and of the constant.
use Rattle.std.proofs.Common.{◌≡◌, ℕ, zero, suc, ◌+◌, ◌*◌, ◌^◌, ◌<◌, ◌≤◌, List, [], ◌∷◌, ◌++◌, length, refl, arith, ap, sym, ◌∙◌, Bool, true, false}
use Rattle.std.specs.Prelude.{ℤ, pos, negsuc, ◌+ℤ◌, ◌-ℤ◌, ◌*ℤ◌, unsigned_abs, if◌then◌else◌}
use Rattle.std.specs.Int.{int_div_euclid}
use Rattle.std.specs.List.{AllByRecursion}
use Rattle.std.proofs.lemmas.Int.{ints, unsigned_abs-mul}
use Rattle.std.proofs.lemmas.List.{length-append}
use Rattle.std.proofs.lemmas.Nat.{mul-le}
use Rattle.std.proofs.Math.Nat.{mul-le-mul_left, mul-le-mul_right, one-le-pow, pow-suc, pow-zero}
use Rattle.cal_math.specs.Whole.{abs-*ℤ-le}
use Rattle.cef_minor.specs.declared.form.Form.{Form}
use Rattle.cef_minor.specs.declared.form.Form.TheVariants.{Plain, Difference, Weighted}
use Rattle.cef_minor.specs.Kept.{IsFormIn, factor_most}
use Rattle.cef_minor.specs.Planes.{are_fixed, level_plane, plane_of, sloping_plane, sum_to}
use Rattle.cef_minor.specs.Products.{SignedProduct, product_at, products_of, q_of, value_of}
use Rattle.cef_minor.specs.Slopes.{SlopeAt, corner_of, earlier_of, share, site_slope, slope_of, slopes_behind, slopes_of, slopes_of_product}
use Rattle.cef_minor.proofs.Levels.{product_size, q_is, q_size, value_size}
use Rattle.cef_minor.proofs.Rooms.{next_room, share_size}
use Rattle.cef_minor.proofs.Steps.{floor_size}
use Rattle.cef_minor.proofs.Sums.{slope-append}

-- the slope of a place, N being at least 10: 2^16 / 10 is below 6554
place_small : (w : ℤ) (den z n m : ℕ) → 10 ≤ n → 1 ≤ den → unsigned_abs w * (z * n) ≤ m * den → unsigned_abs (slope_of w den z) ≤ 6554 * m
unfolding slope_of
place_small w den z n m ten some h =
    let parted : unsigned_abs (pos 65536 *ℤ (w *ℤ pos z)) ≡ 65536 * (unsigned_abs w * z) = unsigned_abs-mul (pos 65536) (w *ℤ pos z) ∙ ap (λ x. 65536 * x) (unsigned_abs-mul w (pos z)) in
    let turned : unsigned_abs w * (z * n) ≡ unsigned_abs w * z * n = grind arith in
    let ten_times : unsigned_abs w * z * 10 ≤ unsigned_abs w * z * n = mul-le-mul_left (unsigned_abs w * z) ten in
    let moved : 6554 * m * den ≡ 6554 * (m * den) = grind arith in
    floor_size (pos 65536 *ℤ (w *ℤ pos z)) (6554 * m) den some (rw (parted, moved) (omega (arith, ten_times, turned, h)))

sum_size : (a b : ℤ) (m n : ℕ) → unsigned_abs a ≤ m → unsigned_abs b ≤ n → unsigned_abs (a +ℤ b) ≤ m + n
sum_size a b m n h k = omega (arith, ints)

-- the slopes of a product's places at one site
behind_small : (w : ℤ) (den n m : ℕ) (earlier low : ℕ → ℕ) (before : ℕ) (sites : List ℕ) (i : ℕ) → 10 ≤ n → 1 ≤ den → ((s : ℕ) → earlier s ≤ n) → ((s : ℕ) → low s ≤ n) → unsigned_abs w * (before * n ^ length sites) ≤ m * den →
    unsigned_abs (site_slope (slopes_behind (slope_of w den) earlier low before sites) i) ≤ length sites * (6554 * m)
behind_small w den n m earlier low before [] i ten some e l h = omega arith
behind_small w den n m earlier low before (site ∷ later) i ten some e l h =
    let k : ℕ = length later in
    let z : ℕ = before * product_at low later in
    let product : product_at low later * n ≤ n ^ suc k = omega (arith, pow-suc n k, mul-le-mul_right n (product_size n low later l)) in
    let turned : z * n ≡ before * (product_at low later * n) = grind arith in
    let room : z * n ≤ before * n ^ suc k = omega (arith, turned, mul-le-mul_left before product) in
    let here : unsigned_abs (slope_of w den z) ≤ 6554 * m = place_small w den z n m ten some (omega (arith, h, mul-le-mul_left (unsigned_abs w) room)) in
    let first : unsigned_abs (share site (slope_of w den z) i) ≤ 6554 * m = share_size site i (slope_of w den z) (6554 * m) here in
    let next : before * earlier site * n ^ k ≤ before * n ^ suc k = next_room n before (earlier site) k (e site) in
    let rest : unsigned_abs (site_slope (slopes_behind (slope_of w den) earlier low (before * earlier site) later) i) ≤ k * (6554 * m) =
    behind_small w den n m earlier low (before * earlier site) later i ten some e l (omega (arith, h, mul-le-mul_left (unsigned_abs w) next)) in
    let both = sum_size (share site (slope_of w den z) i) (site_slope (slopes_behind (slope_of w den) earlier low (before * earlier site) later) i) (6554 * m) (k * (6554 * m)) first rest in
    let one_more : 6554 * m + k * (6554 * m) ≡ suc k * (6554 * m) = grind arith in
    omega (arith, both, one_more)

-- the size of a coefficient times the counts of its sites
abbrev pub HasRoom : ℕ → ℕ → SignedProduct → Type 0
HasRoom n den p = (unsigned_abs p.coefficient * n ^ length p.sites ≤ den) × (length p.sites ≤ 22)

earlier_small : (w : ℤ) (low high : ℕ → ℕ) (n : ℕ) → ((s : ℕ) → low s ≤ n) → ((s : ℕ) → high s ≤ n) → (s : ℕ) → earlier_of w low high s ≤ n
earlier_small (pos w) low high n l h s = l s
earlier_small (negsuc w) low high n l h s = h s

weight_times : (micro f : ℤ) (power den : ℕ) → unsigned_abs f * power ≤ den → unsigned_abs (micro *ℤ f) * (1 * power) ≤ unsigned_abs micro * den
weight_times micro f power den h =
    let parted : unsigned_abs (micro *ℤ f) ≡ unsigned_abs micro * unsigned_abs f = unsigned_abs-mul micro f in
    let turned : unsigned_abs micro * unsigned_abs f * (1 * power) ≡ unsigned_abs micro * (unsigned_abs f * power) = grind arith in
    rw (parted, turned) (mul-le-mul_left (unsigned_abs micro) h)

pub slopes_small : (micro : ℤ) (den n : ℕ) (low high : ℕ → ℕ) (products : List SignedProduct) (i : ℕ) → 10 ≤ n → 1 ≤ den → ((s : ℕ) → low s ≤ n) → ((s : ℕ) → high s ≤ n) → AllByRecursion (HasRoom n den) products →
    unsigned_abs (site_slope (slopes_of micro den low high products) i) ≤ length products * (22 * (6554 * unsigned_abs micro))
slopes_small micro den n low high [] i ten some l h all = omega arith
slopes_small micro den n low high (p ∷ products) i ten some l h all =
    let w : ℤ = micro *ℤ p.coefficient in
    let m : ℕ = 6554 * unsigned_abs micro in
    let first : unsigned_abs (site_slope (slopes_of_product micro den low high p) i) ≤ length p.sites * m =
    behind_small w den n (unsigned_abs micro) (earlier_of w low high) low 1 p.sites i ten some (earlier_small w low high n l h) l (weight_times micro p.coefficient (n ^ length p.sites) den all.0.0) in
    let few : length p.sites * m ≤ 22 * m = mul-le-mul_right m all.0.1 in
    let rest = slopes_small micro den n low high products i ten some l h all.1 in
    let both = sum_size (site_slope (slopes_of_product micro den low high p) i) (site_slope (slopes_of micro den low high products) i) (22 * m) (length products * (22 * m)) (omega (arith, first, few)) rest in
    let one_more : 22 * m + length products * (22 * m) ≡ suc (length products) * (22 * m) = grind arith in
    rw (slope-append (slopes_of_product micro den low high p) (slopes_of micro den low high products) i) (omega (arith, both, one_more))

pub corner_small : (micro : ℤ) (den n : ℕ) (low : ℕ → ℕ) (products : List SignedProduct) → 1 ≤ den → ((s : ℕ) → low s ≤ n) → AllByRecursion (HasRoom n den) products → unsigned_abs (corner_of micro den low products) ≤ length products * unsigned_abs micro
corner_small micro den n low [] some l all = omega arith
corner_small micro den n low (p ∷ products) some l all =
    let w : ℤ = micro *ℤ p.coefficient in
    let k : ℕ = product_at low p.sites in
    let parted : unsigned_abs (w *ℤ pos k) ≡ unsigned_abs w * k = unsigned_abs-mul w (pos k) in
    let most : unsigned_abs w * k ≤ unsigned_abs w * (1 * n ^ length p.sites) = mul-le-mul_left (unsigned_abs w) (omega (arith, product_size n low p.sites l)) in
    let room : unsigned_abs (w *ℤ pos k) ≤ unsigned_abs micro * den = omega (arith, parted, most, weight_times micro p.coefficient (n ^ length p.sites) den all.0.0) in
    let first : unsigned_abs (int_div_euclid (w *ℤ pos k) (pos den)) ≤ unsigned_abs micro = floor_size (w *ℤ pos k) (unsigned_abs micro) den some room in
    let rest = corner_small micro den n low products some l all.1 in
    let both = sum_size (int_div_euclid (w *ℤ pos k) (pos den)) (corner_of micro den low products) (unsigned_abs micro) (length products * unsigned_abs micro) first rest in
    let one_more : unsigned_abs micro + length products * unsigned_abs micro ≡ suc (length products) * unsigned_abs micro = grind arith in
    omega (arith, both, one_more)

sum_to-size : (n m : ℕ) (f : ℕ → ℤ) → ((i : ℕ) → unsigned_abs (f i) ≤ m) → unsigned_abs (sum_to n f) ≤ n * m
sum_to-size zero m f h = omega arith
sum_to-size (suc n) m f h =
    let one_more : n * m + m ≡ suc n * m = grind arith in
    omega (arith, sum_size (sum_to n f) (f n) (n * m) m (sum_to-size n m f h) (h n), one_more)

-- the products of an array have room, and are five at most
added_length : (all : List ℕ) (site : ℕ) → length (all ++ site ∷ []) ≡ suc (length all)
added_length all site = length-append all (site ∷ []) ∙ omega arith

added_power : (n : ℕ) (all : List ℕ) (site : ℕ) → n ^ length (all ++ site ∷ []) ≡ n ^ length all * n
added_power n all site = ap (λ (k : ℕ). n ^ k) (added_length all site) ∙ pow-suc n (length all)

pub products_room : (n den : ℕ) (form : Form) (all : List ℕ) → length all ≤ 21 → den ≡ n ^ length all * factor_most n form → AllByRecursion (HasRoom n den) (products_of n form all)
products_room n den Plain all few e = ((omega (arith, e), omega (arith, few)), tt)
products_room n den (Difference i j) all few e = (
  (omega (arith, e, added_power n all i), omega (arith, few, added_length all i)),
  ((omega (arith, e, added_power n all j), omega (arith, few, added_length all j)), tt),
)
products_room n den (Weighted o i j k) all few e =
    let is : den ≡ 3 * (n ^ length all * n) = e ∙ turned (n ^ length all) n in (
      (omega (arith, is, added_power n all o), omega (arith, few, added_length all o)),
      (
        (omega (arith, is, swapped n (n ^ length all)), omega (arith, few)),
        (
          (omega (arith, is, added_power n all i), omega (arith, few, added_length all i)),
          (
            (omega (arith, is, added_power n all j), omega (arith, few, added_length all j)),
            ((omega (arith, is, added_power n all k), omega (arith, few, added_length all k)), tt),
          ),
        ),
      ),
    )
  where
    turned : (p n : ℕ) → p * (3 * n) ≡ 3 * (p * n)
    turned p n = grind arith

    swapped : (n p : ℕ) → n * p ≡ p * n
    swapped n p = grind arith

products_few : (n : ℕ) (form : Form) (all : List ℕ) → length (products_of n form all) ≤ 5
products_few n Plain all = omega arith
products_few n (Difference i j) all = omega arith
products_few n (Weighted o i j k) all = omega arith

-- a slope of the plane
pub sloping_small : (micro : ℤ) (den n : ℕ) (low high : ℕ → ℕ) (form : Form) (all : List ℕ) (i : ℕ) → 10 ≤ n → 1 ≤ den → ((s : ℕ) → low s ≤ n) → ((s : ℕ) → high s ≤ n) → length all ≤ 21 → den ≡ n ^ length all * factor_most n form →
    unsigned_abs (site_slope (slopes_of micro den low high (products_of n form all)) i) ≤ unsigned_abs micro * 2 ^ 20
sloping_small micro den n low high form all i ten some l h few e =
    let m : ℕ = 22 * (6554 * unsigned_abs micro) in
    let each = slopes_small micro den n low high (products_of n form all) i ten some l h (products_room n den form all few e) in
    omega (arith, each, mul-le-mul_right m (products_few n form all))

pub plane_slopes : (sites : ℕ) (micro : ℤ) (den n : ℕ) (low high : ℕ → ℕ) (form : Form) (all : List ℕ) (i : ℕ) → 10 ≤ n → 1 ≤ den → ((s : ℕ) → low s ≤ n) → ((s : ℕ) → high s ≤ n) → length all ≤ 21 → den ≡ n ^ length all * factor_most n form →
    unsigned_abs ((plane_of sites micro den low high all (products_of n form all)).slope i) ≤ unsigned_abs micro * 2 ^ 20
plane_slopes sites micro den n low high form all i ten some l h few e = by (are_fixed low high all)
  where
    by : (b : Bool) → unsigned_abs ((if b then level_plane micro den low (products_of n form all) else sloping_plane sites micro den low high (products_of n form all)).slope i) ≤ unsigned_abs micro * 2 ^ 20
    by true = omega arith
    by false = sloping_small micro den n low high form all i ten some l h few e

pub plane_constant : (sites : ℕ) (micro : ℤ) (den n : ℕ) (low high : ℕ → ℕ) (form : Form) (all : List ℕ) → 10 ≤ n → n ≤ 1000 → sites ≤ 90 → IsFormIn sites form → 1 ≤ den → ((s : ℕ) → low s ≤ n) → ((s : ℕ) → high s ≤ n) → length all ≤ 21 → den ≡ n ^ length all * factor_most n form →
    unsigned_abs ((plane_of sites micro den low high all (products_of n form all)).constant) ≤ unsigned_abs micro * 2 ^ 40 + 2 ^ 16
plane_constant sites micro den n low high form all ten thousand ninety inside some l h few e = by (are_fixed low high all)
  where
    m : ℕ
    m = unsigned_abs micro

    products : List SignedProduct
    products = products_of n form all

    slope : ℕ → ℤ
    slope = site_slope (slopes_of micro den low high products)

    level : unsigned_abs (pos 65536 *ℤ value_of micro den (q_of low products)) ≤ m * 2 ^ 40 + 2 ^ 16
    level =
        let q : unsigned_abs (q_of low products) ≤ den = rw (q_is n low form all, e) (q_size n sites low form all l inside) in
        let value : unsigned_abs (value_of micro den (q_of low products)) ≤ m = value_size micro (q_of low products) den some q in
        omega (arith, abs-*ℤ-le (pos 65536) (value_of micro den (q_of low products)) 65536 m (omega arith) value)

    fall : (i : ℕ) → unsigned_abs (slope i *ℤ pos (low i)) ≤ m * 2 ^ 20 * 1000
    fall i = abs-*ℤ-le (slope i) (pos (low i)) (m * 2 ^ 20) 1000 (sloping_small micro den n low high form all i ten some l h few e) (omega (arith, l i, thousand))

    parts : (z falls : ℤ) (m : ℕ) → unsigned_abs z ≤ 5 * m → unsigned_abs falls ≤ 90 * (m * 2 ^ 20 * 1000) → unsigned_abs (pos 65536 *ℤ (z -ℤ pos 1) -ℤ falls) ≤ m * 2 ^ 40 + 2 ^ 16
    parts z falls m a b = omega (arith, ints)

    sloping : unsigned_abs (pos 65536 *ℤ (corner_of micro den low products -ℤ pos 1) -ℤ sum_to sites (λ i. slope i *ℤ pos (low i))) ≤ m * 2 ^ 40 + 2 ^ 16
    sloping =
        let corner = corner_small micro den n low products some l (products_room n den form all few e) in
        let five : unsigned_abs (corner_of micro den low products) ≤ 5 * m = omega (arith, corner, mul-le-mul_right m (products_few n form all)) in
        let falls = sum_to-size sites (m * 2 ^ 20 * 1000) (λ i. slope i *ℤ pos (low i)) fall in
        parts (corner_of micro den low products) (sum_to sites (λ i. slope i *ℤ pos (low i))) m five (omega (arith, falls, mul-le-mul_right (m * 2 ^ 20 * 1000) ninety))

    by : (b : Bool) → unsigned_abs ((if b then level_plane micro den low products else sloping_plane sites micro den low high products).constant) ≤ m * 2 ^ 40 + 2 ^ 16
    by true = level
    by false = sloping
