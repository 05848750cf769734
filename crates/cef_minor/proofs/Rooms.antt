-- What the recursion over the places of a product keeps.
use Rattle.std.proofs.Common.{◌≡◌, ℕ, zero, suc, ◌+◌, ◌*◌, ◌^◌, ◌<◌, ◌≤◌, arith, refl, ap, sym, ◌∙◌, List, [], ◌∷◌, length}
use Rattle.std.specs.Prelude.{ℤ, pos, negsuc, ◌+ℤ◌, ◌-ℤ◌, ◌*ℤ◌, ◌≤ℤ◌, ◌<ℤ◌, unsigned_abs, if◌then◌else◌, nat_eq, Bool, true, false}
use Rattle.std.proofs.lemmas.Int.{ints, to_z-of_z}
use Rattle.std.proofs.lemmas.Nat.{mul-le}
use Rattle.std.proofs.Math.Nat.{mul-le-mul_left, mul-le-mul_right, one-le-pow, pow-suc, pow-zero}
use Rattle.std.specs.Int.{int_div_euclid}
use Rattle.std.specs.List.{AllByRecursion}
use Rattle.cal_math.specs.Whole.{abs-*ℤ-le}
use Rattle.std.proofs.lemmas.Int.{unsigned_abs-mul}
use Rattle.std.specs.Prelude.{slice_index_or}
use Rattle.cef_minor.specs.Raised.{AreWithin}
use Rattle.cef_minor.specs.Products.{product_at}
use Rattle.cef_minor.specs.Slopes.{slope_of, share, site_slope, slopes_behind, rise_of, earlier_of}

-- before * (product of the later lows) has room
pub z_room : (n before rest size : ℕ) → 1 ≤ n → rest ≤ n ^ size → before * rest ≤ before * n ^ suc size
z_room n before rest size some h =
    let more : n ^ size ≤ n ^ suc size = omega (arith, pow-suc n size, mul-le-mul_right (n ^ size) some) in
    mul-le-mul_left before (omega (arith, h, more))

pub next_room : (n before count size : ℕ) → count ≤ n → before * count * n ^ size ≤ before * n ^ suc size
next_room n before count size h =
    let e : before * count * n ^ size ≡ before * (count * n ^ size) = grind arith in
    let f : count * n ^ size ≤ n ^ suc size = omega (arith, pow-suc n size, mul-le-mul_right (n ^ size) h) in
    omega (arith, e, mul-le-mul_left before f)

pub next_small : (n before count size k : ℕ) → 1 ≤ n → count ≤ n → before * n ^ suc size ≤ k → before * count ≤ k
next_small n before count size k some h room =
    let one : 1 ≤ n ^ size = one-le-pow size n some in
    let f : count * 1 ≤ n ^ suc size = omega (arith, pow-suc n size, mul-le count 1 n (n ^ size) h one) in
    omega (arith, mul-le-mul_left before f)

pub weight_room : (w a b k : ℕ) → a ≤ b → w * b ≤ k → w * a ≤ k
weight_room w a b k h room = omega (arith, mul-le-mul_left w h)

-- a slope in one place is at most as large as the slope
pub share_size : (site i : ℕ) (slope : ℤ) (m : ℕ) → unsigned_abs slope ≤ m → unsigned_abs (share site slope i) ≤ m
share_size site i slope m h = cases (nat_eq site i)
  where
    cases : (b : Bool) → unsigned_abs (if b then slope else pos 0) ≤ m
    cases true = h
    cases false = omega arith

pub later_room : (old now part : ℤ) (size : ℕ) → now ≡ old +ℤ part → unsigned_abs part ≤ 2 ^ 72 → unsigned_abs old + suc size * 2 ^ 72 ≤ 2 ^ 125 → unsigned_abs now + size * 2 ^ 72 ≤ 2 ^ 125
later_room old now part size e h room = omega (arith, ints)

-- the slopes of the first place and of the later ones
pub added : (old now new part rest : ℤ) → now ≡ old +ℤ part → new ≡ now +ℤ rest → new ≡ old +ℤ (part +ℤ rest)
added old now new part rest e f = omega (arith, ints)

-- what the first place and the later ones give is what all give
pub places_step : (weight again : ℤ) (den : ℕ) (earlier low : ℕ → ℕ) (before site product count : ℕ) (sites later : List ℕ) (slope old now new : ℤ) (i : ℕ) → again ≡ weight → sites ≡ site ∷ later → product ≡ product_at low later → slope ≡ slope_of again den (before * product) → count ≡ earlier site → now ≡ old +ℤ share site slope i → new ≡ now +ℤ site_slope (slopes_behind (slope_of again den) earlier low (before * count) later) i → new ≡ old +ℤ site_slope (slopes_behind (slope_of weight den) earlier low before sites) i
places_step weight again den earlier low before site product count sites later slope old now new i w s p sl k e f =
    let slope_is : slope ≡ slope_of weight den (before * product_at low later) = sl ∙ ap (λ x. slope_of x den (before * product)) w ∙ ap (λ x. slope_of weight den (before * x)) p in
    let rest_is : site_slope (slopes_behind (slope_of again den) earlier low (before * count) later) i ≡ site_slope (slopes_behind (slope_of weight den) earlier low (before * earlier site) later) i =
    ap (λ x. site_slope (slopes_behind (slope_of x den) earlier low (before * count) later) i) w ∙ ap (λ x. site_slope (slopes_behind (slope_of weight den) earlier low (before * x) later) i) k in
    let now_is : now ≡ old +ℤ share site (slope_of weight den (before * product_at low later)) i = e ∙ ap (λ x. old +ℤ share site x i) slope_is in
    let new_is : new ≡ now +ℤ site_slope (slopes_behind (slope_of weight den) earlier low (before * earlier site) later) i = f ∙ ap (λ x. now +ℤ x) rest_is in
    rw s (added old now new _ _ now_is new_is)

pub part_size : (slope : ℤ) (low : ℕ) → unsigned_abs slope ≤ 2 ^ 72 → low < 2 ^ 16 → unsigned_abs (slope *ℤ pos low) ≤ 2 ^ 88
part_size slope low h k = omega (arith, abs-*ℤ-le slope (pos low) (2 ^ 72) (2 ^ 16) h (omega (arith, k)))

pub ruleset part_rules = (part_size, to_z-of_z)

-- slope times low of the first place and of the later ones
pub rise_step : (weight again : ℤ) (den : ℕ) (earlier low : ℕ → ℕ) (before site product count here : ℕ) (sites later : List ℕ) (slope rest all : ℤ) → again ≡ weight → sites ≡ site ∷ later → product ≡ product_at low later → slope ≡ slope_of again den (before * product) → count ≡ earlier site → here ≡ low site → rest ≡ rise_of (λ s. pos (low s)) (slopes_behind (slope_of again den) earlier low (before * count) later) → all ≡ slope *ℤ pos here +ℤ rest → all ≡ rise_of (λ s. pos (low s)) (slopes_behind (slope_of weight den) earlier low before sites)
rise_step weight again den earlier low before site product count here sites later slope rest all w s p sl k l r e =
    let slope_is : slope ≡ slope_of weight den (before * product_at low later) = sl ∙ ap (λ x. slope_of x den (before * product)) w ∙ ap (λ x. slope_of weight den (before * x)) p in
    let rest_is : rest ≡ rise_of (λ s. pos (low s)) (slopes_behind (slope_of weight den) earlier low (before * earlier site) later) =
    r ∙ ap (λ x. rise_of (λ s. pos (low s)) (slopes_behind (slope_of x den) earlier low (before * count) later)) w ∙ ap (λ x. rise_of (λ s. pos (low s)) (slopes_behind (slope_of weight den) earlier low (before * x) later)) k in
    rw s (e ∙ ap (λ x. x *ℤ pos here +ℤ rest) slope_is ∙ ap (λ x. slope_of weight den (before * product_at low later) *ℤ pos x +ℤ rest) l ∙ ap (λ x. slope_of weight den (before * product_at low later) *ℤ pos (low site) +ℤ x) rest_is)

pub ruleset places_rules = (pow-suc, pow-zero, to_z-of_z)

pub earlier_below : (weight : ℤ) (low high : ℕ → ℕ) → weight <ℤ pos 0 → earlier_of weight low high ≡ high
earlier_below (negsuc w) low high h = refl
earlier_below (pos w) low high h = absurd (omega (arith, ints))

pub earlier_above : (weight : ℤ) (low high : ℕ → ℕ) → pos 0 ≤ℤ weight → earlier_of weight low high ≡ low
earlier_above (pos w) low high h = refl
earlier_above (negsuc w) low high h = absurd (omega (arith, ints))

pub one_room : (m k : ℕ) → m ≤ k → 1 * m ≤ k
one_room m k h = omega arith

pub one_weight : (w m k : ℕ) → w * m ≤ k → w * (1 * m) ≤ k
one_weight w m k h = rw (alone m) h
  where
    alone : (m : ℕ) → 1 * m ≡ m
    alone m = omega arith

pub ruleset product_rules = (earlier_below, earlier_above, one_room, one_weight, weight_room, to_z-of_z)

-- the slopes and the part of a whole product, `stand` being what stands for the earlier places
pub product_slopes : (weight again : ℤ) (den : ℕ) (low high stand : ℕ → ℕ) (sites : List ℕ) (old new : ℤ) (i : ℕ) → again ≡ weight → earlier_of weight low high ≡ stand → new ≡ old +ℤ site_slope (slopes_behind (slope_of again den) stand low 1 sites) i → new ≡ old +ℤ site_slope (slopes_behind (slope_of weight den) (earlier_of weight low high) low 1 sites) i
product_slopes weight again den low high stand sites old new i w e h =
    h ∙ ap (λ x. old +ℤ site_slope (slopes_behind (slope_of x den) stand low 1 sites) i) w ∙ ap (λ x. old +ℤ site_slope (slopes_behind (slope_of weight den) x low 1 sites) i) (sym e)

pub product_part : (weight again : ℤ) (den : ℕ) (low high stand : ℕ → ℕ) (sites : List ℕ) (z : ℕ) (corner falls all : ℤ) → again ≡ weight → earlier_of weight low high ≡ stand → z ≡ product_at low sites → corner ≡ int_div_euclid (again *ℤ pos z) (pos den) → falls ≡ rise_of (λ s. pos (low s)) (slopes_behind (slope_of again den) stand low 1 sites) → all ≡ pos 65536 *ℤ corner -ℤ falls → all ≡ pos 65536 *ℤ int_div_euclid (weight *ℤ pos (product_at low sites)) (pos den) -ℤ rise_of (λ s. pos (low s)) (slopes_behind (slope_of weight den) (earlier_of weight low high) low 1 sites)
product_part weight again den low high stand sites z corner falls all w e p k f h =
    let corner_is : corner ≡ int_div_euclid (weight *ℤ pos (product_at low sites)) (pos den) = k ∙ ap (λ x. int_div_euclid (x *ℤ pos z) (pos den)) w ∙ ap (λ x. int_div_euclid (weight *ℤ pos x) (pos den)) p in
    let falls_is : falls ≡ rise_of (λ s. pos (low s)) (slopes_behind (slope_of weight den) (earlier_of weight low high) low 1 sites) =
    f ∙ ap (λ x. rise_of (λ s. pos (low s)) (slopes_behind (slope_of x den) stand low 1 sites)) w ∙ ap (λ x. rise_of (λ s. pos (low s)) (slopes_behind (slope_of weight den) x low 1 sites)) (sym e) in
    h ∙ ap (λ x. pos 65536 *ℤ x -ℤ falls) corner_is ∙ ap (λ x. pos 65536 *ℤ int_div_euclid (weight *ℤ pos (product_at low sites)) (pos den) -ℤ x) falls_is

-- a coefficient times the parameter's number
pub weight_fits : (micro f : ℤ) (n size den : ℕ) → 1 ≤ n → unsigned_abs micro ≤ 2 ^ 55 → unsigned_abs f * n ^ size ≤ den → den ≤ 3 * 2 ^ 70 → unsigned_abs (micro *ℤ f) ≤ 3 * 2 ^ 125
weight_fits micro f n size den some m h k =
    let one : 1 ≤ n ^ size = one-le-pow size n some in
    let alone : unsigned_abs f * 1 ≤ unsigned_abs f * n ^ size = mul-le-mul_left (unsigned_abs f) one in
    omega (arith, abs-*ℤ-le micro f (2 ^ 55) (3 * 2 ^ 70) m (omega (arith, alone, h, k)))

pub weight_size : (micro f weight : ℤ) (power den : ℕ) → weight ≡ micro *ℤ f → unsigned_abs micro ≤ 2 ^ 55 → unsigned_abs f * power ≤ den → unsigned_abs weight * power ≤ 2 ^ 55 * den
weight_size micro f weight power den e m h =
    let parted : unsigned_abs weight ≡ unsigned_abs micro * unsigned_abs f = ap unsigned_abs e ∙ unsigned_abs-mul micro f in
    let turned : unsigned_abs micro * unsigned_abs f * power ≡ unsigned_abs micro * (unsigned_abs f * power) = grind arith in
    rw (parted, turned) (mul-le (unsigned_abs micro) (unsigned_abs f * power) (2 ^ 55) den m h)

-- slopes that grow by at most so much each
pub grown : (most size : ℕ) (old new : List ℤ) → size ≤ 22 → ((i : ℕ) → unsigned_abs (slice_index_or new i (pos 0)) ≤ unsigned_abs (slice_index_or old i (pos 0)) + size * 2 ^ 72) → AreWithin most old → AreWithin (most + 2 ^ 80) new
grown most size old new few h within = record { each = λ i. omega (arith, few, h i, within.each i) }

pub grown_room : (size : ℕ) (old : List ℤ) → size ≤ 22 → AreWithin (2 ^ 110) old → (i : ℕ) → unsigned_abs (slice_index_or old i (pos 0)) + size * 2 ^ 72 ≤ 2 ^ 125
grown_room size old few within i = omega (arith, few, within.each i)

pub within_more : (most more : ℕ) (slopes : List ℤ) → most ≤ more → AreWithin most slopes → AreWithin more slopes
within_more most more slopes h within = record { each = λ i. omega (arith, h, within.each i) }

pub ruleset signed_rules = (grown, grown_room, to_z-of_z)

pub ruleset added_rules = (to_z-of_z)
