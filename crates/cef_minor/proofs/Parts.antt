-- What code answers for each product adds to the constant of the plane.
use Rattle.std.proofs.Common.{◌≡◌, ℕ, ◌<◌, arith, List, [], ◌∷◌}
use Rattle.std.specs.Prelude.{ℤ, pos, ◌-ℤ◌, ◌*ℤ◌}
use Rattle.std.specs.List.{AllByRecursion}
use Rattle.std.specs.Int.{int_div_euclid}
use Rattle.std.proofs.lemmas.Int.{ints}
use Rattle.cal_math.specs.Sums.{sum_of}
use Rattle.cef_minor.specs.Kept.{part_of}
use Rattle.cef_minor.specs.Planes.{sloping_plane}
use Rattle.cef_minor.specs.Products.{SignedProduct, product_at}
use Rattle.cef_minor.specs.Slopes.{SlopeAt, earlier_of, slope_of, slopes_of_product, slopes_of, rise_of, corner_of}
use Rattle.cef_minor.proofs.Planes.{rise-append}
use Rattle.cef_minor.proofs.Sites.{sites_from_places}
use Rattle.cef_minor.proofs.Below.{all_append, sites_behind}

pub parts_are : (micro : ℤ) (den : ℕ) (low high : ℕ → ℕ) (products : List SignedProduct) → sum_of (λ (p : SignedProduct). part_of micro den low high p) products ≡ pos 65536 *ℤ corner_of micro den low products -ℤ rise_of (λ s. pos (low s)) (slopes_of micro den low high products)
parts_are micro den low high [] = omega (arith, ints)
parts_are micro den low high (p ∷ products) =
    omega (arith, ints, parts_are micro den low high products, rise-append (λ s. pos (low s)) (slopes_of_product micro den low high p) (slopes_of micro den low high products))

-- the sites of the products are those of their slopes
pub sites_within : (n : ℕ) (micro : ℤ) (den : ℕ) (low high : ℕ → ℕ) (products : List SignedProduct) → AllByRecursion (λ (p : SignedProduct). AllByRecursion (λ site. site < n) p.sites) products → AllByRecursion (λ (s : SlopeAt). s.site < n) (slopes_of micro den low high products)
sites_within n micro den low high [] h = tt
sites_within n micro den low high (p ∷ products) h =
    let w : ℤ = micro *ℤ p.coefficient in
    all_append (λ (s : SlopeAt). s.site < n) (slopes_of_product micro den low high p) (slopes_of micro den low high products)
    (sites_behind (λ site. site < n) (slope_of w den) (earlier_of w low high) low 1 p.sites h.0)
    (sites_within n micro den low high products h.1)

pub constant_from_parts : (n : ℕ) (micro : ℤ) (den : ℕ) (low high : ℕ → ℕ) (products : List SignedProduct) → AllByRecursion (λ (p : SignedProduct). AllByRecursion (λ site. site < n) p.sites) products → sum_of (λ (p : SignedProduct). part_of micro den low high p) products -ℤ pos 65536 ≡ (sloping_plane n micro den low high products).constant
constant_from_parts n micro den low high products within =
    let slopes : List SlopeAt = slopes_of micro den low high products in
    let lows = sites_from_places n slopes (λ s. pos (low s)) (sites_within n micro den low high products within) in
    omega (arith, ints, lows, parts_are micro den low high products)
