-- The plane below signed products on a box: a slope for each site, and a constant.
use Rattle.std.specs.Prelude.{ℕ, zero, suc, ◌≤◌, ◌<◌, nat_eq, Bool, true, false, List, [], ◌∷◌, if◌then◌else◌, ℤ, pos, ◌+ℤ◌, ◌-ℤ◌, ◌*ℤ◌, ◌≤ℤ◌}
use Rattle.std.specs.List.{AllByRecursion}
use Rattle.cef_minor.specs.Products.{SignedProduct, q_of, value_of, AreOver}
use Rattle.cef_minor.specs.Slopes.{slopes_of, site_slope, corner_of}

-- a slope for each site and a constant
pub record Plane : Type 0 where
  pub slope : ℕ → ℤ
  pub constant : ℤ

-- f 0 + f 1 + .. + f (n - 1)
abbrev pub sum_to : ℕ → (ℕ → ℤ) → ℤ
sum_to zero f = pos 0
sum_to (suc n) f = sum_to n f +ℤ f n

-- the height of a plane at counts of n sites: constant + sum over the sites of slope * count
abbrev pub height_of : ℕ → Plane → (ℕ → ℕ) → ℤ
height_of n plane count = plane.constant +ℤ sum_to n (λ i. plane.slope i *ℤ pos (count i))

-- a list of counts of a box, each between its low and its high
abbrev pub IsWithin : (ℕ → ℕ) → (ℕ → ℕ) → (ℕ → ℕ) → Type 0
IsWithin low high count = (site : ℕ) → (low site ≤ count site) × (count site ≤ high site)

-- every site of the list is fixed: its low is its high
abbrev pub are_fixed : (ℕ → ℕ) → (ℕ → ℕ) → List ℕ → Bool
are_fixed low high [] = true
are_fixed low high (site ∷ sites) = if nat_eq (low site) (high site) then are_fixed low high sites else false

-- The plane of a parameter whose q is the sum of these products:
--   slope i  = the sum of the slopes of the places where site i stands,
--   constant = 2^16 * (Z - 1) - sum over the sites of slope * low.
abbrev pub sloping_plane : ℕ → ℤ → ℕ → (ℕ → ℕ) → (ℕ → ℕ) → List SignedProduct → Plane
sloping_plane n micro den low high products =
    let slope : ℕ → ℤ = site_slope (slopes_of micro den low high products) in
    record {
      slope = slope;
      constant = pos 65536 *ℤ (corner_of micro den low products -ℤ pos 1) -ℤ sum_to n (λ i. slope i *ℤ pos (low i));
    }

-- 2^16 times the value at the lows, and no slope
abbrev pub level_plane : ℤ → ℕ → (ℕ → ℕ) → List SignedProduct → Plane
level_plane micro den low products = record { slope = λ i. pos 0; constant = pos 65536 *ℤ value_of micro den (q_of low products) }

-- The plane on a box of n sites: level where every site of the array is fixed.
abbrev pub plane_of : ℕ → ℤ → ℕ → (ℕ → ℕ) → (ℕ → ℕ) → List ℕ → List SignedProduct → Plane
plane_of n micro den low high array products =
    if are_fixed low high array then level_plane micro den low products else sloping_plane n micro den low high products

-- Throughout a box the plane is below 2^16 times the value.
abbrev pub PlaneIsBelow : Type 0
PlaneIsBelow = (n : ℕ) (micro : ℤ) (den : ℕ) (low high count : ℕ → ℕ) (array : List ℕ) (products : List SignedProduct) →
    1 ≤ den → IsWithin low high count → AllByRecursion (λ site. site < n) array → AreOver array products →
    height_of n (plane_of n micro den low high array products) count ≤ℤ (pos 65536 *ℤ value_of micro den (q_of count products))
