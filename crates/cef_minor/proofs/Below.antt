-- The plane of a parameter is below it throughout its box.
use Rattle.std.proofs.Common.{◌≡◌, ℕ, ◌*◌, ◌<◌, ◌≤◌, arith, refl, ap, sym, subst, List, [], ◌∷◌, ◌++◌, Bool, true, false, inl, inr}
use Rattle.std.specs.Prelude.{ℤ, pos, ◌*ℤ◌, ◌≤ℤ◌, if◌then◌else◌}
use Rattle.std.specs.List.{AllByRecursion}
use Rattle.std.proofs.lemmas.Int.{ints}
use Rattle.std.proofs.lemmas.Bool.Decides.{eqb_tells}
use Rattle.cef_minor.specs.Planes.{IsWithin, sum_to, are_fixed, sloping_plane, level_plane, height_of, PlaneIsBelow}
use Rattle.cef_minor.specs.Products.{SignedProduct, product_at, q_of, value_of, IsAmong, AreOver}
use Rattle.cef_minor.specs.Slopes.{SlopeAt, earlier_of, slope_of, slopes_behind, slopes_of_product, slopes_of}
use Rattle.cef_minor.proofs.Planes.{places_below}
use Rattle.cef_minor.proofs.Sites.{sites_from_places, rise-sub, sum-zero}

-- what holds of the sites of the array holds of each site among them
pub among : (P : ℕ → Type 0) (array : List ℕ) (site : ℕ) → AllByRecursion P array → IsAmong array site → P site
among P [] site all h = absurd h
among P (x ∷ array) site all (inl e) = subst P (sym e) all.0
among P (x ∷ array) site all (inr h) = among P array site all.1 h

pub all_among : (P : ℕ → Type 0) (array sites : List ℕ) → AllByRecursion P array → AllByRecursion (IsAmong array) sites → AllByRecursion P sites
all_among P array [] all h = tt
all_among P array (site ∷ sites) all h = (among P array site all h.0, all_among P array sites all h.1)

pub sites_behind : (P : ℕ → Type 0) (slope : ℕ → ℤ) (earlier low : ℕ → ℕ) (before : ℕ) (sites : List ℕ) → AllByRecursion P sites → AllByRecursion (λ (s : SlopeAt). P s.site) (slopes_behind slope earlier low before sites)
sites_behind P slope earlier low before [] h = tt
sites_behind P slope earlier low before (site ∷ sites) h = (h.0, sites_behind P slope earlier low (before * earlier site) sites h.1)

pub all_append : (P : SlopeAt → Type 0) (a b : List SlopeAt) → AllByRecursion P a → AllByRecursion P b → AllByRecursion P (a ++ b)
all_append P [] b h k = k
all_append P (s ∷ a) b h k = (h.0, all_append P a b h.1 k)

pub sites_of_slopes : (P : ℕ → Type 0) (micro : ℤ) (den : ℕ) (low high : ℕ → ℕ) (array : List ℕ) (products : List SignedProduct) → AllByRecursion P array → AreOver array products → AllByRecursion (λ (s : SlopeAt). P s.site) (slopes_of micro den low high products)
sites_of_slopes P micro den low high array [] all h = tt
sites_of_slopes P micro den low high array (p ∷ products) all h =
    let w : ℤ = micro *ℤ p.coefficient in
    all_append (λ (s : SlopeAt). P s.site) (slopes_of_product micro den low high p) (slopes_of micro den low high products)
    (sites_behind P (slope_of w den) (earlier_of w low high) low 1 p.sites (all_among P array p.sites all h.0))
    (sites_of_slopes P micro den low high array products all h.1)

pub sloping_below : (n : ℕ) (micro : ℤ) (den : ℕ) (low high count : ℕ → ℕ) (array : List ℕ) (products : List SignedProduct) → 1 ≤ den → IsWithin low high count → AllByRecursion (λ site. site < n) array → AreOver array products → height_of n (sloping_plane n micro den low high products) count ≤ℤ (pos 65536 *ℤ value_of micro den (q_of count products))
sloping_below n micro den low high count array products p within all over =
    let slopes : List SlopeAt = slopes_of micro den low high products in
    let in_range : AllByRecursion (λ (s : SlopeAt). s.site < n) slopes = sites_of_slopes (λ site. site < n) micro den low high array products all over in
    let counts = sites_from_places n slopes (λ i. pos (count i)) in_range in
    let lows = sites_from_places n slopes (λ i. pos (low i)) in_range in
    omega (arith, ints, counts, lows, rise-sub (λ i. pos (count i)) (λ i. pos (low i)) slopes, places_below micro den low high count products p within)

pub fixed_sites : (low high count : ℕ → ℕ) (array : List ℕ) → IsWithin low high count → are_fixed low high array ≡ true → AllByRecursion (λ site. count site ≡ low site) array
fixed_sites low high count [] within h = tt
fixed_sites low high count (site ∷ array) within h = elim (eqb_tells (low site) (high site)) [
  | inl same ↦
      let rest : are_fixed low high array ≡ true = rw same.0 at h in
      (omega (arith, same.1, (within site).0, (within site).1), fixed_sites low high count array within rest)
  | inr other ↦ let none : false ≡ true = rw other.0 at h in cc
]

pub product_same : (low count : ℕ → ℕ) (sites : List ℕ) → AllByRecursion (λ site. count site ≡ low site) sites → product_at count sites ≡ product_at low sites
product_same low count [] h = refl
product_same low count (site ∷ sites) h = rw (h.0, product_same low count sites h.1) refl

pub q_same : (low count : ℕ → ℕ) (array : List ℕ) (products : List SignedProduct) → AllByRecursion (λ site. count site ≡ low site) array → AreOver array products → q_of count products ≡ q_of low products
q_same low count array [] all h = refl
q_same low count array (p ∷ products) all h = rw (product_same low count p.sites (all_among (λ site. count site ≡ low site) array p.sites all h.0), q_same low count array products all h.1) refl

pub plane_is_below : PlaneIsBelow
plane_is_below n micro den low high count array products p within all over = cases (are_fixed low high array) refl
  where
    level : are_fixed low high array ≡ true → height_of n (level_plane micro den low products) count ≤ℤ (pos 65536 *ℤ value_of micro den (q_of count products))
    level e =
        let same : q_of count products ≡ q_of low products = q_same low count array products (fixed_sites low high count array within e) over in
        let flat : sum_to n (λ i. pos 0 *ℤ pos (count i)) ≡ pos 0 = sum-zero n (λ i. pos 0 *ℤ pos (count i)) (λ i lt. omega (arith, ints)) in
        omega (arith, ints, flat, ap (λ q. pos 65536 *ℤ value_of micro den q) same)

    cases : (b : Bool) → are_fixed low high array ≡ b → height_of n (if b then level_plane micro den low products else sloping_plane n micro den low high products) count ≤ℤ (pos 65536 *ℤ value_of micro den (q_of count products))
    cases true e = level e
    cases false e = sloping_below n micro den low high count array products p within all over
