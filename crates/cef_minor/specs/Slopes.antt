-- The slopes of the places of signed products on a box.
use Rattle.std.specs.Prelude.{ℕ, ◌*◌, nat_eq, List, [], ◌∷◌, ◌++◌, if◌then◌else◌, ℤ, pos, negsuc, ◌+ℤ◌, ◌*ℤ◌}
use Rattle.std.specs.Int.{int_div_euclid}
use Rattle.cal_math.specs.Sums.{sum_of}
use Rattle.cef_minor.specs.Products.{SignedProduct, product_at}

-- the slope that a place of a product gives to its site
pub record SlopeAt : Type 0 where
  pub site : ℕ
  pub slope : ℤ

-- the counts that stand for the earlier places: the lows where the product's weight is at least 0, else the highs
abbrev pub earlier_of : ℤ → (ℕ → ℕ) → (ℕ → ℕ) → ℕ → ℕ
earlier_of (pos weight) low high = low
earlier_of (negsuc weight) low high = high

-- floor (2^16 * weight * z / den), the weight being micro times the coefficient
unfoldable pub slope_of : ℤ → ℕ → ℕ → ℤ
slope_of weight den z = int_div_euclid (pos 65536 *ℤ (weight *ℤ pos z)) (pos den)

-- The slope of each place: z is `before` times the product of `earlier` at the earlier places and of the lows at the later ones.
abbrev pub slopes_behind : (ℕ → ℤ) → (ℕ → ℕ) → (ℕ → ℕ) → ℕ → List ℕ → List SlopeAt
slopes_behind slope earlier low before [] = []
slopes_behind slope earlier low before (place ∷ later) =
    record { site = place; slope = slope (before * product_at low later) } ∷ slopes_behind slope earlier low (before * earlier place) later

-- the slopes of the places of a product
abbrev pub slopes_of_product : ℤ → ℕ → (ℕ → ℕ) → (ℕ → ℕ) → SignedProduct → List SlopeAt
slopes_of_product micro den low high p =
    let weight = micro *ℤ p.coefficient in
    slopes_behind (slope_of weight den) (earlier_of weight low high) low 1 p.sites

-- the slopes of the places of all products
abbrev pub slopes_of : ℤ → ℕ → (ℕ → ℕ) → (ℕ → ℕ) → List SignedProduct → List SlopeAt
slopes_of micro den low high [] = []
slopes_of micro den low high (p ∷ products) = slopes_of_product micro den low high p ++ slopes_of micro den low high products

-- what the slope of a place at one site gives to site i
abbrev pub share : ℕ → ℤ → ℕ → ℤ
share site slope i = if nat_eq site i then slope else pos 0

-- the slope of a site: the sum of those of its places
abbrev pub site_slope : List SlopeAt → ℕ → ℤ
site_slope slopes site = sum_of (λ (s : SlopeAt). share s.site s.slope site) slopes

-- the sum over the places of slope times count
abbrev pub rise_of : (ℕ → ℤ) → List SlopeAt → ℤ
rise_of count slopes = sum_of (λ (s : SlopeAt). s.slope *ℤ count s.site) slopes

-- Z = sum over the products of floor (micro * coefficient * (product of the lows) / den)
abbrev pub corner_of : ℤ → ℕ → (ℕ → ℕ) → List SignedProduct → ℤ
corner_of micro den low products =
    sum_of (λ (p : SignedProduct). int_div_euclid ((micro *ℤ p.coefficient) *ℤ pos (product_at low p.sites)) (pos den)) products
