-- What the code is given, and what it makes of one product and of one list.
use Rattle.std.specs.Prelude.{◌≡◌, ℕ, ◌+◌, ◌*◌, ◌^◌, ◌<◌, ◌≤◌, List, [], ◌∷◌, length, slice_index, Bool, Option, Some, None, ◌⊎◌, ℤ, pos, ◌-ℤ◌, ◌*ℤ◌, unsigned_abs}
use Rattle.std.specs.Int.{int_div_euclid}
use Rattle.std.specs.List.{AllByRecursion}
use Rattle.cal_math.specs.Sums.{sum_of}
use Rattle.cef_minor.specs.declared.form.Form.{Form}
use Rattle.cef_minor.specs.declared.form.Form.TheVariants.{Plain, Difference, Weighted}
use Rattle.cef_minor.specs.declared.frame.Frame.{Frame}
use Rattle.cef_minor.specs.Planes.{Plane, plane_of}
use Rattle.cef_minor.specs.Products.{SignedProduct, product_at, form_of, products_of}
use Rattle.cef_minor.specs.Slopes.{SlopeAt, slopes_of_product, slopes_of, rise_of}

-- the form by the lists of two or more sites, where there is one
abbrev pub found_form : ℕ → Bool → List (List ℕ) → Option Form
found_form order weighted [] = None
found_form order weighted (list ∷ []) = Some (form_of order weighted (list ∷ []))
found_form order weighted (list ∷ other ∷ lists) = Some Plain

-- the greatest magnitude of the factor for counts up to n, which is its divisor too
abbrev pub factor_most : ℕ → Form → ℕ
factor_most n Plain = 1
factor_most n (Difference i j) = n
factor_most n (Weighted o i j k) = 3 * n

-- the power of n in it
abbrev pub factor_parts : ℕ → Form → ℕ
factor_parts n Plain = 1
factor_parts n (Difference i j) = n
factor_parts n (Weighted o i j k) = n

-- the factor at counts
abbrev pub factor_at : ℕ → (ℕ → ℕ) → Form → ℤ
factor_at n count Plain = pos 1
factor_at n count (Difference i j) = pos (count i) -ℤ pos (count j)
factor_at n count (Weighted o i j k) = pos (3 * count o + n) -ℤ pos (count i + count j + count k)

-- the sites of the factor are there, and the own one is one of the three
abbrev pub IsFormIn : ℕ → Form → Type 0
IsFormIn sites Plain = Unit {0}
IsFormIn sites (Difference i j) = (i < sites) × (j < sites)
IsFormIn sites (Weighted o i j k) = (i < sites) × (j < sites) × (k < sites) × ((o ≡ i) ⊎ (o ≡ j) ⊎ (o ≡ k))

-- the lows and the highs of a frame
abbrev pub low_of : Frame → ℕ → ℕ
low_of frame site = slice_index frame.low.now site

abbrev pub high_of : Frame → ℕ → ℕ
high_of frame site = slice_index frame.high.now site

-- counts of so many sites, none above N
pub record IsFrame (frame : Frame) (sites : ℕ) : Type 0 where
  pub some : 1 ≤ frame.parts
  pub den_low : 1 ≤ frame.den
  pub den_high : frame.den ≤ 3 * 2 ^ 70
  pub micro : unsigned_abs frame.micro ≤ 2 ^ 55
  pub low_length : length frame.low.now ≡ sites
  pub high_length : length frame.high.now ≡ sites
  pub low_small : (site : ℕ) → slice_index frame.low.now site ≤ frame.parts
  pub high_small : (site : ℕ) → slice_index frame.high.now site ≤ frame.parts

-- a list of sites, and the size of a coefficient times their counts
pub record IsProduct (frame : Frame) (sites : ℕ) (coefficient : ℤ) (list : List ℕ) : Type 0 where
  pub within : AllByRecursion (λ site. site < sites) list
  pub few : length list ≤ 22
  pub power : frame.parts ^ length list ≤ 2 ^ 70
  pub room : unsigned_abs coefficient * frame.parts ^ length list ≤ frame.den

-- the sites of an array and the form of its factor
pub record IsArray (frame : Frame) (sites : ℕ) (form : Form) (all : List ℕ) : Type 0 where
  pub frame_keeps : IsFrame frame sites
  pub within : AllByRecursion (λ site. site < sites) all
  pub few : length all ≤ 21
  pub power : frame.parts ^ length all * factor_parts frame.parts form ≤ 2 ^ 70
  pub form_in : IsFormIn sites form
  pub den_is : frame.den ≡ frame.parts ^ length all * factor_most frame.parts form

-- the plane of an array on the box of the frame
abbrev pub plane_in : ℕ → Frame → Form → List ℕ → Plane
plane_in sites frame form all = plane_of sites frame.micro frame.den (low_of frame) (high_of frame) all (products_of frame.parts form all)

-- 2^16 times the floor of a product at the lows, less the sum over its places of slope times low
abbrev pub part_of : ℤ → ℕ → (ℕ → ℕ) → (ℕ → ℕ) → SignedProduct → ℤ
part_of micro den low high p =
    pos 65536 *ℤ int_div_euclid ((micro *ℤ p.coefficient) *ℤ pos (product_at low p.sites)) (pos den) -ℤ rise_of (λ s. pos (low s)) (slopes_of_product micro den low high p)

-- all products of a list
abbrev pub AreProducts : Frame → ℕ → List SignedProduct → Type 0
AreProducts frame sites products = AllByRecursion (λ (p : SignedProduct). IsProduct frame sites p.coefficient p.sites) products

-- their slopes, and the sum of their parts of the constant
abbrev pub slopes_in : Frame → List SignedProduct → List SlopeAt
slopes_in frame products = slopes_of frame.micro frame.den (low_of frame) (high_of frame) products

abbrev pub parts_in : Frame → List SignedProduct → ℤ
parts_in frame products = sum_of (λ (p : SignedProduct). part_of frame.micro frame.den (low_of frame) (high_of frame) p) products
