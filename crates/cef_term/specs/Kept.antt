-- What a term keeps of its parameter: places that count on over the sublattices, the form of its factor, its divisor.
use Rattle.std.specs.Prelude.{◌≡◌, ℕ, zero, suc, ◌+◌, ◌-◌, ◌*◌, ◌^◌, ◌<◌, ◌≤◌, List, [], ◌∷◌, length, map, slice_index, Bool, true, ℤ, pos, negsuc, ◌+ℤ◌, ◌-ℤ◌, ◌*ℤ◌, unsigned_abs}
use Rattle.std.specs.Int.{int_div_euclid}
use Rattle.std.specs.List.{concat}
use Rattle.cef_core.specs.declared.phase.ParamAt.{ParamAt}
use Rattle.cef_core.specs.declared.phase.PhaseAt.{PhaseAt}
use Rattle.cef_box.specs.declared.range.Range.{Range}
use Rattle.cef_core.specs.Shapes.{places}
use Rattle.cef_box.specs.Boxes.{lows_of, highs_of, IsMember, IsSingle}
use Rattle.cef_core.specs.Parameters.{product_of, power, parameter_value}
use Rattle.cef_box.specs.Terms.{FitsSite, FitsBox, shape_of_phase, IsBetween, AreOne}
use Rattle.cef_term.specs.declared.form.Form.{Form}
use Rattle.cef_term.specs.declared.form.Form.TheVariants.{Plain, Binary, Ternary}
use Rattle.cef_term.specs.declared.narrow.NarrowShare.{NarrowShare}
use Rattle.cef_term.specs.declared.wide.WideShare.{WideShare}
use Rattle.cef_term.specs.declared.share.Share.{Share}
use Rattle.cef_term.specs.declared.share.Share.TheVariants.{Narrow, Wide}
use Rattle.cef_term.specs.Bounds.{value_of, low_of, high_of, least_product, greatest_product, least_power, greatest_power, parameter_low, parameter_high}

-- The places of an array that count on over the sublattices, the first of them from a place on.
abbrev pub placed : ℕ → List ℕ → List (List ℕ) → List (List ℕ)
placed from [] array = []
placed from (width ∷ widths) [] = []
placed from (width ∷ widths) (places ∷ array) = map (λ p. from + p) places ∷ placed (from + width) widths array

-- the form of the factor of a binary interaction: 1 at the order 0
abbrev pub binary_form : ℕ → ℕ → ℕ → Form
binary_form i j zero = Plain
binary_form i j (suc v) = Binary i j (suc v)

-- the form of the factor, by the lists of two or more places: the own constituent of a weighted ternary is that of the order
abbrev pub form_of : ℕ → ℕ → Bool → List (List ℕ) → Form
form_of n v weighted ((i ∷ j ∷ []) ∷ []) = binary_form i j v
form_of n zero true ((i ∷ j ∷ k ∷ []) ∷ []) = Ternary n i j k
form_of n (suc zero) true ((i ∷ j ∷ k ∷ []) ∷ []) = Ternary n j i k
form_of n (suc (suc v)) true ((i ∷ j ∷ k ∷ []) ∷ []) = Ternary n k i j
form_of n v weighted lists = Plain

-- the count at a place
abbrev pub count_at : List ℕ → ℕ → ℕ
count_at counts p = slice_index counts p

-- the product of the counts at the places
abbrev pub product_at : List ℕ → List ℕ → ℕ
product_at counts places = product_of (map (λ p. count_at counts p) places)

abbrev pub factor_at : Form → List ℕ → ℤ
factor_at Plain c = pos 1
factor_at (Binary i j v) c = power (pos (count_at c i) -ℤ pos (count_at c j)) v
factor_at (Ternary n o i j) c = pos (n + 2 * count_at c o) -ℤ pos (count_at c i + count_at c j)

abbrev pub least_factor_at : Form → List ℕ → List ℕ → ℤ
least_factor_at Plain low high = pos 1
least_factor_at (Binary i j v) low high = least_power (pos (count_at low i) -ℤ pos (count_at high j)) (pos (count_at high i) -ℤ pos (count_at low j)) v
least_factor_at (Ternary n o i j) low high = pos (n + 2 * count_at low o - (count_at high i + count_at high j))

abbrev pub greatest_factor_at : Form → List ℕ → List ℕ → ℤ
greatest_factor_at Plain low high = pos 1
greatest_factor_at (Binary i j v) low high = greatest_power (pos (count_at low i) -ℤ pos (count_at high j)) (pos (count_at high i) -ℤ pos (count_at low j)) v
greatest_factor_at (Ternary n o i j) low high = pos (n + 2 * count_at high o) -ℤ pos (count_at low i + count_at low j)

-- the greatest magnitude of the factor for counts up to n, which is its divisor too
abbrev pub factor_most : ℕ → Form → ℕ
factor_most n Plain = 1
factor_most n (Binary i j v) = n ^ v
factor_most n (Ternary m o i j) = 3 * n

abbrev pub IsFormIn : ℕ → ℕ → Form → Type 0
IsFormIn n sites Plain = Unit {0}
IsFormIn n sites (Binary i j v) = (i < sites) × (j < sites)
IsFormIn n sites (Ternary m o i j) = (o < sites) × (i < sites) × (j < sites) × (m ≡ n)

-- the product of the counts times a factor
abbrev pub q_at : List ℕ → List ℕ → ℤ → ℤ
q_at counts places factor = pos (product_at counts places) *ℤ factor

-- and times the factor of the form
abbrev pub value_q_at : List ℕ → Form → List ℕ → ℤ
value_q_at places form counts = pos (product_at counts places) *ℤ factor_at form counts

-- the least and the greatest of it over a box
abbrev pub least_q_at : List ℕ → Form → List ℕ → List ℕ → ℤ
least_q_at places form low high = least_product (product_at low places) (product_at high places) (least_factor_at form low high)

abbrev pub greatest_q_at : List ℕ → Form → List ℕ → List ℕ → ℤ
greatest_q_at places form low high = greatest_product (product_at low places) (product_at high places) (greatest_factor_at form low high)

-- the counts whose product with the factor is least: the highs where the factor is below 0, and the lows otherwise
abbrev pub counts_for : ℤ → List ℕ → List ℕ → List ℕ
counts_for (pos factor) low high = low
counts_for (negsuc factor) low high = high

-- how many sites a phase has
abbrev pub sites_of : PhaseAt → ℕ
sites_of phase = places phase.sites

-- what micro leaves behind the whole number times the divisor
abbrev pub rest_of : NarrowShare → ℕ
rest_of share = unsigned_abs (share.micro -ℤ share.whole *ℤ pos share.den)

-- floor (micro * q / den)
abbrev pub quotient_of : ℤ → ℤ → ℕ → ℤ
quotient_of micro q den = int_div_euclid (micro *ℤ q) (pos den)

-- A divisor up to 2^31: micro / den is whole + rest/den, and part is rest/den in 2^-64, rounded up.
pub record IsNarrow (share : NarrowShare) : Type 0 where
  pub den_low : 1 ≤ share.den
  pub den_high : share.den ≤ 2 ^ 31
  pub size : unsigned_abs share.micro ≤ 2 ^ 55
  pub whole_is : share.whole *ℤ pos share.den +ℤ pos (rest_of share) ≡ share.micro
  pub rest_high : rest_of share < share.den
  pub part_low : rest_of share * 2 ^ 64 ≤ share.part * share.den
  pub part_high : share.part * share.den < rest_of share * 2 ^ 64 + share.den
  pub part_small : share.part < 2 ^ 64

-- any other divisor
pub record IsWide (share : WideShare) : Type 0 where
  pub den_low : 1 ≤ share.den
  pub den_high : share.den ≤ 3 * 2 ^ 70
  pub size : unsigned_abs share.micro ≤ 2 ^ 55

abbrev pub micro_of : Share → ℤ
micro_of (Narrow share) = share.micro
micro_of (Wide share) = share.micro

abbrev pub den : Share → ℕ
den (Narrow share) = share.den
den (Wide share) = share.den

-- floor (micro * q / den) of a share
abbrev pub share_value : Share → ℤ → ℤ
share_value share q = value_of (micro_of share) (den share) q

pub record IsShare (share : Share) : Type 0 where
  pub den_low : 1 ≤ den share
  pub den_high : den share ≤ 3 * 2 ^ 70
  pub size : unsigned_abs (micro_of share) ≤ 2 ^ 55
  pub narrow : (kept : NarrowShare) → share ≡ Narrow kept → IsNarrow kept

-- a bound of the base's magnitude whose power has room
pub record IsRoomy (base : ℤ) (order : ℕ) : Type 0 where
  pub most : ℕ
  pub some : 1 ≤ most
  pub small : unsigned_abs base ≤ most
  pub room : most ^ order ≤ 2 ^ 62

-- counts of so many sites, none above n
pub record AreCounts (n sites : ℕ) (counts : List ℕ) : Type 0 where
  pub size : length counts ≡ sites
  pub small : (k : ℕ) → count_at counts k ≤ n

-- counts up to n at whose places the factor has room
pub record HasFactor (form : Form) (low high : List ℕ) : Type 0 where
  pub n : ℕ
  pub some : 1 ≤ n
  pub low_small : (k : ℕ) → count_at low k ≤ n
  pub high_small : (k : ℕ) → count_at high k ≤ n
  pub low_form : IsFormIn n (length low) form
  pub high_form : IsFormIn n (length high) form
  pub room : factor_most n form ≤ 2 ^ 62

-- counts up to n, with places of theirs, where no product of them is above a bound
pub record HasProduct (most : ℕ) (counts places : List ℕ) : Type 0 where
  pub n : ℕ
  pub some : 1 ≤ n
  pub small : (k : ℕ) → count_at counts k ≤ n
  pub inside : (k : ℕ) → k < length places → slice_index places k < length counts
  pub room : n ^ length places ≤ most

-- what a term keeps of a parameter of a phase
pub record IsKept (phase : PhaseAt) (p : ParamAt) (places : List ℕ) (form : Form) (share : Share) : Type 0 where
  pub some : 1 ≤ phase.lattice
  pub places_in : (k : ℕ) → k < length places → slice_index places k < sites_of phase
  pub binary_in : (i j v : ℕ) → form ≡ Binary i j v → (i < sites_of phase) × (j < sites_of phase)
  pub ternary_in : (m o i j : ℕ) → form ≡ Ternary m o i j → (o < sites_of phase) × (i < sites_of phase) × (j < sites_of phase) × (m ≡ phase.lattice)
  pub share_keeps : IsShare share
  pub micro_is : micro_of share ≡ p.micro
  pub den_is : den share ≡ phase.lattice ^ length places * factor_most phase.lattice form
  pub factor_small : factor_most phase.lattice form ≤ 2 ^ 62
  pub value_is : (site : List (List ℕ)) → FitsSite (shape_of_phase phase) site →
      parameter_value phase.lattice p site ≡ value_of p.micro (den share) (value_q_at places form (concat site))
  pub low_is : (box : List (List Range)) → FitsBox (shape_of_phase phase) box →
      parameter_low phase.lattice p box ≡ low_of p.micro (den share) (least_q_at places form (concat (lows_of box)) (concat (highs_of box))) (greatest_q_at places form (concat (lows_of box)) (concat (highs_of box)))
  pub high_is : (box : List (List Range)) → FitsBox (shape_of_phase phase) box →
      parameter_high phase.lattice p box ≡ high_of p.micro (den share) (least_q_at places form (concat (lows_of box)) (concat (highs_of box))) (greatest_q_at places form (concat (lows_of box)) (concat (highs_of box)))
  pub between : (box : List (List Range)) (site : List (List ℕ)) → FitsBox (shape_of_phase phase) box → IsMember phase.lattice box site →
      IsBetween (parameter_low phase.lattice p box) (parameter_value phase.lattice p site) (parameter_high phase.lattice p box)
  pub same : (box : List (List Range)) (site : List (List ℕ)) → FitsBox (shape_of_phase phase) box → IsMember phase.lattice box site → IsSingle box →
      AreOne (parameter_low phase.lattice p box) (parameter_value phase.lattice p site) (parameter_high phase.lattice p box)
