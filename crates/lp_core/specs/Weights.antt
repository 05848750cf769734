-- The weights of the places of a basis: in lowest terms, then over their least common denominator.
use Rattle.std.specs.Prelude.{◌≡◌, ℕ, zero, suc, ◌*◌, ◌/◌, ◌<◌, ◌≤◌, ◌^◌, ◌≢◌}
use Rattle.std.specs.Prelude.{List, [], ◌∷◌, length, get_or, Option, Some, None, All, AllPairs}
use Rattle.std.specs.Prelude.{ℤ, pos, ◌*ℤ◌, ◌≤ℤ◌, unsigned_abs}
use Rattle.std.specs.Int.{◌∣◌}
use Rattle.cal_math.specs.Sums.{sum_of}
use Rattle.cal_math.specs.Vectors.{at, sum_to, dot}
use Rattle.lp_basis.specs.Rows.{FitsProduct}
use Rattle.lp_basis.specs.Held.{own_at, IsHeld}
use Rattle.lp_basis.specs.declared.row.Row.{Row}
use Rattle.lp_core.specs.Fitting.{IsTarget}
use Rattle.lp_core.specs.Plans.{Weight}
use Rattle.lp_core.specs.Ends.{target_product}
use Rattle.lp_core.specs.declared.weight.Fraction.{Fraction}

-- above / below, with a denominator that divides every number that makes it whole
pub record IsLowest (above below : ℕ) (fraction : Fraction) : Type 0 where
  pub exact : fraction.numerator * below ≡ above * fraction.denominator
  pub positive : 1 ≤ fraction.denominator
  pub most : fraction.denominator ≤ below
  pub lowest : (h : ℕ) → below ∣ h * above → fraction.denominator ∣ h

-- a row whose product with the target fits and is at least 0
pub record FitsRow (m w : ℕ) (row : Row) (target : List ℤ) : Type 0 where
  pub product : FitsProduct m w row.numbers.items target
  pub least : pos 0 ≤ℤ dot (length row.numbers.items) (at row.numbers.items) (at target)
  pub own : pos 1 ≤ℤ row.own

-- the rows of a basis whose products with the target are at least 0
pub record CanWeigh (b w : ℕ) (columns : ℕ → ℕ → ℤ) (rows : List Row)
    (target : List ℤ) : Type 0 where
  pub held : IsHeld (suc b) w columns rows
  pub size : length target ≡ suc b
  pub aim : IsTarget target
  pub least : (j : ℕ) → j < suc b → pos 0 ≤ℤ target_product rows target j

-- the weight of each place: its row's product with the target over its own product
pub record AreFractions (rows : List Row) (target : List ℤ)
    (fractions : List Fraction) : Type 0 where
  pub sized : length fractions ≡ length rows
  pub every : (j : ℕ) (d : Fraction) → j < length rows →
      IsLowest (unsigned_abs (target_product rows target j)) (unsigned_abs (own_at rows j)) (get_or fractions j d)

-- the least number that makes the first n fractions whole
pub record IsCommon (fractions : List Fraction) (n common : ℕ) : Type 0 where
  pub positive : 1 ≤ common
  pub divides : (j : ℕ) (d : Fraction) → j < n → (get_or fractions j d).denominator ∣ common
  pub least : (h : ℕ) → ((j : ℕ) (d : Fraction) → j < n → (get_or fractions j d).denominator ∣ h) →
      common ∣ h

-- denominators of at most 2^62, and so is what is at most each of their common multiples
pub record FitsCommon (fractions : List Fraction) : Type 0 where
  pub positive : (j : ℕ) (d : Fraction) → j < length fractions →
      1 ≤ (get_or fractions j d).denominator
  pub most : (j : ℕ) (d : Fraction) → j < length fractions →
      (get_or fractions j d).denominator ≤ 2 ^ 62
  pub small : (p : ℕ) →
      ((h : ℕ) → 1 ≤ h → ((j : ℕ) (d : Fraction) → j < length fractions →
      (get_or fractions j d).denominator ∣ h) → p ≤ h) →
      p ≤ 2 ^ 62

-- a fraction over a multiple of its denominator
abbrev pub numerator_over : Fraction → ℕ → ℕ
numerator_over fraction parts = fraction.numerator * (parts / fraction.denominator)

-- that of place j
abbrev pub weight_at : List Fraction → ℕ → ℕ → ℕ
weight_at [] parts j = 0
weight_at (fraction ∷ fractions) parts zero = numerator_over fraction parts
weight_at (fraction ∷ fractions) parts (suc j) = weight_at fractions parts j

-- what a function of the known columns is at a place: 0 at a unit
abbrev pub value_of : (ℕ → ℤ) → Option ℕ → ℤ
value_of f None = pos 0
value_of f (Some k) = f k

-- places of different known columns, with fractions that are small over the parts
pub record FitsWeights (places : List (Option ℕ)) (fractions : List Fraction)
    (parts : ℕ) : Type 0 where
  pub sized : length fractions ≡ length places
  pub positive : (j : ℕ) (d : Fraction) → j < length fractions →
      1 ≤ (get_or fractions j d).denominator
  pub small : (j : ℕ) → j < length fractions → weight_at fractions parts j ≤ 2 ^ 112
  pub different : (i j k : ℕ) → i < length places → j < length places →
      get_or places i None ≡ Some k → get_or places j None ≡ Some k → i ≡ j

-- a known column and its weight, above 0, at one of the first n places
pub record IsWeight (places : List (Option ℕ)) (fractions : List Fraction) (parts n : ℕ)
    (weight : Weight) : Type 0 where
  pub place : ℕ
  pub within : place < n
  pub column : get_or places place None ≡ Some weight.0
  pub exact : weight.1 ≡ pos (weight_at fractions parts place)
  pub above : pos 1 ≤ℤ weight.1

-- the weights above 0 of the known columns at the first n places: with them, any function of the columns adds to what it does over the places
pub record AreWeights (places : List (Option ℕ)) (fractions : List Fraction) (parts n : ℕ)
    (weights : List Weight) : Type 0 where
  pub each : All (IsWeight places fractions parts n) weights
  pub few : length weights ≤ n
  pub different : AllPairs (λ v w. v.0 ≢ w.0) weights
  pub total : (f : ℕ → ℤ) →
      sum_of (λ w. w.1 *ℤ f w.0) weights ≡
      sum_to n (λ j. pos (weight_at fractions parts j) *ℤ value_of f (get_or places j None))
