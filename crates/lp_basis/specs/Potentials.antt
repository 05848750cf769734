-- Potentials of a basis, summed place by place over their least denominator.
use Rattle.std.specs.Prelude.{◌≡◌, ℕ, suc, ◌*◌, ◌<◌, ◌≤◌, ◌^◌, ◌/◌, List, length, get_or}
use Rattle.std.specs.Prelude.{ℤ, pos, ◌+ℤ◌, ◌*ℤ◌, ◌≤ℤ◌, unsigned_abs}
use Rattle.std.specs.Int.{◌∣◌}
use Rattle.lp_laws.specs.Bases.{IsPriced, IsReduced}
use Rattle.cal_math.specs.Vectors.{at}
use Rattle.lp_basis.specs.Held.{IsHeld}
use Rattle.lp_basis.specs.declared.row.Row.{Row}
use Rattle.lp_basis.specs.declared.potential.Part.{Part}
use Rattle.lp_basis.specs.declared.potential.Potentials.{Potentials}

-- number / large + summand / own as a whole number and a rest over large * own
pub record IsPart (number : ℤ) (large : ℕ) (summand : ℤ) (own : ℕ) (part : Part) : Type 0 where
  pub exact : part.whole *ℤ pos (large * own) +ℤ pos part.rest ≡ pos own *ℤ number +ℤ pos large *ℤ summand
  pub below : part.rest < large * own

-- each number with cost * row / own more
abbrev pub AreParts : ℕ → List ℤ → ℕ → ℤ → List ℤ → ℕ → List Part → Type 0
AreParts n numbers large cost row own parts =
    (c : ℕ) (d : Part) → c < n →
    IsPart (at numbers c) large (cost *ℤ at row c) own (get_or parts c d)

-- the greatest number that divides `all` and the first n rests
pub record IsDivisor (parts : List Part) (all n divisor : ℕ) : Type 0 where
  pub divides_all : divisor ∣ all
  pub divides : (c : ℕ) (d : Part) → c < n → divisor ∣ (get_or parts c d).rest
  pub greatest : (h : ℕ) → h ∣ all → ((c : ℕ) (d : Part) → c < n → h ∣ (get_or parts c d).rest) →
      h ∣ divisor

-- the number of which these are the whole part and the rest, over `divisor` times the denominator
abbrev pub number_at : Part → ℕ → ℕ → ℤ
number_at part denominator divisor = part.whole *ℤ pos denominator +ℤ pos (part.rest / divisor)

-- all such numbers are small
abbrev pub AreSmall : List Part → ℕ → ℕ → Type 0
AreSmall parts denominator divisor =
    (c : ℕ) (d : Part) → c < length parts → ((get_or parts c d).rest / divisor < denominator) ×
    (unsigned_abs (number_at (get_or parts c d) denominator divisor) ≤ 2 ^ 100)

-- numbers' / d' is numbers / d with cost * row / own more, and d' has no divisor above 1 in common with all of numbers'
pub record IsSummed (n : ℕ) (numbers : ℕ → ℤ) (d : ℕ) (cost : ℤ) (row : ℕ → ℤ) (own : ℤ)
    (numbers' : ℕ → ℤ) (d' : ℕ) : Type 0 where
  pub positive : 1 ≤ d'
  pub exact : (c : ℕ) → c < n →
      (pos d *ℤ own) *ℤ numbers' c ≡ pos d' *ℤ (own *ℤ numbers c +ℤ pos d *ℤ (cost *ℤ row c))
  pub reduced : IsReduced n numbers' d'

-- when the sum fits: what goes in is small, and whatever the sum is, it is small too
pub record FitsSum (numbers : List ℤ) (d : ℕ) (cost : ℤ) (row : List ℤ) (own : ℤ) : Type 0 where
  pub sized : length row ≡ length numbers
  pub d_some : 1 ≤ d
  pub d_small : d ≤ 2 ^ 62
  pub own_some : pos 1 ≤ℤ own
  pub own_small : own ≤ℤ pos (2 ^ 62)
  pub small : (c : ℕ) → unsigned_abs (at numbers c) ≤ 2 ^ 100
  pub row_small : (c : ℕ) → unsigned_abs (at row c) ≤ 2 ^ 62
  pub cost_small : unsigned_abs cost ≤ 2 ^ 55
  pub sum_small : (numbers' : ℕ → ℤ) (d' : ℕ) →
      IsSummed (length numbers) (at numbers) d cost (at row) own numbers' d' →
      (d' ≤ 2 ^ 62) ×
      ((c : ℕ) → c < length numbers → unsigned_abs (numbers' c) ≤ 2 ^ 100)

-- the rows of a basis of n columns, costs of magnitudes at most s, and room for w^n * s
pub record CanPrice (b w s : ℕ) (columns : ℕ → ℕ → ℤ) (rows : List Row)
    (costs : List ℤ) : Type 0 where
  pub held : IsHeld (suc b) w columns rows
  pub few : b < 8
  pub sized : length costs ≡ suc b
  pub small : (j : ℕ) → unsigned_abs (at costs j) ≤ s
  pub cost_room : s ≤ 2 ^ 55
  pub room : w ^ suc b * s ≤ 2 ^ 94

-- the potentials of n columns with these costs, over their least denominator
pub record IsPotentials (n : ℕ) (columns : ℕ → ℕ → ℤ) (costs : ℕ → ℤ)
    (potentials : Potentials) : Type 0 where
  pub sized : length potentials.numbers.items ≡ n
  pub priced : IsPriced n n columns costs (at potentials.numbers.items) potentials.denominator
  pub reduced : IsReduced n (at potentials.numbers.items) potentials.denominator
