-- What a table of the energies of mixing of one sublattice keeps.
use Rattle.std.specs.Prelude.{◌≡◌, ℕ, ◌+◌, ◌*◌, ◌^◌, ◌<◌, ◌≤◌, List, length, slice_index_or, refl, Bool, true, Option, Some, ℤ, pos, ◌-ℤ◌, ◌*ℤ◌, ◌≤ℤ◌, ◌<ℤ◌, unsigned_abs}
use Rattle.std.specs.Coded.{Coded, code_by, coded×, coded_ℕ}
use Rattle.cal_limits.specs.declared.TheConstants.{MOST_ENERGY}
use Rattle.cef_core.specs.Mixing.{mixing_at}

-- the temperature, the lattice's number and the ratio of a sublattice
pub record Mixed : Type 0 where
  pub t : ℕ
  pub lattice : ℕ
  pub ratio : ℕ

abbrev pub mixed_code : Coded Mixed
mixed_code =
    code_by (ℕ × (ℕ × ℕ)) (coded× coded_ℕ (coded× coded_ℕ coded_ℕ)) (λ m. (m.t, (m.lattice, m.ratio))) (λ p. record { t = p.0; lattice = p.1.0; ratio = p.1.1 }) (λ _. refl)

abbrev pub entry : List ℤ → ℕ → ℤ
entry energies k = slice_index_or energies k (pos 0)

-- the energies of mixing of 0 to n parts
pub record AreEnergies (t n a : ℕ) (energies : List ℤ) : Type 0 where
  pub each : length energies ≡ n + 1
  pub entries : (k : ℕ) → k ≤ n → entry energies k ≡ mixing_at t n a k
  pub small : (k : ℕ) → unsigned_abs (entry energies k) ≤ 600000 * t * a
  pub room : 600000 * t * a ≤ MOST_ENERGY

-- the differences from each energy to the next one
pub record AreRises (energies rises : List ℤ) : Type 0 where
  pub each : length rises + 1 ≡ length energies
  pub entries : (k : ℕ) → k < length rises → entry rises k ≡ entry energies (k + 1) -ℤ entry energies k
  pub small : (k : ℕ) → unsigned_abs (entry rises k) ≤ 2 * MOST_ENERGY

-- none is below the one before
abbrev pub AreOrdered : List ℤ → Type 0
AreOrdered rises = (k : ℕ) → k + 1 < length rises → entry rises k ≤ℤ entry rises (k + 1)

-- the greatest rise of which 2^16 times is no more than a slope, as far as rises of energies go
pub record IsGreatestFall (slope most : ℤ) : Type 0 where
  pub falls : (rise : ℤ) → unsigned_abs rise ≤ 2 * MOST_ENERGY → rise ≤ℤ most → (pos 65536 *ℤ rise) ≤ℤ slope
  pub climbs : (rise : ℤ) → unsigned_abs rise ≤ 2 * MOST_ENERGY → most <ℤ rise → slope ≤ℤ (pos 65536 *ℤ rise)

-- left of the place the rises of a range are at most so much, from it on more
pub record IsTurn (rises : List ℤ) (most : ℤ) (low high place : ℕ) : Type 0 where
  pub from : low ≤ place
  pub to : place ≤ high
  pub left : (k : ℕ) → low ≤ k → k < place → entry rises k ≤ℤ most
  pub right : (k : ℕ) → place ≤ k → k < high → most <ℤ entry rises k

-- heights over slopes of at most so much have 64 bits
pub record IsNarrow (t n a slope : ℕ) : Type 0 where
  pub alone : slope ≤ 2 ^ 61
  pub share : slope * n ≤ 2 ^ 61
  pub energies : 600000 * t * a ≤ 2 ^ 45

-- the energies and their differences, whether these are known to be in order, and the steepest slope for heights of 64 bits
pub record IsTable (t n a : ℕ) (list differences : List ℤ) (convex : Bool) (steepest : Option ℕ) : Type 0 where
  pub energies : AreEnergies t n a list
  pub rises : AreRises list differences
  pub ordered : convex ≡ true → AreOrdered differences
  pub narrow : (s : ℕ) → steepest ≡ Some s → IsNarrow t n a s
