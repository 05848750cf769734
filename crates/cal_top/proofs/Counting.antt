-- Counts over two calls, one behind the other.
use Rattle.std.proofs.Common.{◌≡◌, ℕ, ◌+◌, ◌≤◌, inl, inr, arith, refl, Bool, true, false}
use Rattle.std.specs.Prelude.{◌⊎◌, min}
use Rattle.std.proofs.Math.Dec.{leb}
use Rattle.std.proofs.lemmas.Bool.{leb-true, leb-false}
use Rattle.std.proofs.Math.Nat.{le-min, min-le_left, min-le_right, min-eq_left, min-eq_right, le_trans}
use Rattle.cal_base.specs.Outside.{Rose, Raised, last_count}

one_of : (a b : ℕ) → (a ≤ b) ⊎ (b ≤ a)
one_of a b = by_test (leb a b) refl
  where
    by_test : (t : Bool) → leb a b ≡ t → (a ≤ b) ⊎ (b ≤ a)
    by_test true low = inl (leb-true a b low)
    by_test false high = inr (omega (arith, leb-false a b high))

later : (last old mid now : ℕ) → min (mid + 1) last ≤ now → old ≤ mid → min (old + 1) last ≤ now
later last old mid now rose up =
    le_trans (le-min (le_trans (min-le_left (old + 1) last) (omega (arith, up))) (min-le_right (old + 1) last)) rose

-- what rose after a call that came later rose
pub rose_later : (old mid now : ℕ) → Rose mid now → old ≤ mid → Rose old now
rose_later old mid now rose up = later last_count old mid now rose up

above : (last a b c m n : ℕ) → min (a + m) last ≤ b → min (b + n) last ≤ c → min (a + (m + n)) last ≤ c
above last a b c m n first second = elim (one_of (a + m) last) [
  | inl low ↦
      let up : a + m ≤ b = rw (min-eq_left low) at first in
      le_trans (le-min (le_trans (min-le_left (a + (m + n)) last) (omega (arith, up))) (min-le_right (a + (m + n)) last)) second
  | inr high ↦
      let up : last ≤ b = rw (min-eq_right high) at first in
      le_trans (le-min (le_trans (min-le_right (a + (m + n)) last) (omega (arith, up))) (min-le_right (a + (m + n)) last)) second
]

-- what was given by two calls
pub raised_twice : (a b c m n : ℕ) → Raised a b m → Raised b c n → Raised a c (m + n)
raised_twice a b c m n first second = (above last_count a b c m n first.0 second.0, omega (arith, first.1, second.1))
