-- Lists of slopes, one for each site, and what is added to them.
use Rattle.std.specs.Prelude.{◌≡◌, ℕ, ◌≤◌, List, ℤ, pos, ◌+ℤ◌, slice_index_or, unsigned_abs}

-- no slope is of a greater magnitude
pub record AreWithin (most : ℕ) (slopes : List ℤ) : Type 0 where
  pub each : (site : ℕ) → unsigned_abs (slice_index_or slopes site (pos 0)) ≤ most

-- each slope is the one before and that of the site
abbrev pub AreRaised : (ℕ → ℤ) → List ℤ → List ℤ → Type 0
AreRaised slope before after = (site : ℕ) → slice_index_or after site (pos 0) ≡ slice_index_or before site (pos 0) +ℤ slope site
