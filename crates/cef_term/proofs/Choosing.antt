-- The counts whose product with a factor is least, as code finds them.
use Rattle.std.proofs.Common.{◌≡◌, ℕ, ◌*◌, ◌≤◌, List, refl, arith}
use Rattle.std.specs.Prelude.{ℤ, pos, negsuc, ◌*ℤ◌, ◌≤ℤ◌, ◌<ℤ◌, unsigned_abs}
use Rattle.std.proofs.lemmas.Int.{ints, to_z-of_z}
use Rattle.cef_term.specs.Bounds.{least_product, greatest_product}
use Rattle.cef_term.specs.Kept.{counts_for, product_at, AreCounts}

pub counts_for-below : (factor : ℤ) (low high : List ℕ) → factor <ℤ pos 0 → high ≡ counts_for factor low high
counts_for-below (negsuc d) low high h = refl
counts_for-below (pos d) low high h = absurd (omega (arith, ints))

pub counts_for-above : (factor : ℤ) (low high : List ℕ) → pos 0 ≤ℤ factor → low ≡ counts_for factor low high
counts_for-above (pos d) low high h = refl
counts_for-above (negsuc d) low high h = absurd (omega (arith, ints))

pub ruleset counts_for_rules = (counts_for-below, counts_for-above, to_z-of_z)

pub least_by_counts : (factor : ℤ) (low high places : List ℕ) → pos (product_at (counts_for factor low high) places) *ℤ factor ≡ least_product (product_at low places) (product_at high places) factor
unfolding least_product
least_by_counts (pos d) low high places = refl
least_by_counts (negsuc d) low high places = refl

pub greatest_by_counts : (factor : ℤ) (low high places : List ℕ) → pos (product_at (counts_for factor high low) places) *ℤ factor ≡ greatest_product (product_at low places) (product_at high places) factor
unfolding greatest_product
greatest_by_counts (pos d) low high places = refl
greatest_by_counts (negsuc d) low high places = refl

pub counts_chosen : (n sites : ℕ) (factor : ℤ) (low high : List ℕ) → AreCounts n sites low → AreCounts n sites high → AreCounts n sites (counts_for factor low high)
counts_chosen n sites (pos d) low high l h = l
counts_chosen n sites (negsuc d) low high l h = h

pub size_chosen : (factor : ℤ) (low high places : List ℕ) (most : ℕ) → product_at low places * unsigned_abs factor ≤ most → product_at high places * unsigned_abs factor ≤ most → product_at (counts_for factor low high) places * unsigned_abs factor ≤ most
size_chosen (pos d) low high places most l h = l
size_chosen (negsuc d) low high places most l h = h
